-- Stubs that are found by boundary, part and target.
use Rattle.linker_output.proofs.Imports.{AreLists, Back, Branch, Code, Front, IsAt, IsCode, IsNear, IsNearIn, IsNew, IsNewNear, IsOutAfter, IsOutAhead, IsOutThere, IsState, List, Middle, Part, State, StubAt, ap, arith, at, cases_order, group_at, length, level_of, list_at, list_of, new_stub, part_of, refl, stub_at, subst, sym, ℕ, ⊎_elim, ◌+◌, ◌<◌, ◌∙◌, ◌≡◌, ◌⊎◌}
use Rattle.linker_output.proofs.Near.{nearer}
use Rattle.linker_output.proofs.Passed.{below_passed, above_passed}

-- the list of a stub that is looked for
in_list : (lists : ℕ) (stubs : List StubAt) (boundary : ℕ) (part : Part) (target s : ℕ) → IsAt stubs boundary part target s
    → list_at lists stubs s ≡ list_of lists boundary target
in_list lists stubs boundary part target s is =
    ap (λ b. list_of lists b (stub_at stubs s).target) is.there.at_boundary ∙ ap (list_of lists boundary) is.there.of_target

-- those that are looked for are before the head of their list
pub before_head : (lists : ℕ) (stubs : List StubAt) (heads nexts : List ℕ) (boundary : ℕ) (part : Part) (target s : ℕ) → AreLists lists stubs heads nexts
    → IsAt stubs boundary part target s → s < at heads (list_of lists boundary target)
before_head lists stubs heads nexts boundary part target s are is =
    subst (λ l. s < at heads l) (in_list lists stubs boundary part target s is) (are.first s is.within)

-- and those before a stub of the list that isn't one of them are before the next
pub before_next : (lists : ℕ) (stubs : List StubAt) (heads nexts : List ℕ) (boundary : ℕ) (part : Part) (target j s : ℕ) → AreLists lists stubs heads nexts
    → j < length stubs → list_at lists stubs j ≡ list_of lists boundary target → ¬ IsAt stubs boundary part target j
    → IsAt stubs boundary part target s → s < j + 1 → s < at nexts j
before_next lists stubs heads nexts boundary part target j s are within listed none is below = ⊎_elim
    (λ (same : s ≡ j). absurd (none (subst (IsAt stubs boundary part target) same is)))
    (λ (apart : (s < j) ⊎ (j < s)). are.next s j (omega arith) within (in_list lists stubs boundary part target s is ∙ sym listed))
    (cases_order s j)

near_part : (part : Part) (code : Code) (branch : Branch) (stub : StubAt) → stub.part ≡ part → IsNearIn part code branch stub → IsNear code branch stub
near_part part code branch stub e near = subst (λ p. IsNearIn p code branch stub) (sym e) near

-- Where the stub of a target isn't near a branch, neither is a new one in the same part.
pub out_there : (code : Code) (state : State) (branch : Branch) (boundary : ℕ) (part : Part) (s : ℕ) → IsCode code → IsState code state → boundary < length code.boundaries.now
    → IsAt state.stubs.items boundary part branch.target s → ¬ IsNear code branch (stub_at state.stubs.items s) → IsOutThere code state branch boundary part
out_there code state branch boundary part s is_code is inside here far =
    let stub : StubAt = stub_at state.stubs.items s in
    let index : stub.index < part_of part (group_at state.groups.items boundary) =
    subst (λ p. stub.index < part_of p (group_at state.groups.items boundary)) here.there.in_part
    (subst (λ b. stub.index < part_of stub.part (group_at state.groups.items b)) here.there.at_boundary (is.parts s here.within).index) in
    record {
      old = λ t there near. ⊎_elim
          (λ (same : t ≡ s). far (subst (λ k. IsNear code branch (stub_at state.stubs.items k)) same near))
          (λ (apart : (t < s) ⊎ (s < t)). ⊎_elim
          (λ (below : t < s). is.shared t s below here.within (there.there.at_boundary ∙ sym here.there.at_boundary) (there.there.in_part ∙ sym here.there.in_part) (there.there.of_target ∙ sym here.there.of_target))
          (λ (above : s < t). is.shared s t above there.within (here.there.at_boundary ∙ sym there.there.at_boundary) (here.there.in_part ∙ sym there.there.in_part) (here.there.of_target ∙ sym there.there.of_target))
          apart)
          (cases_order t s);
      new = λ near. far (near_part part code branch stub here.there.in_part
          (nearer part code branch stub (new_stub code state branch boundary part) is_code.len here.there.at_boundary (omega arith)
          (λ e. subst (λ b. branch.offset < at code.boundaries.now b) (sym e) (above_passed code.boundaries.now branch.offset (subst (λ b. b < length code.boundaries.now) e inside)))
          (below_passed code.boundaries.now branch.offset boundary)
          near));
    }

-- A branch that is near none in the parts next to it is near none.
module _ (code : Code) (state : State) (branch : Branch)
    (front : IsOutAhead code state branch) (back : IsOutAfter code state branch) where
  none_in : (part : Part) (s : ℕ) → s < length state.stubs.items → (stub_at state.stubs.items s).boundary < length code.boundaries.now → (stub_at state.stubs.items s).part ≡ part
      → (stub_at state.stubs.items s).target ≡ branch.target → ¬ IsNearIn part code branch (stub_at state.stubs.items s)
  none_in Front s within inside e target near =
      (front (subst (λ b. b < length code.boundaries.now) near.0 inside)).old s (record { within = within; there = record { at_boundary = near.0; in_part = e; of_target = target } })
      (near_part Front code branch (stub_at state.stubs.items s) e near)
  none_in Middle s within inside e target near = near
  none_in Back s within inside e target near =
      (back (stub_at state.stubs.items s).boundary near.0).old s (record { within = within; there = record { at_boundary = refl; in_part = e; of_target = target } })
      (near_part Back code branch (stub_at state.stubs.items s) e near)

  pub no_near : IsState code state → (j : ℕ) → j < length state.stubs.items → (stub_at state.stubs.items j).target ≡ branch.target → ¬ IsNear code branch (stub_at state.stubs.items j)
  no_near is s within target near = none_in (stub_at state.stubs.items s).part s within (is.parts s within).boundary refl target near

-- a new stub in a part next to a branch
pub new_near : (code : Code) (state : State) (branch : Branch) (boundary : ℕ) (part : Part) → level_of part ≡ 2
    → IsNewNear code state branch boundary part → IsNew code state branch boundary part
new_near code state branch boundary Front next near = near
new_near code state branch boundary Middle next near = absurd (omega arith)
new_near code state branch boundary Back next near = near
