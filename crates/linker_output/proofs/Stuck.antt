-- A branch that reaches no boundary next to it reaches no boundary.
use Rattle.linker_output.proofs.Imports.{Back, Branch, Code, Front, Group, HasPart, IsCode, IsLaidOut, IsLayout, IsNear, IsNearIn, IsState, IsStuck, IsStuckIn, Layout, List, Middle, Part, Reaches, ReachesAt, State, StubAt, ap, arith, at, branch_at, cases_lt, cases_order, end_of, group_at, length, mul-le-mul_left, nat_le, part_of, passed, place_in, place_of, prefix_len-le-length, refl, start_of, stub_at, stubs_in, subst, sym, ℕ, ⊎_elim, ◌*◌, ◌+◌, ◌-◌, ◌<◌, ◌≡◌, ◌≤◌, ◌⊎◌}
use Rattle.linker_output.specs.Placement.{moved}
use Rattle.linker_output.proofs.Apart.{fits_at, ends_before, inside_in}
use Rattle.linker_output.proofs.Finding.{no_near}
use Rattle.linker_output.proofs.Passed.{below_passed, above_passed}

-- what is out of reach ahead, and what is farther
out_ahead : (back fwd from to : ℕ) → from ≤ to → ¬ Reaches back fwd from to → from + fwd ≤ to
out_ahead back fwd from to h out = ⊎_elim (λ (near : to < from + fwd). absurd (out (record { forward = near; backward = omega arith }))) (λ (far : from + fwd ≤ to). far) (cases_lt to (from + fwd))

out_after : (back fwd from to : ℕ) → to < from → ¬ Reaches back fwd from to → to + back < from
out_after back fwd from to h out = ⊎_elim (λ (far : to + back < from). far) (λ (near : from ≤ to + back). absurd (out (record { forward = omega arith; backward = near }))) (cases_lt (to + back) from)

-- the place after the first stubs of the next boundary is out of reach, and that before the last
-- stubs of the boundary before it
abbrev pub IsOutFront : Code → List Group → Branch → Type 0
IsOutFront code groups branch = passed code.boundaries.now branch.offset < length code.boundaries.now
    → ¬ Reaches branch.max_backward branch.max_forward branch.offset
    (at code.boundaries.now (passed code.boundaries.now branch.offset)
    + code.shape.len * (group_at groups (passed code.boundaries.now branch.offset)).front)

abbrev pub IsOutBack : Code → List Group → Branch → Type 0
IsOutBack code groups branch = (b : ℕ) → b + 1 ≡ passed code.boundaries.now branch.offset
    → ¬ Reaches branch.max_backward branch.max_forward
    (branch.offset + code.shape.len * ((group_at groups b).back + 1))
    (at code.boundaries.now b)

module _ (code : Code) (groups : List Group) (before : List ℕ) (branch : Branch) (is_code : IsCode code) (laid : IsLaidOut code.shape groups before) (len : length groups ≡ length code.boundaries.now) where
  passed_within : passed code.boundaries.now branch.offset ≤ length code.boundaries.now
  passed_within = prefix_len-le-length (λ b. nat_le b branch.offset) code.boundaries.now

  module _ (out : IsOutFront code groups branch) where
    pub edge_ahead : passed code.boundaries.now branch.offset < length code.boundaries.now → moved code.boundaries.now before branch.offset + branch.max_forward
        ≤ start_of code.boundaries.now before (passed code.boundaries.now branch.offset) + code.shape.len * (group_at groups (passed code.boundaries.now branch.offset)).front
    edge_ahead h = let above = above_passed code.boundaries.now branch.offset h in let far = out_ahead _ _ _ _ (omega arith) (out h) in omega arith

    -- and so is all after it
    pub out_from : (to : ℕ) → passed code.boundaries.now branch.offset < length code.boundaries.now
        → start_of code.boundaries.now before (passed code.boundaries.now branch.offset) + code.shape.len * (group_at groups (passed code.boundaries.now branch.offset)).front ≤ to
        → ¬ ReachesAt code before branch to
    out_from to h far reached = let e = edge_ahead h in let r = reached.forward in absurd (omega arith)

    pub edge_within : (k : ℕ) → passed code.boundaries.now branch.offset < k → k < length code.boundaries.now
        → start_of code.boundaries.now before (passed code.boundaries.now branch.offset) + code.shape.len * (group_at groups (passed code.boundaries.now branch.offset)).front ≤ start_of code.boundaries.now before k
    edge_within k h within =
        let a = ends_before code groups before is_code laid len (passed code.boundaries.now branch.offset) k h within in
        let f : (group_at groups (passed code.boundaries.now branch.offset)).front ≤ stubs_in (group_at groups (passed code.boundaries.now branch.offset)) = omega arith in
        omega (arith, fits_at code groups before is_code laid len (passed code.boundaries.now branch.offset) (omega arith), mul-le-mul_left code.shape.len f)

    pub ahead : (k : ℕ) → passed code.boundaries.now branch.offset ≤ k → k < length code.boundaries.now
        → ¬ ReachesAt code before branch (start_of code.boundaries.now before k + code.shape.len * (group_at groups k).front)
    ahead k h within = ⊎_elim
        (λ (more : passed code.boundaries.now branch.offset < k). out_from _ (omega arith) (let e = edge_within k more within in omega arith))
        (λ (same : k ≤ passed code.boundaries.now branch.offset). let e : k ≡ passed code.boundaries.now branch.offset = omega arith in rw e (out_from _ (omega arith) (omega arith)))
        (cases_lt (passed code.boundaries.now branch.offset) k)

  module _ (out : IsOutBack code groups branch) where
    pub edge_after : (b : ℕ) → b + 1 ≡ passed code.boundaries.now branch.offset → end_of code.boundaries.now before b + branch.max_backward
        < moved code.boundaries.now before branch.offset + code.shape.len * ((group_at groups b).back + 1)
    edge_after b e =
        let low = below_passed code.boundaries.now branch.offset b (omega arith) in
        let l = is_code.len in
        let one = mul-le-mul_left code.shape.len (one_least (group_at groups b).back) in
        let far = out_after _ _ _ _ (omega arith) (out b e) in
        let same = ap (at before) e in
        omega arith
      where
        one_least : (n : ℕ) → 1 ≤ n + 1
        one_least n = omega arith

    -- and so is all before it
    pub out_to : (b to : ℕ) → b + 1 ≡ passed code.boundaries.now branch.offset → to + code.shape.len * ((group_at groups b).back + 1) ≤ end_of code.boundaries.now before b → ¬ ReachesAt code before branch to
    out_to b to e far reached = let h = edge_after b e in let r = reached.backward in absurd (omega arith)

    pub following : (k : ℕ) → k < passed code.boundaries.now branch.offset
        → ¬ Reaches branch.max_backward branch.max_forward (moved code.boundaries.now before branch.offset + code.shape.len * ((group_at groups k).back + 1)) (end_of code.boundaries.now before k)
    following k h reached = ⊎_elim
        (λ (less : k + 1 < passed code.boundaries.now branch.offset).
        let w = passed_within in
        let b : ℕ = passed code.boundaries.now branch.offset - 1 in
        let edge = edge_after b (omega arith) in
        let r = reached.backward in
        let a = ends_before code groups before is_code laid len k b (omega arith) (omega arith) in
        let n : (group_at groups b).back ≤ stubs_in (group_at groups b) = omega arith in
        absurd (omega (arith, fits_at code groups before is_code laid len b (omega arith), mul-le-mul_left code.shape.len n, mul-le-mul_left code.shape.len (least (group_at groups k).back))))
        (λ (same : passed code.boundaries.now branch.offset ≤ k + 1).
        absurd (omega (arith, edge_after k (omega arith), reached.backward)))
        (cases_lt (k + 1) (passed code.boundaries.now branch.offset))
      where
        least : (n : ℕ) → 1 ≤ n + 1
        least n = omega arith

  module _ (unreached : IsOutFront code groups branch × IsOutBack code groups branch) where
    at_next : (part : Part) (s : StubAt) → s.boundary < length code.boundaries.now → s.index < part_of part (group_at groups s.boundary) → ¬ IsNearIn part code branch s → s.boundary ≡ passed code.boundaries.now branch.offset
        → ¬ ReachesAt code before branch (place_in part (start_of code.boundaries.now before s.boundary) (end_of code.boundaries.now before s.boundary) code.shape.len (group_at groups s.boundary) s.index)
    at_next Front s within index far e reached =
        let r = reached in
        far (e, record { forward = omega (arith, ap (at before) e, r.forward); backward = omega (arith, ap (at before) e, r.backward) })
    at_next Middle s within index far e reached =
        let product = mul-le-mul_left code.shape.len (least (group_at groups s.boundary).front s.index) in
        let edge : start_of code.boundaries.now before (passed code.boundaries.now branch.offset) + code.shape.len * (group_at groups (passed code.boundaries.now branch.offset)).front ≤ start_of code.boundaries.now before s.boundary + code.shape.len * ((group_at groups s.boundary).front + s.index) = subst (λ b. start_of code.boundaries.now before b + code.shape.len * (group_at groups b).front ≤ start_of code.boundaries.now before s.boundary + code.shape.len * ((group_at groups s.boundary).front + s.index)) e (omega arith) in
        out_from unreached.0 _ (omega arith) edge reached
      where
        least : (f i : ℕ) → f ≤ f + i
        least f i = omega arith
    at_next Back s within index far e reached =
        let fits = fits_at code groups before is_code laid len s.boundary within in
        let most : (group_at groups s.boundary).front + (s.index + 1) ≤ stubs_in (group_at groups s.boundary) = omega arith in
        let product = mul-le-mul_left code.shape.len most in
        let edge : start_of code.boundaries.now before (passed code.boundaries.now branch.offset) + code.shape.len * (group_at groups (passed code.boundaries.now branch.offset)).front ≤ end_of code.boundaries.now before s.boundary - code.shape.len * (s.index + 1) = subst (λ b. start_of code.boundaries.now before b + code.shape.len * (group_at groups b).front ≤ end_of code.boundaries.now before s.boundary - code.shape.len * (s.index + 1)) e (omega arith) in
        out_from unreached.0 _ (omega arith) edge reached

    at_last : (part : Part) (s : StubAt) → s.boundary < length code.boundaries.now → s.index < part_of part (group_at groups s.boundary) → ¬ IsNearIn part code branch s → s.boundary + 1 ≡ passed code.boundaries.now branch.offset
        → ¬ ReachesAt code before branch (place_in part (start_of code.boundaries.now before s.boundary) (end_of code.boundaries.now before s.boundary) code.shape.len (group_at groups s.boundary) s.index)
    at_last Front s within index far e reached =
        let most : s.index + ((group_at groups s.boundary).back + 1) ≤ stubs_in (group_at groups s.boundary) = omega arith in
        out_to unreached.1 s.boundary _ e (omega (arith, fits_at code groups before is_code laid len s.boundary within, mul-le-mul_left code.shape.len most)) reached
    at_last Middle s within index far e reached =
        let most : (group_at groups s.boundary).front + s.index + ((group_at groups s.boundary).back + 1) ≤ stubs_in (group_at groups s.boundary) = omega arith in
        out_to unreached.1 s.boundary _ e (omega (arith, fits_at code groups before is_code laid len s.boundary within, mul-le-mul_left code.shape.len most)) reached
    at_last Back s within index far e reached =
        let fits = fits_at code groups before is_code laid len s.boundary within in
        let most : s.index + 1 ≤ stubs_in (group_at groups s.boundary) = omega arith in
        let product = mul-le-mul_left code.shape.len most in
        let r = reached in
        far (e, record { forward = omega (arith, ap (at before) e, r.forward); backward = omega (arith, ap (at before) e, r.backward) })

    pub stub_out : (s : StubAt) → HasPart code groups s → ¬ IsNear code branch s → ¬ ReachesAt code before branch (place_of code groups before s)
    stub_out s has far reached =
        let sides = inside_in s.part (start_of code.boundaries.now before s.boundary) (end_of code.boundaries.now before s.boundary) code.shape.len (group_at groups s.boundary) s.index has.index (fits_at code groups before is_code laid len s.boundary has.boundary) in
        ⊎_elim
        (λ (same : s.boundary ≡ passed code.boundaries.now branch.offset). at_next s.part s has.boundary has.index far same reached)
        (λ (other : (s.boundary < passed code.boundaries.now branch.offset) ⊎ (passed code.boundaries.now branch.offset < s.boundary)). ⊎_elim
        (λ (lower : s.boundary < passed code.boundaries.now branch.offset). ⊎_elim
        (λ (less : s.boundary + 1 < passed code.boundaries.now branch.offset).
        let w = passed_within in
        let b : ℕ = passed code.boundaries.now branch.offset - 1 in
        let e : b + 1 ≡ passed code.boundaries.now branch.offset = omega arith in
        let a = ends_before code groups before is_code laid len s.boundary b (omega arith) (omega arith) in
        let f = fits_at code groups before is_code laid len b (omega arith) in
        let n : (group_at groups b).back ≤ stubs_in (group_at groups b) = omega arith in
        let m = mul-le-mul_left code.shape.len n in
        out_to unreached.1 b _ e (omega (arith, sides.1)) reached)
        (λ (last : passed code.boundaries.now branch.offset ≤ s.boundary + 1). at_last s.part s has.boundary has.index far (omega arith) reached)
        (cases_lt (s.boundary + 1) (passed code.boundaries.now branch.offset)))
        (λ (higher : passed code.boundaries.now branch.offset < s.boundary).
        let inside = has.boundary in
        let edge = edge_within unreached.0 s.boundary higher has.boundary in
        out_from unreached.0 _ (omega arith) (omega (arith, sides.0)) reached)
        other)
        (cases_order s.boundary (passed code.boundaries.now branch.offset))

pub stuck : (code : Code) (state : State) (layout : Layout) (i : ℕ) → IsCode code → IsState code state → IsLayout code layout
    → layout.stubs ≡ state.stubs → layout.groups ≡ state.groups → IsStuckIn code layout.before.items layout.places.items state i → IsStuck code layout (branch_at code.branches.now i)
stuck code state layout i is_code is are stubs groups out =
    let branch = branch_at code.branches.now i in
    let unreached : IsOutFront code layout.groups.items branch × IsOutBack code layout.groups.items branch =
    subst (λ g. IsOutFront code g.items branch × IsOutBack code g.items branch) (sym groups)
    (λ h reached. (out.out.0 h).new (refl, reached), λ b e reached. (out.out.1 b e).new (e, reached)) in
    let none : (j : ℕ) → j < length layout.stubs.items → (stub_at layout.stubs.items j).target ≡ branch.target → ¬ IsNear code branch (stub_at layout.stubs.items j) =
    subst (λ v. (j : ℕ) → j < length v.items → (stub_at v.items j).target ≡ branch.target → ¬ IsNear code branch (stub_at v.items j)) (sym stubs) (no_near code state branch out.out.0 out.out.1 is) in
    record {
      target = out.lost.target;
      stubs = λ j h e. subst (λ x. ¬ ReachesAt code layout.before.items branch x) (sym (are.places j h)) (stub_out code layout.groups.items layout.before.items branch is_code are.laid_out are.boundaries unreached (stub_at layout.stubs.items j) (are.stubs j h) (none j h e));
      ahead = ahead code layout.groups.items layout.before.items branch is_code are.laid_out are.boundaries unreached.0;
      following = following code layout.groups.items layout.before.items branch is_code are.laid_out are.boundaries unreached.1;
    }
