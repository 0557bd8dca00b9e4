-- The choice of shapes and the choice of calls are one.
use Rattle.linker_runs.proofs.Imports.{AreInReach, AreItems, Bool, CallsAreShrunkAlike, HaveNoAlignment, IsChosen, IsDeletedItem, IsGreatest, IsInReachExactly, IsRelaxation, IsRunOf, IsSite, Item, List, [], ap, arith, call_shapes, cases_eq, cases_lt, choice_of, chosen_deletions, cond, deletions_before, eqb, false, false≢true, freed_before, get_or, get_or_default, is_in_reach, item_at, kept_by, length, nat_tests, offset_of, pair_at, place_of, rank, refl, shape_reaches, subst, suc, sym, target_of, true, with_chosen, zero, ℕ, ⊎_elim, ◌-◌, ◌<◌, ◌↔◌, ◌∙◌, ◌∷◌, ◌≡◌, ◌≤◌}
use Rattle.linker_runs.proofs.Translations.{KeepsLayout, translations_of}
use Rattle.linker_riscv64.specs.Shrinking.{IsInReach}
use Rattle.linker_runs.proofs.Covering.{takes, same_test, takes_joined, takes_left, takes_right, Loses, losing, lost, taking, taken, choosing, chosen_takes, rank_alike}
use Rattle.linker_runs.proofs.Reaching.{call_loses, call_keeps, deleted_loses, jal_reaches, call_reaches, long_reaches, deleted_reaches, call_place, deleted_site}

-- the items of the chosen calls have their shortest shape, and those of the others don't
pub record Agree (calls : List (ℕ × ℕ)) (place choice : ℕ → ℕ) (chosen : List Bool) : Type 0 where
  pub into : (i : ℕ) → i < length calls → choice (place i) ≡ 0 → IsChosen chosen i
  pub from : (i : ℕ) → i < length calls → IsChosen chosen i → choice (place i) ≡ 0

takes_same : (start : ℕ) (deletions calls : List (ℕ × ℕ)) (items : List Item) (place choice : ℕ → ℕ) (kept : List ℕ) (chosen : List Bool) → IsRunOf deletions calls items place → KeepsLayout start items choice kept → Agree calls place choice chosen
    → (p : ℕ) → takes (deletions_before items kept (length items)) p ≡ takes (with_chosen deletions calls chosen) p
takes_same start deletions calls items place choice kept chosen rel keeps agree p =
    same_test (takes (deletions_before items kept (length items)) p) (takes (with_chosen deletions calls chosen) p)
    (λ h.
    let found = losing items kept p (length items) h in
    let j = found.0 in
    ⊎_elim
    (λ (call : (i : ℕ) × (i < length calls) × (place i ≡ j)).
    let i = call.0 in
    let is = rel.calls_in i call.1 in
    let here = subst (Loses items kept p) (sym call.2) found.2 in
    ⊎_elim
    (λ (long : 0 < choice (place i)). absurd (false≢true (sym (call_keeps start (item_at items (place i)) (pair_at calls i) (choice (place i)) (freed_before start items choice (place i)) (get_or kept (place i) 0) p is.1 (keeps (place i) is.0) long) ∙ here)))
    (λ (short : choice (place i) ≤ 0).
    let is_zero : choice (place i) ≡ 0 = omega arith in
    let e = call_loses start (item_at items (place i)) (pair_at calls i) (choice (place i)) (freed_before start items choice (place i)) (get_or kept (place i) 0) p is.1 (keeps (place i) is.0) is_zero in
    takes_right deletions (chosen_deletions calls chosen) p (chosen_takes calls chosen p i call.1 (agree.into i call.1 is_zero) (sym e ∙ here)))
    (cases_lt 0 (choice (place i))))
    (λ (gone : (i : ℕ) × (i < length deletions) × IsDeletedItem (pair_at deletions i) (item_at items j)).
    takes_left deletions (chosen_deletions calls chosen) p (taken deletions p gone.0 gone.1 (sym (deleted_loses start (item_at items j) (pair_at deletions gone.0) (choice j) (freed_before start items choice j) (get_or kept j 0) p gone.2 (keeps j found.1)) ∙ found.2)))
    (rel.all j found.1))
    (λ h. ⊎_elim
    (λ (gone : takes deletions p ≡ true).
    let d = taking deletions p gone in
    let at = rel.deletions_in d.0 d.1 in
    lost items kept p (length items) at.0 at.1 (deleted_loses start (item_at items at.0) (pair_at deletions d.0) (choice at.0) (freed_before start items choice at.0) (get_or kept at.0 0) p at.2 (keeps at.0 at.1) ∙ d.2))
    (λ (short : takes (chosen_deletions calls chosen) p ≡ true).
    let c = choosing calls chosen p short in
    let is = rel.calls_in c.0 c.1 in
    lost items kept p (length items) (place c.0) is.0 (call_loses start (item_at items (place c.0)) (pair_at calls c.0) (choice (place c.0)) (freed_before start items choice (place c.0)) (get_or kept (place c.0) 0) p is.1 (keeps (place c.0) is.0) (agree.from c.0 c.1 c.2) ∙ c.3))
    (takes_joined deletions (chosen_deletions calls chosen) p h))

-- a call with its `jal` is in reach by the one exactly where it is by the other
pub reach_same : (start : ℕ) (deletions calls : List (ℕ × ℕ)) (items : List Item) (place choice : ℕ → ℕ) (kept : List ℕ) (chosen : List Bool) → AreItems start items → IsRunOf deletions calls items place → KeepsLayout start items choice kept → Agree calls place choice chosen
    → (i : ℕ) → i < length calls → choice (place i) ≡ 0 → (is_in_reach start items choice (place i) ≡ true) ↔ IsInReach (with_chosen deletions calls chosen) (pair_at calls i)
reach_same start deletions calls items place choice kept chosen are rel keeps agree i within short =
    let is = rel.calls_in i within in
    let item = item_at items (place i) in
    let call = pair_at calls i in
    let ds = with_chosen deletions calls chosen in
    let here = freed_before start items choice (place i) in
    let there = freed_before start items choice (place_of items (target_of item)) in
    let at = call_place item call is.1 in
    let t = translations_of start items choice kept are keeps (place i) is.0 in
    let same = rank_alike (deletions_before items kept (length items)) ds (takes_same start deletions calls items place choice kept chosen rel keeps agree) in
    let to : target_of item - there ≡ rank ds call.1 = sym t.1 ∙ same (target_of item) ∙ ap (rank ds) at.1 in
    let reaches = call_reaches item call (choice (place i)) here there is.1 short in
    let jal = jal_reaches (rank ds call.0) (rank ds call.1) in
    let moved : shape_reaches call_shapes 0 (offset_of item - here) (target_of item - there) ≡ shape_reaches call_shapes 0 (rank ds call.0) (rank ds call.1) =
    ap (λ f. shape_reaches call_shapes 0 f (target_of item - there)) (sym t.0 ∙ same (offset_of item) ∙ ap (rank ds) at.0) ∙ ap (λ g. shape_reaches call_shapes 0 (rank ds call.0) g) to in (
      λ h. jal.0 (sym moved ∙ sym reaches ∙ h),
      λ h. reaches ∙ moved ∙ jal.1 h,
    )

-- a list of the values of a function
tabled : {X : Type 0} (f : ℕ → X) (n : ℕ) → (xs : List X) × (length xs ≡ n) × ((i : ℕ) (d : X) → i < n → get_or xs i d ≡ f i)
tabled f zero = ([], refl, λ i d within. absurd (omega arith))
tabled {X} f (suc n) =
    let rest = tabled (λ i. f (suc i)) n in
    (f 0 ∷ rest.0, omega (arith, rest.1), at (f 0) rest.0 rest.2)
  where
    at : (x : X) (xs : List X) → ((i : ℕ) (d : X) → i < n → get_or xs i d ≡ f (suc i)) → (i : ℕ) (d : X) → i < suc n → get_or (f 0 ∷ xs) i d ≡ f i
    at x xs others zero d within = refl
    at x xs others (suc i) d within = others i d (omega arith)

-- the shape of a call, by whether it is chosen
abbrev shape_of : Bool → ℕ
shape_of chosen = cond chosen 0 1

-- the shapes that a choice of calls gives the items
long_at : (ℕ → ℕ) → List Bool → ℕ → ℕ → ℕ
long_at place chosen zero j = 0
long_at place chosen (suc n) j = cond (eqb (place n) j) (shape_of (get_or chosen n false)) (long_at place chosen n j)

long_is : (place : ℕ → ℕ) (chosen : List Bool) (n i : ℕ) → i < n → ((j : ℕ) → j < n → place j ≡ place i → j ≡ i) → long_at place chosen n (place i) ≡ shape_of (get_or chosen i false)
unfolding long_at
long_is place chosen zero i within once = absurd (omega arith)
long_is place chosen (suc n) i within once = ⊎_elim
    (λ (same : place n ≡ place i).
    let test : eqb (place n) (place i) ≡ true = grind (arith, nat_tests) in
    ap (λ b. cond b (shape_of (get_or chosen n false)) (long_at place chosen n (place i))) test ∙ ap (λ m. shape_of (get_or chosen m false)) (once n (omega arith) same))
    (λ (other : place n ≡ place i → ⊥).
    let test : eqb (place n) (place i) ≡ false = grind (arith, nat_tests) in
    let below : i < n = ⊎_elim (λ (h : i < n). h) (λ (h : n ≤ i). let e : n ≡ i = omega arith in absurd (other (ap place e))) (cases_lt i n) in
    ap (λ b. cond b (shape_of (get_or chosen n false)) (long_at place chosen n (place i))) test ∙ long_is place chosen n i below (λ j h e. once j (omega arith) e))
    (cases_eq (place n) (place i))

one_or_none : (b : Bool) → b ≡ true → shape_of b ≡ 0
one_or_none b is = ap shape_of is

-- the calls that the shapes make short
short_calls : (choice place : ℕ → ℕ) → ℕ → Bool
short_calls choice place i = eqb (choice (place i)) 0

into_greatest : (start : ℕ) (deletions calls : List (ℕ × ℕ)) (items : List Item) (place : ℕ → ℕ) (shapes kept freed : List ℕ) (chosen : List Bool) → AreItems start items → IsRunOf deletions calls items place → IsRelaxation start items shapes kept freed → IsGreatest deletions calls chosen
    → (i : ℕ) → i < length calls → choice_of shapes (place i) ≡ 0 → IsChosen chosen i
unfolding short_calls
into_greatest start deletions calls items place shapes kept freed chosen are rel relaxed greatest i within short =
    let choice = choice_of shapes in
    let table = tabled (short_calls choice place) (length calls) in
    let own = table.0 in
    let is : (k : ℕ) → k < length calls → get_or own k false ≡ eqb (choice (place k)) 0 = λ k below. table.2 k false below in
    let agree : Agree calls place choice own = record {
      into = λ k below zero_at. is k below ∙ yes (choice (place k)) zero_at;
      from = λ k below in_own. is_zero (choice (place k)) (sym (is k below) ∙ in_own);
    } in
    let reach : AreInReach deletions calls own = λ k call below in_own.
    let zero_at = agree.from k below in_own in
    let h = (reach_same start deletions calls items place choice kept own are rel relaxed.kept_bytes.each agree k below zero_at).0 (relaxed.reached (place k) (rel.calls_in k below).0) in
    subst (IsInReach (with_chosen deletions calls own)) (get_or_default calls k (0, 0) call below) h in
    greatest.has_others own table.1 reach i (agree.into i within short)
  where
    yes : (n : ℕ) → n ≡ 0 → eqb n 0 ≡ true
    yes n e = grind (arith, nat_tests)

    is_zero : (n : ℕ) → eqb n 0 ≡ true → n ≡ 0
    is_zero n e = grind (arith, nat_tests)

from_greatest : (start : ℕ) (deletions calls : List (ℕ × ℕ)) (items : List Item) (place : ℕ → ℕ) (shapes kept freed : List ℕ) (chosen : List Bool) → AreItems start items → IsRunOf deletions calls items place → IsRelaxation start items shapes kept freed → IsGreatest deletions calls chosen
    → (i : ℕ) → i < length calls → IsChosen chosen i → choice_of shapes (place i) ≡ 0
from_greatest start deletions calls items place shapes kept freed chosen are rel relaxed greatest i within is =
    let other = long_at place chosen (length calls) in
    let value : (k : ℕ) → k < length calls → other (place k) ≡ shape_of (get_or chosen k false) = λ k below. long_is place chosen (length calls) k below (λ j h e. rel.once j k h below e) in
    let table = tabled (λ j. kept_by start (item_at items j) (other j) (freed_before start items other j)) (length items) in
    let agree : Agree calls place other chosen = record {
      into = λ k below zero_at. in_chosen (get_or chosen k false) (sym (value k below) ∙ zero_at);
      from = λ k below in_chosen. value k below ∙ one_or_none (get_or chosen k false) in_chosen;
    } in
    let sites : HaveNoAlignment items = λ j below. ⊎_elim
    (λ (call : (k : ℕ) × (k < length calls) × (place k ≡ j)). subst (λ n. IsSite (item_at items n)) call.2 (call_place (item_at items (place call.0)) (pair_at calls call.0) (rel.calls_in call.0 call.1).1).2)
    (λ (gone : (k : ℕ) × (k < length deletions) × IsDeletedItem (pair_at deletions k) (item_at items j)). deleted_site (item_at items j) (pair_at deletions gone.0) gone.2)
    (rel.all j below) in
    let call_in : (k : ℕ) → k < length calls → is_in_reach start items other (place k) ≡ true = λ k below.
    let item = item_at items (place k) in
    let at = rel.calls_in k below in
    ⊎_elim
    (λ (long : 0 < other (place k)). long_reaches item (pair_at calls k) (other (place k)) (freed_before start items other (place k)) (freed_before start items other (place_of items (target_of item))) at.1 long)
    (λ (short : other (place k) ≤ 0).
    let zero_at : other (place k) ≡ 0 = omega arith in
    (reach_same start deletions calls items place other table.0 chosen are rel (λ j below. table.2 j 0 below) agree k below zero_at).1 (greatest.in_reach k (0, 0) below (agree.into k below zero_at)))
    (cases_lt 0 (other (place k))) in
    let reach : IsInReachExactly start items other = λ j below. ⊎_elim
    (λ (call : (k : ℕ) × (k < length calls) × (place k ≡ j)). subst (λ n. is_in_reach start items other n ≡ true) call.2 (call_in call.0 call.1))
    (λ (gone : (k : ℕ) × (k < length deletions) × IsDeletedItem (pair_at deletions k) (item_at items j)).
    deleted_reaches (item_at items j) (pair_at deletions gone.0) (other j) (freed_before start items other j) (freed_before start items other (place_of items (target_of (item_at items j)))) gone.2)
    (rel.all j below) in
    omega (arith, relaxed.greatest sites other reach (place i) (rel.calls_in i within).0, agree.from i within is)
  where
    in_chosen : (b : Bool) → shape_of b ≡ 0 → b ≡ true
    in_chosen true e = refl
    in_chosen false e = cc

pub shrunk_alike : CallsAreShrunkAlike
shrunk_alike start deletions calls items place shapes kept freed chosen are rel relaxed greatest i within = (
  into_greatest start deletions calls items place shapes kept freed chosen are rel relaxed greatest i within,
  from_greatest start deletions calls items place shapes kept freed chosen are rel relaxed greatest i within,
)
