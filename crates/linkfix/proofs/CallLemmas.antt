-- Calls by site, which a map keeps.
use Rattle.linkfix.proofs.Imports.{All, All-cons, All-head, All-nil, All-permutation, All-tail, AreApart, AreBySite, Bool, CallError, CallFailsWith, Err, IsApart, IsFarFrom, IsPermutation, IsPermutation-cons, IsPermutation-middle, IsPermutation-refl, IsPermutation-to_front, IsPermutation-trans, List, OddDistance, OutOfSection, Result, SiteDeleted, TooFar, [], all_pairs_head, all_pairs_tail, ap, arith, cases_Bool, cases_lt, cases_order, false, inl, inr, insert_entry, is_at, nat_cmp, nat_eq, nat_lt, nat_tests, placed, refl, remove_entry, sym, true, ℕ, ◌++◌, ◌-◌, ◌<◌, ◌↔◌, ◌∙◌, ◌∷◌, ◌≡◌, ◌≤◌}
use Rattle.std.specs.declared.cmp.Ordering.TheVariants.{Less, Equal, Greater}
use Rattle.std.specs.declared.ops.Bound.TheVariants.{Included, Unbounded}
use Rattle.std.specs.BTreeMap.Range.{entries_between}
use Rattle.std.proofs.lemmas.List.Kept.{AllPairs-cons}

-- ---- calls by site

pub placed_same : (d : ℕ × ℕ) (es : List (ℕ × ℕ)) → IsPermutation (d ∷ es) (placed d es)
placed_same d [] = IsPermutation-refl (d ∷ [])
placed_same d (e ∷ es) = elim (cases_lt d.0 e.0) [
  | inl low ↦ let t : nat_lt d.0 e.0 ≡ true = grind (arith, nat_tests, low) in rw t (IsPermutation-refl (d ∷ e ∷ es))
  | inr high ↦
      let f : nat_lt d.0 e.0 ≡ false = grind (arith, nat_tests, high) in
      rw f (IsPermutation-trans (d ∷ e ∷ es) (e ∷ d ∷ es) (e ∷ placed d es) (IsPermutation-middle (d ∷ []) e es) (IsPermutation-cons e (d ∷ es) (placed d es) (placed_same d es)))
]

-- one more that is far from all
placed_apart : (calls : List (ℕ × ℕ)) (call : ℕ × ℕ) → AreApart calls → All (IsFarFrom call.0) calls → AreApart (placed call calls)
placed_apart [] call apart far = AllPairs-cons IsApart call [] (All-nil (IsApart call)) apart
placed_apart (e ∷ es) call apart far =
    let beside = All-head (IsFarFrom call.0) e es far in
    let above = all_pairs_head IsApart e es apart in
    elim (cases_lt call.0 e.0) [
      | inl low ↦
          let t : nat_lt call.0 e.0 ≡ true = grind (arith, nat_tests, low) in
          let near : IsApart call e = elim beside [
            | inl below ↦ absurd (omega arith)
            | inr above ↦ above
          ] in
          rw t (AllPairs-cons IsApart call (e ∷ es) (All-cons (IsApart call) e es near (λ k d within. omega (arith, above k d within))) apart)
      | inr high ↦
          let f : nat_lt call.0 e.0 ≡ false = grind (arith, nat_tests, high) in
          let near : IsApart e call = elim beside [
            | inl below ↦ below
            | inr above ↦ absurd (omega arith)
          ] in
          rw f (AllPairs-cons IsApart e (placed call es) (All-permutation (IsApart e) (call ∷ es) (placed call es) (placed_same call es) (All-cons (IsApart e) call es near above))
          (placed_apart es call (all_pairs_tail IsApart e es apart) (All-tail (IsFarFrom call.0) e es far)))
    ]

pub by_site_placed : (calls : List (ℕ × ℕ)) (call : ℕ × ℕ) → AreApart calls → All (IsFarFrom call.0) calls → AreBySite (calls ++ call ∷ []) (placed call calls)
by_site_placed calls call apart far = record {
  same = IsPermutation-trans (calls ++ call ∷ []) (call ∷ calls) (placed call calls) (IsPermutation-to_front calls call) (placed_same call calls);
  apart = placed_apart calls call apart far;
}

-- ---- in a map

-- the order of two different sites
order_below : (x y : ℕ) → x < y → nat_cmp x y ≡ Less
order_below x y low = let t : nat_lt x y ≡ true = grind (arith, nat_tests, low) in rw t refl

order_above : (x y : ℕ) → y < x → nat_cmp x y ≡ Greater
order_above x y high =
    let f : nat_lt x y ≡ false = grind (arith, nat_tests, high) in
    let g : nat_eq x y ≡ false = grind (arith, nat_tests, high) in
    rw (f, g) refl

order_same : (x : ℕ) → nat_cmp x x ≡ Equal
order_same x =
    let f : nat_lt x x ≡ false = grind (arith, nat_tests) in
    let t : nat_eq x x ≡ true = grind (arith, nat_tests) in
    rw (f, t) refl

pub inserted_placed : (calls : List (ℕ × ℕ)) (site target : ℕ) → All (IsFarFrom site) calls → insert_entry nat_cmp calls site target ≡ placed (site, target) calls
inserted_placed [] site target far = refl
inserted_placed (e ∷ es) site target far = elim (cases_lt site e.0) [
  | inl low ↦
      let t : nat_lt site e.0 ≡ true = grind (arith, nat_tests, low) in
      let o = order_below site e.0 low in rw (o, t) refl
  | inr high ↦
      let f : nat_lt site e.0 ≡ false = grind (arith, nat_tests, high) in
      let below : e.0 < site = elim (All-head (IsFarFrom site) e es far) [
        | inl below ↦ omega arith
        | inr above ↦ absurd (omega arith)
      ] in
      let o = order_above site e.0 below in
      rw (o, f) (ap (λ l. e ∷ l) (inserted_placed es site target (All-tail (IsFarFrom site) e es far)))
]

pub removed_placed : (calls : List (ℕ × ℕ)) (site target : ℕ) → All (IsFarFrom site) calls → remove_entry (is_at (nat_cmp site)) (placed (site, target) calls) ≡ calls
removed_placed [] site target far = let o = order_same site in rw o refl
removed_placed (e ∷ es) site target far = elim (cases_lt site e.0) [
  | inl low ↦
      let t : nat_lt site e.0 ≡ true = grind (arith, nat_tests, low) in
      let o = order_same site in rw (t, o) refl
  | inr high ↦
      let f : nat_lt site e.0 ≡ false = grind (arith, nat_tests, high) in
      let below : e.0 < site = elim (All-head (IsFarFrom site) e es far) [
        | inl below ↦ omega arith
        | inr above ↦ absurd (omega arith)
      ] in
      let o = order_above site e.0 below in
      rw (f, o) (ap (λ l. e ∷ l) (removed_placed es site target (All-tail (IsFarFrom site) e es far)))
]

all_removed : (test : ℕ → Bool) (P : ℕ × ℕ → Type 0) (es : List (ℕ × ℕ)) → All P es → All P (remove_entry test es)
all_removed test P [] all = all
all_removed test P (e ∷ es) all = elim (cases_Bool (test e.0)) [
  | inl t ↦ rw t (All-tail P e es all)
  | inr f ↦ rw f (All-cons P e (remove_entry test es) (All-head P e es all) (all_removed test P es (All-tail P e es all)))
]

-- calls without one of them
pub apart_removed : (test : ℕ → Bool) (calls : List (ℕ × ℕ)) → AreApart calls → AreApart (remove_entry test calls)
apart_removed test [] apart = apart
apart_removed test (e ∷ es) apart =
    let later = all_pairs_tail IsApart e es apart in
    elim (cases_Bool (test e.0)) [
      | inl t ↦ rw t later
      | inr f ↦ rw f (AllPairs-cons IsApart e (remove_entry test es) (all_removed test (IsApart e) es (all_pairs_head IsApart e es apart)) (apart_removed test es later))
    ]

-- the calls from a site on
abbrev calls_from : ℕ → List (ℕ × ℕ) → List (ℕ × ℕ)
calls_from first calls = entries_between nat_cmp (Included first) Unbounded calls

is_from : (first : ℕ) (e : ℕ × ℕ) (es : List (ℕ × ℕ)) → first ≤ e.0 → calls_from first (e ∷ es) ≡ e ∷ calls_from first es
is_from first e es le = elim (cases_order first e.0) [
  | inl same ↦ let o : nat_cmp first e.0 ≡ Equal = rw same (order_same e.0) in rw o refl
  | inr (inl low) ↦ let o = order_below first e.0 low in rw o refl
  | inr (inr high) ↦ absurd (omega arith)
]

isnt_from : (first : ℕ) (e : ℕ × ℕ) (es : List (ℕ × ℕ)) → e.0 < first → calls_from first (e ∷ es) ≡ calls_from first es
isnt_from first e es low = let o = order_above first e.0 low in rw o refl

-- where there are none from shortly before a site on, all are far below
pub far_from_none : (calls : List (ℕ × ℕ)) (site : ℕ) → calls_from (site - 3) calls ≡ [] → All (IsFarFrom site) calls
far_from_none [] site none = All-nil (IsFarFrom site)
far_from_none (e ∷ es) site none = elim (cases_lt e.0 (site - 3)) [
  | inl low ↦ All-cons (IsFarFrom site) e es (inl (omega arith)) (far_from_none es site (sym (isnt_from (site - 3) e es low) ∙ none))
  | inr high ↦ absurd (cc (is_from (site - 3) e es high, none))
]

-- the first of them tells whether all calls are far
pub far_by_next : (calls : List (ℕ × ℕ)) (site : ℕ) (next : ℕ × ℕ) (rest : List (ℕ × ℕ)) → AreApart calls → calls_from (site - 3) calls ≡ next ∷ rest
    → All (IsFarFrom site) calls ↔ (4 ≤ next.0 - site)
far_by_next [] site next rest apart none = absurd (cc none)
far_by_next (e ∷ es) site next rest apart are = elim (cases_lt e.0 (site - 3)) [
  | inl low ↦
      let later = far_by_next es site next rest (all_pairs_tail IsApart e es apart) (sym (isnt_from (site - 3) e es low) ∙ are) in
      (λ all. later.0 (All-tail (IsFarFrom site) e es all), λ high. All-cons (IsFarFrom site) e es (inl (omega arith)) (later.1 high))
  | inr high ↦
      let same : e ≡ next = cc (is_from (site - 3) e es high, are) in (
        λ all. rw (← same) (elim (All-head (IsFarFrom site) e es all) [
          | inl below ↦ absurd (omega arith)
          | inr above ↦ omega arith
        ]),
        λ above. let first = rw (← same) at above in
            All-cons (IsFarFrom site) e es (inr (omega arith)) (λ k d within. inr (omega (arith, all_pairs_head IsApart e es apart k d within))),
      )
]

-- each error of `relax_call` is for its cause
pub call_errors : (section : List ℕ) (ds : List (ℕ × ℕ)) (site target : ℕ) (result : Result (Unit {0}) CallError)
    → ((result ≡ Err OutOfSection) ↔ CallFailsWith OutOfSection section ds site target)
    → ((result ≡ Err SiteDeleted) ↔ CallFailsWith SiteDeleted section ds site target)
    → ((result ≡ Err OddDistance) ↔ CallFailsWith OddDistance section ds site target)
    → ((result ≡ Err TooFar) ↔ CallFailsWith TooFar section ds site target)
    → (error : CallError) → (result ≡ Err error) ↔ CallFailsWith error section ds site target
call_errors section ds site target result outside deleted odd far OutOfSection = outside
call_errors section ds site target result outside deleted odd far SiteDeleted = deleted
call_errors section ds site target result outside deleted odd far OddDistance = odd
call_errors section ds site target result outside deleted odd far TooFar = far
