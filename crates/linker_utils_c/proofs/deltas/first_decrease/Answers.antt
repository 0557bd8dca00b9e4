use Rattle.linker_utils_c.proofs.Imports.{IsNonDecreasing, IsNonDecreasingBy-push, IsNonDecreasingBy-short, List, arith, get_or, get_or-take, get_or_default, inl, inr, length, length-take, take, take_all, take_more, ℕ, ◌+◌, ◌-◌, ◌<◌, ◌≡◌, ◌≤◌}
use Rattle.std.proofs.lemmas.Bool.{cases_lt}
use Rattle.linker_utils_c.proofs.deltas.first_decrease.Goals as goal

-- one number ascends
one_rises : (xs : List ℕ) → IsNonDecreasing (take 1 xs)
one_rises xs = IsNonDecreasingBy-short (λ x. x) (take 1 xs) (omega (arith, length-take 1 xs))

-- a front that ascends is not the whole
short_front : (xs : List ℕ) (at : ℕ) → ¬ IsNonDecreasing xs → IsNonDecreasing (take at xs) → at < length xs
short_front xs at falls front = elim (cases_lt at (length xs)) [
  | inl within ↦ within
  | inr past ↦ absurd (falls (rw (take_all at xs past) at front))
]

-- one more that is not less than the last
one_more : (xs : List ℕ) (at : ℕ) → 1 ≤ at → at < length xs → get_or xs (at - 1) 0 ≤ get_or xs at 0 → IsNonDecreasing (take at xs) → IsNonDecreasing (take (at + 1) xs)
one_more xs at some within rises =
    let long : length (take at xs) ≡ at = omega (arith, length-take at xs) in
    let low : at - 1 < at = omega arith in
    let inside : at - 1 < length xs = omega arith in
    λ front. rw (take_more xs at 0 within) (IsNonDecreasingBy-push (λ x. x) (take at xs) (get_or xs at 0) front (λ d _. rw (long, get_or-take at xs (at - 1) d low, get_or_default xs (at - 1) d 0 inside) rises))

not_both : (a b : ℕ) → a ≤ b → ¬ (b < a)
not_both a b le lt = omega arith

-- one more that is less
falls_at : (xs : List ℕ) (at : ℕ) → 1 ≤ at → at < length xs → get_or xs at 0 < get_or xs (at - 1) 0 → ¬ IsNonDecreasing (take (at + 1) xs)
falls_at xs at some within falls =
    let inside : at < length (take (at + 1) xs) = omega (arith, length-take (at + 1) xs) in
    let order : at - 1 ≤ at = omega arith in
    let low : at - 1 < at + 1 = omega arith in
    let last : at < at + 1 = omega arith in
    λ sorted. not_both (get_or xs (at - 1) 0) (get_or xs at 0) (rw (get_or-take (at + 1) xs (at - 1) 0 low, get_or-take (at + 1) xs at 0 last) at (sorted (at - 1) at 0 order inside)) falls

pub loop-at-init : goal.loop-at-init
loop-at-init c =
    let queries = c.args.queries.now in
    let before = one_rises queries in
    record { some = omega arith; within = short_front queries 1 c.requires before; before = before }

pub loop-at-preserved : goal.loop-at-preserved
loop-at-preserved c =
    let queries = c.args.queries.now in
    let at = c.loop-at.at in
    let old = c.loop-at.invariant in
    let before = one_more queries at old.some old.within c.loop-at-test.true old.before in
    record {
      some = omega arith;
      within = short_front queries (at + 1) c.requires before;
      before = before;
    }

pub returns : goal.returns
returns c =
    let old = c.loop-at.invariant in
    record {
      within = old.within;
      before = old.before;
      here = falls_at c.args.queries.now c.loop-at.at old.some old.within c.loop-at-test.false;
    }
