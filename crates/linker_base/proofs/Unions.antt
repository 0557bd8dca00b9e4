-- Deletions in any order, and the one valid list that they sort into.
use Rattle.linker_base.proofs.Imports.{All-contains, All-permutation, AllPairs, AreDisjoint, Bool, Contains, Contains-permutation, DoNotOverlap, EndFits, Err, IsBefore, IsNonDecreasingBy, IsPermutation, IsPermutation-append_comm, IsPermutation-append_left, IsPermutation-append_right, IsPermutation-sym, IsPermutation-trans, IsSortedUnion, IsValid, List, Ok, OnOk, Result, [], ap, append_assoc, arith, cases_lt, covers, false, get_or_append_left, inl, inr, is_kept, length-append, list_any-IsPermutation, nat_le, nat_lt, nat_tests, not, rank, refl, suc, sym, zero, ℕ, ⊎_elim, ◌&&◌, ◌++◌, ◌+◌, ◌<◌, ◌↔◌, ◌∙◌, ◌∷◌, ◌≡◌, ◌≤◌, ◌⊎◌}
use Rattle.std.proofs.Math.Bool.{and_comm}
use Rattle.std.proofs.lemmas.Map.Keys.{IsDistinct-IsPermutation, IsDistinct-from_apart, apart_from_distinct}
use Rattle.linker_base.proofs.Rank.{all_pairs_tail, all_pairs_head}

-- the test of IsBefore, and of two deletions of which none is before the other
abbrev pub is_before : ℕ × ℕ → ℕ × ℕ → Bool
is_before a b = nat_lt a.0 b.0 && nat_le (a.0 + a.1) b.0

abbrev touch : ℕ × ℕ → ℕ × ℕ → Bool
touch a b = not (is_before a b) && not (is_before b a)

touch_flips : (a b : ℕ × ℕ) → touch a b ≡ touch b a
touch_flips a b = and_comm (not (is_before a b)) (not (is_before b a))

touch_not : (a b : ℕ × ℕ) → DoNotOverlap a b → touch a b ≡ false
touch_not a b (inl below) = grind (arith, nat_tests, below.0, below.1)
touch_not a b (inr above) = grind (arith, nat_tests, above.0, above.1)

apart_from_touch : (a b : ℕ × ℕ) → touch a b ≡ false → DoNotOverlap a b
apart_from_touch a b none = ⊎_elim
    (λ (below : a.0 < b.0). inl (below, grind (arith, nat_tests)))
    (λ (from : b.0 ≤ a.0). inr (grind (arith, nat_tests), grind (arith, nat_tests)))
    (cases_lt a.0 b.0)

-- deletions that are apart stay so in any order
pub apart_permutation : (xs ys : List (ℕ × ℕ)) → IsPermutation xs ys → AllPairs DoNotOverlap xs → AllPairs DoNotOverlap ys
apart_permutation xs ys same apart i j d below within =
    let distinct = IsDistinct-from_apart touch xs (λ i j d lt in'. touch_not _ _ (apart i j d lt in')) in
    apart_from_touch _ _ (apart_from_distinct touch ys i j d (IsDistinct-IsPermutation touch touch_flips xs ys same distinct) below within)

pub disjoint_permutation : (xs ys : List (ℕ × ℕ)) → IsPermutation xs ys → AreDisjoint xs → AreDisjoint ys
disjoint_permutation xs ys same disjoint = record {
  apart = apart_permutation xs ys same disjoint.apart;
  ends = All-permutation EndFits xs ys same disjoint.ends;
}

-- deletions in order are apart
pub apart_from_ascending : (ds : List (ℕ × ℕ)) → AllPairs IsBefore ds → AllPairs DoNotOverlap ds
apart_from_ascending ds ascending i j d below within = inl (ascending i j d below within)

pub disjoint_from_valid : (ds : List (ℕ × ℕ)) → IsValid ds → AreDisjoint ds
disjoint_from_valid ds valid = record { apart = apart_from_ascending ds valid.ascending; ends = valid.ends }

-- disjoint deletions whose offsets don't fall are a valid list
pub valid_from_disjoint : (ds : List (ℕ × ℕ)) → AreDisjoint ds → IsNonDecreasingBy (λ d. d.0) ds → IsValid ds
valid_from_disjoint ds disjoint rise = record {
  ascending = λ i j d below within. elim (disjoint.apart i j d below within) [
    | inl before ↦ before
    | inr after ↦ absurd (omega (arith, rise i j d (omega arith) within, after.0))
  ];
  ends = disjoint.ends;
}

-- a sort of disjoint deletions by offset is their sorted union
pub union_from_sort : (all ds : List (ℕ × ℕ)) → IsPermutation all ds → AreDisjoint all → IsNonDecreasingBy (λ d. d.0) ds → IsSortedUnion all ds
union_from_sort all ds same disjoint rise = record { same = same; valid = valid_from_disjoint ds (disjoint_permutation all ds same disjoint) rise }

-- only disjoint deletions have a sorted union
pub disjoint_from_union : (all ds : List (ℕ × ℕ)) → IsSortedUnion all ds → AreDisjoint all
disjoint_from_union all ds union = disjoint_permutation ds all (IsPermutation-sym all ds union.same) (disjoint_from_valid ds union.valid)

-- each list has the other's deletions
record HaveSame (xs ys : List (ℕ × ℕ)) : Type 0 where
  there : (d : ℕ × ℕ) → Contains xs d → Contains ys d
  back : (d : ℕ × ℕ) → Contains ys d → Contains xs d

pub contains_head : (d : ℕ × ℕ) (ds : List (ℕ × ℕ)) → Contains (d ∷ ds) d
contains_head d ds = (0, omega arith, refl)

pub contains_tail : (d e : ℕ × ℕ) (ds : List (ℕ × ℕ)) → Contains ds e → Contains (d ∷ ds) e
contains_tail d e ds (k, within, at) = (suc k, omega arith, at)

pub contains_cases : (d e : ℕ × ℕ) (ds : List (ℕ × ℕ)) → Contains (d ∷ ds) e → Contains ds e ⊎ (d ≡ e)
contains_cases d e ds (zero, within, at) = inr at
contains_cases d e ds (suc k, within, at) = inl (k, omega arith, at)

-- lists by ascending offset that have the same deletions are equal
same_ascending : (xs ys : List (ℕ × ℕ)) → AllPairs IsBefore xs → AllPairs IsBefore ys → HaveSame xs ys → xs ≡ ys
same_ascending [] [] up rise have = refl
same_ascending [] (y ∷ ys) up rise have = let found = have.back y (contains_head y ys) in absurd (omega (arith, found.1))
same_ascending (x ∷ xs) [] up rise have = let found = have.there x (contains_head x xs) in absurd (omega (arith, found.1))
same_ascending (x ∷ xs) (y ∷ ys) up rise have =
    let above = all_pairs_head IsBefore x xs up in
    let over = all_pairs_head IsBefore y ys rise in
    let first : x ≡ y = ⊎_elim
    (λ (later : Contains ys x). ⊎_elim
    (λ (after : Contains xs y). absurd (omega (arith, (All-contains (IsBefore y) ys x over later).0, (All-contains (IsBefore x) xs y above after).0)))
    (λ same. same)
    (contains_cases x y xs (have.back y (contains_head y ys))))
    (λ same. sym same)
    (contains_cases y x ys (have.there x (contains_head x xs))) in
    let rest = same_ascending xs ys (all_pairs_tail IsBefore x xs up) (all_pairs_tail IsBefore y ys rise) (record {
      there = λ d held. ⊎_elim (λ later. later) (λ (same : y ≡ d). absurd (omega (arith, (All-contains (IsBefore x) xs d above held).0, ap (λ (e : ℕ × ℕ). e.0) (first ∙ same)))) (contains_cases y d ys (have.there d (contains_tail x d xs held)));
      back = λ d held. ⊎_elim (λ later. later) (λ (same : x ≡ d). absurd (omega (arith, (All-contains (IsBefore y) ys d over held).0, ap (λ (e : ℕ × ℕ). e.0) (sym first ∙ same)))) (contains_cases x d xs (have.back d (contains_tail y d ys held)));
    }) in
    cc

-- one valid list alone has given deletions
pub valid_once : (xs ys : List (ℕ × ℕ)) → IsPermutation xs ys → IsValid xs → IsValid ys → xs ≡ ys
valid_once xs ys same valid other = same_ascending xs ys valid.ascending other.ascending (record {
  there = λ d held. Contains-permutation xs ys d same held;
  back = λ d held. Contains-permutation ys xs d (IsPermutation-sym xs ys same) held;
})

-- deletions sort into one valid list alone
pub union_once : (all a b : List (ℕ × ℕ)) → IsSortedUnion all a → IsSortedUnion all b → a ≡ b
union_once all a b one other = valid_once a b (IsPermutation-trans a all b (IsPermutation-sym all a one.same) other.same) one.valid other.valid

-- the first part of disjoint deletions is disjoint
pub disjoint_left : (xs ys : List (ℕ × ℕ)) → AreDisjoint (xs ++ ys) → AreDisjoint xs
disjoint_left xs ys disjoint = record {
  apart = λ i j d below within. rw (get_or_append_left xs ys d i (omega arith), get_or_append_left xs ys d j within) at (disjoint.apart i j d below (omega (arith, length-append xs ys)));
  ends = λ k d within. rw (get_or_append_left xs ys d k within) at (disjoint.ends k d (omega (arith, length-append xs ys)));
}

-- the order of the deletions doesn't matter to which positions are kept
pub kept_permutation : (xs ys : List (ℕ × ℕ)) (p : ℕ) → IsPermutation xs ys → is_kept xs p ≡ is_kept ys p
kept_permutation xs ys p same = ap not (list_any-IsPermutation (λ d. covers d p) xs ys same)

-- nor to the rank
pub rank-permutation : (xs ys : List (ℕ × ℕ)) (i : ℕ) → IsPermutation xs ys → rank xs i ≡ rank ys i
unfolding rank
rank-permutation xs ys zero same = refl
rank-permutation xs ys (suc i) same = rw (kept_permutation xs ys i same, rank-permutation xs ys i same) refl

-- merging two batches, one after the other, gives the sorted union of all
pub union_of_merges : (old first second one both : List (ℕ × ℕ)) → IsSortedUnion (old ++ first) one → IsSortedUnion (one ++ second) both → IsSortedUnion (old ++ (first ++ second)) both
union_of_merges old first second one both merged again = record {
  same = rw (← (append_assoc old first second)) (IsPermutation-trans _ (one ++ second) both (IsPermutation-append_left second (old ++ first) one merged.same) again.same);
  valid = again.valid;
}

-- the two batches may change places
pub union_swapped : (old first second both : List (ℕ × ℕ)) → IsSortedUnion (old ++ (second ++ first)) both → IsSortedUnion (old ++ (first ++ second)) both
union_swapped old first second both union = record {
  same = IsPermutation-trans _ (old ++ (second ++ first)) both (IsPermutation-append_right old (first ++ second) (second ++ first) (IsPermutation-append_comm first second)) union.same;
  valid = union.valid;
}

-- deletions in another order may be merged alike, and give the same list
module _ (old xs ys : List (ℕ × ℕ)) (same : IsPermutation xs ys) where
  moved : IsPermutation (old ++ xs) (old ++ ys)
  moved = IsPermutation-append_right old xs ys same

  pub disjoint_moved : AreDisjoint (old ++ ys) ↔ AreDisjoint (old ++ xs)
  disjoint_moved = (disjoint_permutation (old ++ ys) (old ++ xs) (IsPermutation-sym (old ++ xs) (old ++ ys) moved), disjoint_permutation (old ++ xs) (old ++ ys) moved)

  pub union_moved : (sorted : List (ℕ × ℕ)) → IsSortedUnion (old ++ ys) sorted → IsSortedUnion (old ++ xs) sorted
  union_moved sorted union = record { same = IsPermutation-trans (old ++ xs) (old ++ ys) sorted moved union.same; valid = union.valid }

pub union_moved_ok : {A E : Type 0} (r : Result A E) (old xs ys sorted : List (ℕ × ℕ)) → IsPermutation xs ys → OnOk r (IsSortedUnion (old ++ ys) sorted) → OnOk r (IsSortedUnion (old ++ xs) sorted)
union_moved_ok (Ok x) old xs ys sorted same union = union_moved old xs ys same sorted union
union_moved_ok (Err e) old xs ys sorted same union = tt
