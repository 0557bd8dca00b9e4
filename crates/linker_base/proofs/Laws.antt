-- The laws of deletions, proved.
use Rattle.linker_base.proofs.Imports.{All, All-head, All-tail, AllPairs, AllWithin, AreTranslations, Contains, CursorGivesRanks, InAfterOutReturns, IsAhead, IsBefore, IsInsideDeletion, IsPermutation, IsPermutation-append_comm, IsPermutation-append_left, IsPermutation-append_right, IsSelected, List, MergeOrderIsFree, MergesShortenDistances, OutAfterInIsFirstKept, OutAfterInReturnsKept, [], add-suc, add-zero, ap, append_assoc, arith, begun_below, both_ways, cases_Bool, cases_lt, cond, covers, false, false_from_ne_true, get_or, get_or-take, inl, inr, is_kept, length, length-take, list_any, list_any_at, map, max, nat_lt, nat_tests, not, not-true, rank, refl, suc, sum_by-cons, take, take_all, true, walk_to, zero, ℕ, ◌++◌, ◌+◌, ◌-◌, ◌<◌, ◌∷◌, ◌≡◌, ◌≤◌}
use Rattle.linker_base.proofs.Copied.{gone_at}
use Rattle.linker_base.proofs.Rank.{all_pairs_tail, rank_kept, rank_gone, rank-mono, selected_once}
use Rattle.linker_base.proofs.Unions.{disjoint_permutation, disjoint_from_union, disjoint_left, union_once, union_of_merges, union_swapped}

-- a kept position isn't strictly inside a deletion
kept_outside : (ds : List (ℕ × ℕ)) (p : ℕ) → is_kept ds p ≡ true → IsInsideDeletion ds p → ⊥
kept_outside ds p kept (k, d, within, at, (below, above)) = gone_at ds p k d within at (omega arith) above kept

pub in_after_out : InAfterOutReturns
in_after_out ds y p selected = (kept_outside ds p selected.kept, selected.ranked)

pub out_after_in : OutAfterInIsFirstKept
out_after_in ds i p selected = record {
  kept = selected.kept;
  at_or_after = grind (arith, rank_kept ds p selected.kept, rank-mono ds (suc p) i, selected.ranked);
  none_between = λ q from below. false_from_ne_true (is_kept ds q) (λ kept. omega (arith, rank_kept ds q kept, rank-mono ds i q from, rank-mono ds (suc q) p (omega arith), selected.ranked));
}

pub out_after_kept : OutAfterInReturnsKept
out_after_kept ds i fits kept =
    let here : IsSelected ds (rank ds i) i = record { kept = kept; ranked = refl } in
    ((i, fits, here), λ p selected. selected_once ds (rank ds i) p i selected here)

last_moved : (old first second : List (ℕ × ℕ)) → IsPermutation (old ++ (first ++ second)) ((old ++ second) ++ first)
last_moved old first second = rw append_assoc (IsPermutation-append_right old (first ++ second) (second ++ first) (IsPermutation-append_comm first second))

pub merge_order : MergeOrderIsFree
merge_order old first second one both merged again =
    let union = union_of_merges old first second one both merged again in
    let other = disjoint_permutation _ _ (last_moved old first second) (disjoint_from_union _ both union) in
    record {
      second_at_first = disjoint_left (old ++ second) first other;
      then_first = λ two union_two. disjoint_permutation _ (two ++ first) (IsPermutation-append_left first (old ++ second) two union_two.same) other;
      same = λ two swapped union_two union_swapped_two. union_once (old ++ (first ++ second)) swapped both (union_swapped old first second swapped (union_of_merges old second first two swapped union_two union_swapped_two)) union;
      at_once = disjoint_from_union _ both union;
      same_at_once = λ sorted union_sorted. union_once _ sorted both union_sorted union;
    }

-- where no deletion begins below i, none is counted
begun_none : (ds : List (ℕ × ℕ)) (i : ℕ) → All (λ d. i ≤ d.0) ds → begun_below ds i ≡ 0
begun_none [] i from = refl
begun_none (e ∷ ds) i from =
    let first : i ≤ e.0 = All-head (λ d. i ≤ d.0) e ds from in
    let rest = begun_none ds i (All-tail (λ d. i ≤ d.0) e ds from) in
    grind (arith, nat_tests, sum_by-cons (λ (d : ℕ × ℕ). cond (nat_lt d.0 i) 1 0) e ds, rest)

within_cons : (P : ℕ × ℕ → Type 0) (e : ℕ × ℕ) (ds : List (ℕ × ℕ)) (low high : ℕ) → (low ≡ 0 → P e) → ((k : ℕ) (d : ℕ × ℕ) → low ≤ suc k → suc k < high → P (get_or ds k d)) → AllWithin P (e ∷ ds) low high
within_cons P e ds low high first rest zero d from below = first (omega arith)
within_cons P e ds low high first rest (suc k) d from below = rest k d from below

-- the first `begun_below` deletions of an ascending list begin below i, and the others don't
pub begun_parted : (ds : List (ℕ × ℕ)) (i : ℕ) → AllPairs IsBefore ds → AllWithin (λ d. d.0 < i) ds 0 (begun_below ds i) × AllWithin (λ d. i ≤ d.0) ds (begun_below ds i) (length ds)
begun_parted [] i ascending = (λ k d from below. absurd (omega arith), λ k d from below. absurd (omega arith))
begun_parted (e ∷ ds) i ascending = elim (cases_lt e.0 i) [
  | inl below ↦
      let count : begun_below (e ∷ ds) i ≡ suc (begun_below ds i) = grind (arith, nat_tests, sum_by-cons (λ (d : ℕ × ℕ). cond (nat_lt d.0 i) 1 0) e ds) in
      let rest = begun_parted ds i (all_pairs_tail IsBefore e ds ascending) in
      rw count (within_cons (λ d. d.0 < i) e ds _ _ (λ _. below) (λ k d low high. rest.0 k d (omega arith) (omega arith)), within_cons (λ d. i ≤ d.0) e ds _ _ (λ none. absurd (omega arith)) (λ k d low high. rest.1 k d (omega arith) (omega arith)))
  | inr from ↦
      let all = within_cons (λ d. i ≤ d.0) e ds 0 (length (e ∷ ds)) (λ _. from) (λ k d low high. omega (arith, from, (ascending zero (suc k) d (omega arith) high).0)) in
      rw (begun_none (e ∷ ds) i (λ k d within. all k d (omega arith) within)) (λ k d low high. absurd (omega arith), all)
]

-- those begin below each later offset
pub begun_later : (ds : List (ℕ × ℕ)) (i j : ℕ) → AllPairs IsBefore ds → i ≤ j → All (λ d. d.0 < j) (take (begun_below ds i) ds)
begun_later ds i j ascending le k d within =
    let inside : k < begun_below ds i = omega (arith, length-take (begun_below ds i) ds) in
    rw (get_or-take (begun_below ds i) ds k d inside) (omega (arith, (begun_parted ds i ascending).0 k d (omega arith) inside))

-- where what is passed begins below i, a query at i leaves just what begins below i as passed
taken_to : (ds : List (ℕ × ℕ)) (k i : ℕ) → AllPairs IsBefore ds → All (λ d. d.0 < i) (take k ds) → take (max k (begun_below ds i)) ds ≡ take (begun_below ds i) ds
taken_to ds k i ascending passed =
    let b = begun_below ds i in
    let parted = begun_parted ds i ascending in
    elim (cases_lt b k) [
      | inl more ↦
          let e : max k b ≡ k = omega arith in
          let low : (get_or (take k ds) b (0, 0)).0 ≡ (get_or ds b (0, 0)).0 = ap (λ (d : ℕ × ℕ). d.0) (get_or-take k ds b (0, 0) more) in
          let past : length ds ≤ b = grind (arith, length-take k ds, passed b (0, 0), low, parted.1 b (0, 0)) in
          rw (e, take_all k ds (omega arith), take_all b ds past) refl
      | inr le ↦ let e : max k b ≡ b = omega arith in rw e refl
    ]

pub cursor_ranks : CursorGivesRanks
cursor_ranks walk [] valid ahead = (tt, λ outputs none. none)
cursor_ranks walk (i ∷ queries) valid ahead =
    let ds = walk.deletions in
    let first = ahead.first (omega arith) in
    let taken = taken_to ds walk.passed i valid.ascending first in
    let rest = cursor_ranks (walk_to walk i) queries valid (record {
      ascending = λ a b d le within. ahead.ascending (suc a) (suc b) d (omega arith) (omega arith);
      first = λ some. rw taken (begun_later ds i (get_or queries 0 0) valid.ascending (ahead.ascending 0 1 0 (omega arith) (omega arith)));
    }) in
    ((inl first, rest.0), each first rest.1)
  where
    each : IsAhead walk i → ((outputs : List ℕ) → AreTranslations (walk_to walk i) queries outputs → outputs ≡ map (rank walk.deletions) queries)
        → (outputs : List ℕ) → AreTranslations walk (i ∷ queries) outputs → outputs ≡ map (rank walk.deletions) (i ∷ queries)
    each first rest [] none = absurd none
    each first rest (output ∷ outputs) given = rw (given.0.ahead first, rest outputs given.1) refl

-- a position that more deletions keep is kept by fewer
kept_by_fewer : (ds more : List (ℕ × ℕ)) (p : ℕ) → All (Contains more) ds → is_kept more p ≡ true → is_kept ds p ≡ true
kept_by_fewer ds more p held kept = ap not (free ds held)
  where
    free : (ds : List (ℕ × ℕ)) → All (Contains more) ds → list_any (λ e. covers e p) ds ≡ false
    free [] held = refl
    free (d ∷ ds) held =
        let first = All-head (Contains more) d ds held in
        let none : covers d p ≡ false = false_from_ne_true (covers d p) (λ here. both_ways _ (not-true _ kept) (list_any_at (λ e. covers e p) more first.0 d first.1 (rw first.2 here))) in
        rw none (free ds (All-tail (Contains more) d ds held))

-- as one offset rises, the rank over more deletions rises no more than that over fewer
shorter : (ds more : List (ℕ × ℕ)) (a n : ℕ) → All (Contains more) ds → rank more (a + n) + rank ds a ≤ rank ds (a + n) + rank more a
shorter ds more a zero held = rw (add-zero a) (omega arith)
shorter ds more a (suc n) held = rw (add-suc a n) (elim (cases_Bool (is_kept more (a + n))) [
  | inl kept ↦ omega (arith, shorter ds more a n held, rank_kept more (a + n) kept, rank_kept ds (a + n) (kept_by_fewer ds more (a + n) held kept))
  | inr gone ↦ omega (arith, shorter ds more a n held, rank_gone more (a + n) gone, rank-mono ds (a + n) (suc (a + n)) (omega arith))
])

pub merges_shorten : MergesShortenDistances
merges_shorten ds more a b held le =
    let e : a + (b - a) ≡ b = omega arith in
    omega (arith, rw e at (shorter ds more a (b - a) held), rank-mono ds a b le, rank-mono more a b le)
