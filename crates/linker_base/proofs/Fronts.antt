-- A merge of two ascending lists, from the front.
use Rattle.linker_base.proofs.Imports.{All, All-push, AreDisjoint, AreValidDeltas, AreValidTogether, Bool, IsLower, IsNonDecreasingBy, IsNonDecreasingBy-push, IsPermutation, IsPermutation-append_comm, IsPermutation-append_left, IsPermutation-append_right, IsPermutation-trans, IsSortedUnion, IsValid, List, RecordsDeletions, RelaxDelta, [], ap, append_assoc, arith, bool_byte, bytes_of, deletion_of, drop, false, get_or, get_or-set_same, length, length-set, map, map-append, not, refl, set, sum_by-IsPermutation, sum_by-append, sum_by_more, take, take-append-drop, take-set-le, take_all, take_more, true, ℕ, ◌++◌, ◌+◌, ◌-◌, ◌<◌, ◌^◌, ◌∙◌, ◌∷◌, ◌≡◌, ◌≤◌}
use Rattle.linker_base.proofs.Listed.{RecordsDeletions-push}
use Rattle.linker_base.proofs.OutputOffsets.{disjoint_fit}
use Rattle.linker_base.proofs.Unions.{disjoint_permutation, union_from_sort}

-- deltas that list the first i deletions and the first j additional ones, merged
pub record IsFront (ds ps : List (ℕ × ℕ)) (i j : ℕ) (front : List RelaxDelta) : Type 0 where
  pub same : IsPermutation (take i ds ++ take j ps) (map deletion_of front)
  pub rise : IsNonDecreasingBy (λ d. d.0) (map deletion_of front)
  pub below_old : i < length ds → All (λ d. d.0 ≤ (get_or ds i (0, 0)).0) (map deletion_of front)
  pub below_added : j < length ps → All (λ d. d.0 ≤ (get_or ps j (0, 0)).0) (map deletion_of front)
  pub listing : RecordsDeletions (map deletion_of front) front

-- so far is written, and n bytes are deleted there
pub record IsMergedUpTo (ds ps : List (ℕ × ℕ)) (i j : ℕ) (merged : List RelaxDelta) (bytes : ℕ) : Type 0 where
  pub old_within : i ≤ length ds
  pub added_within : j ≤ length ps
  pub size : length merged ≡ length ds + length ps
  pub front : IsFront ds ps i j (take (i + j) merged)
  pub sum : bytes ≡ bytes_of (take i ds) + bytes_of (take j ps)

merged_swapped : (ds ps : List (ℕ × ℕ)) (i j : ℕ) (merged : List RelaxDelta) (bytes : ℕ) → IsMergedUpTo ds ps i j merged bytes → IsMergedUpTo ps ds j i merged bytes
merged_swapped ds ps i j merged bytes upto =
    let count : j + i ≡ i + j = omega arith in
    record {
      old_within = upto.added_within;
      added_within = upto.old_within;
      size = omega (arith, upto.size);
      front = rw count (record {
        same = IsPermutation-trans (take j ps ++ take i ds) (take i ds ++ take j ps) (map deletion_of (take (i + j) merged)) (IsPermutation-append_comm (take j ps) (take i ds)) upto.front.same;
        rise = upto.front.rise;
        below_old = upto.front.below_added;
        below_added = upto.front.below_old;
        listing = upto.front.listing;
      });
      sum = omega (arith, upto.sum);
    }

-- one more of the first list has room, and 64 bits hold its sum
has_more : (ds ps : List (ℕ × ℕ)) (i j : ℕ) (merged : List RelaxDelta) (bytes : ℕ) → IsMergedUpTo ds ps i j merged bytes → AreDisjoint (ds ++ ps) → i < length ds → (i + j < length merged) × (bytes + (get_or ds i (0, 0)).1 < 2 ^ 64)
has_more ds ps i j merged bytes upto disjoint within =
    let f : ℕ × ℕ → ℕ = λ e. e.1 in
    let first = rw (take-append-drop (i + 1) ds) at (sum_by-append f (take (i + 1) ds) (drop (i + 1) ds)) in
    let second = rw (take-append-drop j ps) at (sum_by-append f (take j ps) (drop j ps)) in
    (omega (arith, upto.size, upto.added_within), omega (arith, upto.sum, sum_by_more f ds i (0, 0) within, first, second, sum_by-append f ds ps, disjoint_fit (ds ++ ps) disjoint))

-- one more of the first list is written after, where it isn't above what comes next of the other
merged_more : (ds ps : List (ℕ × ℕ)) (i j at : ℕ) (merged : List RelaxDelta) (delta : RelaxDelta) (bytes : ℕ) → IsValid ds → i < length ds → at ≡ i + j → IsMergedUpTo ds ps i j merged bytes
    → deletion_of delta ≡ get_or ds i (0, 0) → (j < length ps → (get_or ds i (0, 0)).0 ≤ (get_or ps j (0, 0)).0) → delta.cumulative_deleted ≡ bytes + (get_or ds i (0, 0)).1 → IsMergedUpTo ds ps (i + 1) j (set merged at delta) delta.cumulative_deleted
merged_more ds ps i j at merged delta bytes valid within place upto is first sum =
    let d = get_or ds i (0, 0) in
    let old = take (i + j) merged in
    let more = take_more ds i (0, 0) within in
    let free : at < length merged = omega (arith, place, upto.size, upto.added_within, within) in
    let next : i + 1 + j ≡ at + 1 = omega (arith, place) in
    let whole : take (i + 1 + j) (set merged at delta) ≡ old ++ delta ∷ [] =
    rw (next, take_more (set merged at delta) at delta (omega (arith, free, length-set merged at delta)), take-set-le at merged at delta (omega arith), get_or-set_same merged at delta delta free, place) refl in
    let joined : map deletion_of (old ++ delta ∷ []) ≡ map deletion_of old ++ deletion_of delta ∷ [] = map-append deletion_of old (delta ∷ []) in
    let following : IsPermutation ((take i ds ++ d ∷ []) ++ take j ps) ((take i ds ++ take j ps) ++ d ∷ []) =
    rw (append_assoc (take i ds) (d ∷ []) (take j ps), append_assoc (take i ds) (take j ps) (d ∷ [])) (IsPermutation-append_right (take i ds) (d ∷ [] ++ take j ps) (take j ps ++ d ∷ []) (IsPermutation-append_comm (d ∷ []) (take j ps))) in
    let bytes_before : bytes ≡ bytes_of (map deletion_of old) =
    omega (arith, upto.sum, sum_by-append (λ (e : ℕ × ℕ). e.1) (take i ds) (take j ps), sum_by-IsPermutation (λ (e : ℕ × ℕ). e.1) (take i ds ++ take j ps) (map deletion_of old) upto.front.same) in
    record {
      old_within = omega arith;
      added_within = upto.added_within;
      size = omega (arith, upto.size, length-set merged at delta);
      front = rw whole (record {
        same = rw (joined, is, more) (IsPermutation-trans ((take i ds ++ d ∷ []) ++ take j ps) ((take i ds ++ take j ps) ++ d ∷ []) (map deletion_of old ++ d ∷ []) following (IsPermutation-append_left (d ∷ []) (take i ds ++ take j ps) (map deletion_of old) upto.front.same));
        rise = rw (joined, is) (IsNonDecreasingBy-push (λ e. e.0) (map deletion_of old) d upto.front.rise (λ e some. upto.front.below_old within (length (map deletion_of old) - 1) e (omega arith)));
        below_old = λ some. rw (joined, is) (All-push (λ e. e.0 ≤ (get_or ds (i + 1) (0, 0)).0) (map deletion_of old) d (λ k e low. omega (arith, upto.front.below_old within k e low, (valid.ascending i (i + 1) (0, 0) (omega arith) some).0)) (omega (arith, (valid.ascending i (i + 1) (0, 0) (omega arith) some).0)));
        below_added = λ some. rw (joined, is) (All-push (λ e. e.0 ≤ (get_or ps j (0, 0)).0) (map deletion_of old) d (upto.front.below_added some) (first some));
        listing = rw joined (RecordsDeletions-push (map deletion_of old) old delta upto.front.listing (omega (arith, sum, bytes_before, ap (λ (x : ℕ × ℕ). x.1) is)));
      });
      sum = omega (arith, sum, upto.sum, sum_by_more (λ (e : ℕ × ℕ). e.1) ds i (0, 0) within);
    }

-- one more of either list has room, and is written
pub fits_step : (ds ps : List (ℕ × ℕ)) (i j : ℕ) (merged : List RelaxDelta) (bytes : ℕ) (d : ℕ × ℕ) (is_old : Bool) → IsMergedUpTo ds ps i j merged bytes → AreDisjoint (ds ++ ps) → IsLower ds ps i j d is_old → (i + j < length merged) × (bytes + d.1 < 2 ^ 64)
fits_step ds ps i j merged bytes d true upto disjoint (within, here, first) = rw here (has_more ds ps i j merged bytes upto disjoint within)
fits_step ds ps i j merged bytes d false upto disjoint (within, here, first) =
    let more = has_more ps ds j i merged bytes (merged_swapped ds ps i j merged bytes upto) (disjoint_permutation (ds ++ ps) (ps ++ ds) (IsPermutation-append_comm ds ps) disjoint) within in
    rw here (omega (arith, more.0), more.1)

pub merged_step : (ds ps : List (ℕ × ℕ)) (i j : ℕ) (merged : List RelaxDelta) (bytes : ℕ) (d : ℕ × ℕ) (is_old : Bool) (delta : RelaxDelta) (p t : ℕ) → IsMergedUpTo ds ps i j merged bytes → AreValidTogether ds ps → IsLower ds ps i j d is_old
    → deletion_of delta ≡ d → delta.cumulative_deleted ≡ bytes + d.1 → p ≡ i + bool_byte is_old → t ≡ j + bool_byte (not is_old) → IsMergedUpTo ds ps p t (set merged (i + j) delta) delta.cumulative_deleted
merged_step ds ps i j merged bytes d true delta p t upto valid (within, here, first) is sum passed taken =
    let same : t ≡ j = omega (arith, taken) in
    rw (passed, same) (merged_more ds ps i j (i + j) merged delta bytes valid.old within refl upto (is ∙ here) (rw here at first) (rw here at sum))
merged_step ds ps i j merged bytes d false delta p t upto valid (within, here, first) is sum passed taken =
    let same : p ≡ i = omega (arith, passed) in
    rw (same, taken) (merged_swapped ps ds (j + 1) i _ _ (merged_more ps ds j i (i + j) merged delta bytes valid.added within (omega arith) (merged_swapped ds ps i j merged bytes upto) (is ∙ here) (rw here at first) (rw here at sum)))

-- after all of both, all are written
pub merged_all : (ds ps : List (ℕ × ℕ)) (i j : ℕ) (merged : List RelaxDelta) (bytes : ℕ) → AreDisjoint (ds ++ ps) → IsMergedUpTo ds ps i j merged bytes → length ds ≤ i → length ps ≤ j → IsSortedUnion (ds ++ ps) (map deletion_of merged) × AreValidDeltas merged
merged_all ds ps i j merged bytes disjoint upto past end =
    let whole : take (i + j) merged ≡ merged = take_all (i + j) merged (omega (arith, upto.size, past, end)) in
    let first : take i ds ≡ ds = take_all i ds past in
    let second : take j ps ≡ ps = take_all j ps end in
    let front : IsFront ds ps i j merged = rw whole at upto.front in
    let same : IsPermutation (ds ++ ps) (map deletion_of merged) = rw (first, second) at front.same in
    let union : IsSortedUnion (ds ++ ps) (map deletion_of merged) = union_from_sort (ds ++ ps) (map deletion_of merged) same disjoint front.rise in
    (union, record { valid = union.valid; listing = front.listing })
