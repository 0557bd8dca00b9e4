-- A merge of two ascending lists, from the back.
use Rattle.linker_base.proofs.Imports.{All, All-cons, AreDisjoint, AreValidDeltas, IsNonDecreasingBy, IsNonDecreasingBy-insert, IsNonDecreasingBy-take, IsPermutation, IsPermutation-append_comm, IsPermutation-append_right, IsPermutation-cons, IsPermutation-trans, IsSortedUnion, IsValid, List, RelaxDelta, ap, append_assoc, arith, bytes_of, cases_lt, deletion_of, drop, drop-set, drop_more, get_or, get_or-append_right, get_or-take, get_or_append_left, get_or_default, inl, inr, length, length-append, length-map, length-set, length-take, map, map-append, refl, set, suc, sum_by-append, sum_by-cons, sum_by_more, sym, take, take-append-drop, take-append-le, take-map, take-set-le, take-take, zero, ℕ, ◌++◌, ◌+◌, ◌-◌, ◌<◌, ◌∙◌, ◌∷◌, ◌≡◌, ◌≤◌}
use Rattle.std.proofs.Math.Seq.{take-append-add}
use Rattle.linker_base.proofs.Listed.{all_pairs_append}
use Rattle.linker_base.proofs.Search.{deletion_at, valid_rises}
use Rattle.linker_base.proofs.Unions.{union_from_sort}

rise-append : (xs ys : List (ℕ × ℕ)) → IsNonDecreasingBy (λ d. d.0) xs → IsNonDecreasingBy (λ d. d.0) ys → All (λ y. All (λ x. x.0 ≤ y.0) xs) ys → IsNonDecreasingBy (λ d. d.0) (xs ++ ys)
rise-append xs ys first second above i j d le within =
    let all = all_pairs_append (λ x y. x.0 ≤ y.0) xs ys (λ i j d lt low. first i j d (omega arith) low) (λ i j d lt low. second i j d (omega arith) low) above in
    grind (arith, λ (lower : i < j). all i j d lower within, λ (same : i ≡ j). ap (λ k. (get_or (xs ++ ys) k d).0) same)

-- each delta has the bytes deleted before all, and those up to it
pub record HaveSums (before : ℕ) (deltas : List RelaxDelta) : Type 0 where
  pub each : (k : ℕ) (d : RelaxDelta) → k < length deltas → (get_or deltas k d).cumulative_deleted ≡ before + bytes_of (take (k + 1) (map deletion_of deltas))

HaveSums-cons : (before : ℕ) (delta : RelaxDelta) (deltas : List RelaxDelta) → delta.cumulative_deleted ≡ before + delta.bytes_deleted → HaveSums (before + delta.bytes_deleted) deltas → HaveSums before (delta ∷ deltas)
HaveSums-cons before delta deltas sum rest = record { each = each }
  where
    each : (k : ℕ) (d : RelaxDelta) → k < length (delta ∷ deltas) → (get_or (delta ∷ deltas) k d).cumulative_deleted ≡ before + bytes_of (take (k + 1) (map deletion_of (delta ∷ deltas)))
    each zero d within = omega (arith, sum)
    each (suc k) d within =
        let next : suc k + 1 ≡ suc (k + 1) = omega arith in
        rw next (omega (arith, rest.each k d (omega arith), sum_by-cons (λ (e : ℕ × ℕ). e.1) (deletion_of delta) (take (k + 1) (map deletion_of deltas))))

pub HaveSums-append : (before : ℕ) (xs ys : List RelaxDelta) → HaveSums before xs → HaveSums (before + bytes_of (map deletion_of xs)) ys → HaveSums before (xs ++ ys)
HaveSums-append before xs ys first second = record {
  each = λ k d within. elim (cases_lt k (length xs)) [
    | inl low ↦
        let inner : k + 1 ≤ length (map deletion_of xs) = omega (arith, length-map xs deletion_of) in
        rw (get_or_append_left xs ys d k low, joined, take-append-le (k + 1) (map deletion_of xs) (map deletion_of ys) inner) (first.each k d low)
    | inr high ↦
        let inside : k - length xs < length ys = omega (arith, length-append xs ys) in
        let next : k + 1 ≡ length (map deletion_of xs) + (k - length xs + 1) = omega (arith, length-map xs deletion_of) in
        rw (get_or-append_right xs ys (length xs) k d refl high, joined, next, take-append-add (map deletion_of xs) (map deletion_of ys) (k - length xs + 1)) (omega (arith, second.each (k - length xs) d inside, sum_by-append (λ (e : ℕ × ℕ). e.1) (map deletion_of xs) (take (k - length xs + 1) (map deletion_of ys))))
  ];
}
  where
    joined : map deletion_of (xs ++ ys) ≡ map deletion_of xs ++ map deletion_of ys
    joined = map-append deletion_of xs ys

-- deltas that list all but the first i deletions and all but the first j additional ones, merged
pub record IsTail (ds ps : List (ℕ × ℕ)) (i j : ℕ) (tail : List RelaxDelta) : Type 0 where
  pub same : IsPermutation (drop i ds ++ drop j ps) (map deletion_of tail)
  pub rise : IsNonDecreasingBy (λ d. d.0) (map deletion_of tail)
  pub above_old : (k : ℕ) → k < i → All (λ d. (get_or ds k (0, 0)).0 ≤ d.0) (map deletion_of tail)
  pub above_left : (k : ℕ) → k < j → All (λ d. (get_or ps k (0, 0)).0 ≤ d.0) (map deletion_of tail)
  pub sums : HaveSums (bytes_of (take i ds) + bytes_of (take j ps)) tail

-- the last of the old deletions goes in front
IsTail-old : (ds ps : List (ℕ × ℕ)) (i j : ℕ) (tail : List RelaxDelta) (delta : RelaxDelta) → IsValid ds → IsValid ps → i < length ds → j ≤ length ps → IsTail ds ps (i + 1) j tail
    → deletion_of delta ≡ get_or ds i (0, 0) → (0 < j → (get_or ps (j - 1) (0, 0)).0 ≤ (get_or ds i (0, 0)).0) → delta.cumulative_deleted ≡ bytes_of (take (i + 1) ds) + bytes_of (take j ps) → IsTail ds ps i j (delta ∷ tail)
IsTail-old ds ps i j tail delta valid rises within inside merged is above sum =
    let offset : delta.input_offset ≡ (get_or ds i (0, 0)).0 = ap (λ (e : ℕ × ℕ). e.0) is in
    let bytes : delta.bytes_deleted ≡ (get_or ds i (0, 0)).1 = ap (λ (e : ℕ × ℕ). e.1) is in
    let more = sum_by_more (λ (e : ℕ × ℕ). e.1) ds i (0, 0) within in
    record {
      same = rw (drop_more ds i (0, 0) within, ← is) (IsPermutation-cons (deletion_of delta) (drop (i + 1) ds ++ drop j ps) (map deletion_of tail) merged.same);
      rise = IsNonDecreasingBy-insert (λ d. d.0) (map deletion_of tail) 0 (deletion_of delta) merged.rise (omega arith) (λ k d low. absurd (omega arith)) (λ k d low high. (rw (← is) at (merged.above_old i (omega arith))) k d high);
      above_old = λ k low. All-cons (λ d. (get_or ds k (0, 0)).0 ≤ d.0) (deletion_of delta) (map deletion_of tail) (omega (arith, offset, valid_rises ds valid k i (0, 0) (omega arith) within)) (merged.above_old k (omega arith));
      above_left = λ k low. All-cons (λ d. (get_or ps k (0, 0)).0 ≤ d.0) (deletion_of delta) (map deletion_of tail) (omega (arith, offset, above (omega arith), valid_rises ps rises k (j - 1) (0, 0) (omega arith) (omega arith))) (merged.above_left k low);
      sums = HaveSums-cons (bytes_of (take i ds) + bytes_of (take j ps)) delta tail (omega (arith, more, bytes, sum)) (
          let before : bytes_of (take i ds) + bytes_of (take j ps) + delta.bytes_deleted ≡ bytes_of (take (i + 1) ds) + bytes_of (take j ps) = omega (arith, more, bytes) in
          rw before merged.sums);
    }

tail_swapped : (ds ps : List (ℕ × ℕ)) (i j : ℕ) (tail : List RelaxDelta) → IsTail ds ps i j tail → IsTail ps ds j i tail
tail_swapped ds ps i j tail merged =
    let bytes : bytes_of (take j ps) + bytes_of (take i ds) ≡ bytes_of (take i ds) + bytes_of (take j ps) = omega arith in
    record {
      same = IsPermutation-trans (drop j ps ++ drop i ds) (drop i ds ++ drop j ps) (map deletion_of tail) (IsPermutation-append_comm (drop j ps) (drop i ds)) merged.same;
      rise = merged.rise;
      above_old = merged.above_left;
      above_left = merged.above_old;
      sums = rw bytes merged.sums;
    }

-- the last of the additional deletions goes in front
IsTail-left : (ds ps : List (ℕ × ℕ)) (i j : ℕ) (tail : List RelaxDelta) (delta : RelaxDelta) → IsValid ds → IsValid ps → i ≤ length ds → j < length ps → IsTail ds ps i (j + 1) tail
    → deletion_of delta ≡ get_or ps j (0, 0) → (0 < i → (get_or ds (i - 1) (0, 0)).0 ≤ (get_or ps j (0, 0)).0) → delta.cumulative_deleted ≡ bytes_of (take i ds) + bytes_of (take (j + 1) ps) → IsTail ds ps i j (delta ∷ tail)
IsTail-left ds ps i j tail delta valid rises within inside merged is above sum =
    tail_swapped ps ds j i (delta ∷ tail) (IsTail-old ps ds j i tail delta rises valid inside within (tail_swapped ds ps i (j + 1) tail merged) is above (omega (arith, sum)))

-- what isn't free is merged, n bytes are left, and the first i deltas are read as at first
pub record IsMerging (start : List RelaxDelta) (ps : List (ℕ × ℕ)) (i j : ℕ) (merged : List RelaxDelta) (bytes : ℕ) : Type 0 where
  pub old_within : i ≤ length start
  pub left_within : j ≤ length ps
  pub size : length merged ≡ length start + length ps
  pub front : take i merged ≡ take i start
  pub tail : IsTail (map deletion_of start) ps i j (drop (i + j) merged)
  pub sum : bytes ≡ bytes_of (take i (map deletion_of start)) + bytes_of (take j ps)

-- the last of the first i deltas
pub merging_end : (start : List RelaxDelta) (ps : List (ℕ × ℕ)) (i j bytes : ℕ) (merged : List RelaxDelta) (d : RelaxDelta) → IsMerging start ps i j merged bytes → 0 < i → get_or (map deletion_of start) (i - 1) (0, 0) ≡ deletion_of (get_or merged (i - 1) d)
merging_end start ps i j bytes merged d merging some =
    let low : i - 1 < i = omega arith in
    let inside : i - 1 < length start = omega (arith, merging.old_within) in
    deletion_at start (i - 1) d (0, 0) inside ∙ ap deletion_of (sym (get_or-take i start (i - 1) d low) ∙ ap (λ front. get_or front (i - 1) d) (sym merging.front) ∙ get_or-take i merged (i - 1) d low)

-- a deletion of either list is written
merged_on : (start : List RelaxDelta) (ps : List (ℕ × ℕ)) (old left i j at : ℕ) (merged : List RelaxDelta) (delta : RelaxDelta) (bytes : ℕ) → IsMerging start ps old left merged bytes → i ≤ old → j ≤ left → i + j ≡ at → at + 1 ≡ old + left
    → IsTail (map deletion_of start) ps i j (delta ∷ drop (old + left) merged) → bytes ≡ bytes_of (take i (map deletion_of start)) + bytes_of (take j ps) + delta.bytes_deleted → IsMerging start ps i j (set merged at delta) (bytes - delta.bytes_deleted)
merged_on start ps old left i j at merged delta bytes merging low lower here next written sum =
    let free : at < length merged = omega (arith, merging.size, merging.old_within, merging.left_within) in
    record {
      old_within = omega (arith, merging.old_within);
      left_within = omega (arith, merging.left_within);
      size = omega (arith, merging.size, length-set merged at delta);
      front = take-set-le i merged at delta (omega arith) ∙ sym (take-take i old merged low) ∙ ap (take i) merging.front ∙ take-take i old start low;
      tail = rw (here, drop-set merged at delta free, next) written;
      sum = omega (arith, sum);
    }

pub merging_old : (start : List RelaxDelta) (ps : List (ℕ × ℕ)) (old left at : ℕ) (merged : List RelaxDelta) (delta : RelaxDelta) (bytes : ℕ) → IsValid (map deletion_of start) → IsValid ps → 0 < old → at ≡ old + left - 1 → IsMerging start ps old left merged bytes
    → deletion_of delta ≡ get_or (map deletion_of start) (old - 1) (0, 0) → (0 < left → (get_or ps (left - 1) (0, 0)).0 ≤ (get_or (map deletion_of start) (old - 1) (0, 0)).0) → delta.cumulative_deleted ≡ bytes → IsMerging start ps (old - 1) left (set merged at delta) (bytes - delta.bytes_deleted)
merging_old start ps old left at merged delta bytes valid rises some place merging is above sum =
    let ds = map deletion_of start in
    let one : old - 1 + 1 ≡ old = omega arith in
    let inside : old - 1 < length ds = omega (arith, length-map start deletion_of, merging.old_within) in
    merged_on start ps old left (old - 1) left at merged delta bytes merging (omega arith) (omega arith) (omega arith) (omega arith)
    (IsTail-old ds ps (old - 1) left (drop (old + left) merged) delta valid rises inside merging.left_within (rw one merging.tail) is above (rw one (sum ∙ merging.sum)))
    (omega (arith, merging.sum, rw one at (sum_by_more (λ (e : ℕ × ℕ). e.1) ds (old - 1) (0, 0) inside), ap (λ (e : ℕ × ℕ). e.1) is))

pub merging_left : (start : List RelaxDelta) (ps : List (ℕ × ℕ)) (old left at : ℕ) (merged : List RelaxDelta) (delta : RelaxDelta) (bytes : ℕ) → IsValid (map deletion_of start) → IsValid ps → 0 < left → at ≡ old + left - 1 → IsMerging start ps old left merged bytes
    → deletion_of delta ≡ get_or ps (left - 1) (0, 0) → (0 < old → (get_or (map deletion_of start) (old - 1) (0, 0)).0 ≤ (get_or ps (left - 1) (0, 0)).0) → delta.cumulative_deleted ≡ bytes → IsMerging start ps old (left - 1) (set merged at delta) (bytes - delta.bytes_deleted)
merging_left start ps old left at merged delta bytes valid rises more place merging is above sum =
    let ds = map deletion_of start in
    let one : left - 1 + 1 ≡ left = omega arith in
    let inside : left - 1 < length ps = omega (arith, merging.left_within) in
    merged_on start ps old left old (left - 1) at merged delta bytes merging (omega arith) (omega arith) (omega arith) (omega arith)
    (IsTail-left ds ps old (left - 1) (drop (old + left) merged) delta valid rises (omega (arith, length-map start deletion_of, merging.old_within)) inside (rw one merging.tail) is above (rw one (sum ∙ merging.sum)))
    (omega (arith, merging.sum, rw one at (sum_by_more (λ (e : ℕ × ℕ). e.1) ps (left - 1) (0, 0) inside), ap (λ (e : ℕ × ℕ). e.1) is))

-- the bytes of the next deletion are among those left
pub spends_old : (start : List RelaxDelta) (ps : List (ℕ × ℕ)) (old left : ℕ) (merged : List RelaxDelta) (bytes : ℕ) → 0 < old → IsMerging start ps old left merged bytes → (get_or (map deletion_of start) (old - 1) (0, 0)).1 ≤ bytes
spends_old start ps old left merged bytes some merging =
    let one : old - 1 + 1 ≡ old = omega arith in
    omega (arith, merging.sum, rw one at (sum_by_more (λ (e : ℕ × ℕ). e.1) (map deletion_of start) (old - 1) (0, 0) (omega (arith, merging.old_within, length-map start deletion_of))))

pub spends_left : (start : List RelaxDelta) (ps : List (ℕ × ℕ)) (old left : ℕ) (merged : List RelaxDelta) (bytes : ℕ) → 0 < left → IsMerging start ps old left merged bytes → (get_or ps (left - 1) (0, 0)).1 ≤ bytes
spends_left start ps old left merged bytes some merging =
    let one : left - 1 + 1 ≡ left = omega arith in
    omega (arith, merging.sum, rw one at (sum_by_more (λ (e : ℕ × ℕ). e.1) ps (left - 1) (0, 0) (omega (arith, merging.left_within))))

-- the first i deltas, where they stood, and those after them list all
pub merging_last : (start : List RelaxDelta) (ps : List (ℕ × ℕ)) (i bytes : ℕ) (deltas : List RelaxDelta) → AreValidDeltas start → AreDisjoint (map deletion_of start ++ ps) → IsMerging start ps i 0 deltas bytes → IsSortedUnion (map deletion_of start ++ ps) (map deletion_of deltas) × AreValidDeltas deltas
merging_last start ps i bytes deltas listed disjoint merging =
    let ds = map deletion_of start in
    let tail = drop i deltas in
    let here : i + 0 ≡ i = omega arith in
    let merged : IsTail ds ps i 0 tail = rw here at merging.tail in
    let whole : deltas ≡ take i start ++ tail = sym (take-append-drop i deltas) ∙ ap (λ front. front ++ tail) merging.front in
    let joined : map deletion_of deltas ≡ take i ds ++ map deletion_of tail =
    ap (map deletion_of) whole ∙ map-append deletion_of (take i start) tail ∙ ap (λ front. front ++ map deletion_of tail) (sym (take-map deletion_of i start)) in
    let moved = IsPermutation-append_right (take i ds) (drop i ds ++ ps) (map deletion_of tail) merged.same in
    let same = rw (← (append_assoc (take i ds) (drop i ds) ps), take-append-drop i ds) at moved in
    let rise = rise-append (take i ds) (map deletion_of tail) (IsNonDecreasingBy-take (λ d. d.0) i ds (valid_rises ds listed.valid)) merged.rise (λ m e inside k d low.
    let lower : k < i = omega (arith, length-take i ds) in
    rw (get_or-take i ds k d lower, get_or_default ds k d (0, 0) (omega (arith, length-take i ds))) (merged.above_old k lower m e inside)) in
    let union : IsSortedUnion (ds ++ ps) (map deletion_of deltas) = rw joined (union_from_sort (ds ++ ps) (take i ds ++ map deletion_of tail) same disjoint rise) in
    let front : HaveSums 0 (take i start) = record {
      each = λ k d within.
          let lower : k < i = omega (arith, length-take i start) in
          let taken : take (k + 1) (map deletion_of (take i start)) ≡ take (k + 1) ds = ap (take (k + 1)) (sym (take-map deletion_of i start)) ∙ take-take (k + 1) i ds (omega arith) in
          rw (get_or-take i start k d lower, taken) (omega (arith, listed.listing.sums k d (omega (arith, length-take i start))));
    } in
    let before : 0 + bytes_of (map deletion_of (take i start)) ≡ bytes_of (take i ds) + bytes_of (take 0 ps) = omega (arith, ap bytes_of (take-map deletion_of i start)) in
    let sums : HaveSums 0 deltas = rw whole (HaveSums-append 0 (take i start) tail front (rw before merged.sums)) in
    (union, record { valid = union.valid; listing = record { same = refl; sums = λ k d within. omega (arith, sums.each k d within) } })
