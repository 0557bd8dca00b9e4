-- What a search in the deltas of a section finds.
use Rattle.linker_base.proofs.Imports.{Any, AreHeads, ArePlaced, AreValidDeltas, BeginsBelow, Bool, Deltas, HasInput, HeadsAgree, IsEndOf, IsInsideDeletion, IsNonDecreasingBy, IsOnlyAt, IsPartitionPoint, IsPartitioned, IsPartitionedBy, IsPlacedUpTo, IsPointOf, IsSelected, IsValid, List, OnlyProbes, Probed, RelaxDelta, Subject, Test, View, ap, arith, bytes_of, cases_eq, cases_lt, cases_order, deletion_of, false, get_or, get_or-map, get_or_default, inl, inr, leb, length, length-map, list_subject, map, max, nat_eq, nat_tests, no_head, output_offset_of, passes_test, rank, refl, sum_by_more, sym, take, true, view_subject, ℕ, ◌%◌, ◌*◌, ◌+◌, ◌-◌, ◌<◌, ◌^◌, ◌↔◌, ◌∙◌, ◌≡◌, ◌≤◌}
use Rattle.linker_base.proofs.OutputOffsets.{AreParted, rank-parted, selected-output, bytes_between, bytes-le-offset}
use Rattle.linker_base.proofs.Rank.{rank-mono, input_fits}
use Rattle.linker_base.proofs.Unions.{apart_from_ascending}

-- what a read past the end gives
abbrev pub blank : RelaxDelta
blank = record { input_offset = 0; cumulative_deleted = 0; bytes_deleted = 0 }

-- the deletion at an index is that of the delta there
pub deletion_at : (deltas : List RelaxDelta) (k : ℕ) (d : RelaxDelta) (e : ℕ × ℕ)
    → k < length deltas → get_or (map deletion_of deltas) k e ≡ deletion_of (get_or deltas k d)
deletion_at deltas k d e within = get_or-map deletion_of deltas k d e within

-- the bytes up to a delta are those before it and its own
pub bytes_up_to : (deltas : List RelaxDelta) (k : ℕ) (d : RelaxDelta) → k < length deltas → bytes_of (take (k + 1) (map deletion_of deltas)) ≡ bytes_of (take k (map deletion_of deltas)) + (get_or deltas k d).bytes_deleted
bytes_up_to deltas k d within =
    let inside : k < length (map deletion_of deltas) = omega (arith, length-map deltas deletion_of) in
    sum_by_more (λ (e : ℕ × ℕ). e.1) (map deletion_of deltas) k (0, 0) inside ∙ ap (λ (e : ℕ × ℕ). bytes_of (take k (map deletion_of deltas)) + e.1) (deletion_at deltas k d (0, 0) within)

-- the sum at an index is that of the deletions before it and its own bytes
pub sum_at : (deltas : List RelaxDelta) → AreValidDeltas deltas → (k : ℕ) (d : RelaxDelta)
    → k < length deltas
    → (get_or deltas k d).cumulative_deleted ≡ bytes_of (take k (map deletion_of deltas)) + (get_or deltas k d).bytes_deleted
sum_at deltas listed k d within = listed.listing.sums k d within ∙ bytes_up_to deltas k d within

-- the offsets of a valid list rise
pub valid_rises : (ds : List (ℕ × ℕ)) → IsValid ds → IsNonDecreasingBy (λ d. d.0) ds
valid_rises ds valid i j d le within = grind (arith, λ (lower : i < j). (valid.ascending i j d lower within).0, λ (same : i ≡ j). ap (λ k. (get_or ds k d).0) same)

-- the offsets of deltas rise
pub offsets_rise : (deltas : List RelaxDelta) → IsValid (map deletion_of deltas)
    → IsNonDecreasingBy (λ d. d.input_offset) deltas
offsets_rise deltas valid i j d le within =
    let rise = valid_rises (map deletion_of deltas) valid i j (0, 0) le (omega (arith, length-map deltas deletion_of)) in
    rw (deletion_at deltas i d (0, 0) (omega arith), deletion_at deltas j d (0, 0) within) at rise

output_offset_from_sum : (offset bytes before : ℕ) → before ≤ offset → offset + bytes < 2 ^ 64
    → (offset + bytes + (2 ^ 64 - (before + bytes))) % 2 ^ 64 + before ≡ offset
output_offset_from_sum offset bytes before low fits = omega arith

-- the output offset of a delta and the bytes deleted before it make its offset
output_offset_at : (deltas : List RelaxDelta) → AreValidDeltas deltas → (k : ℕ) (d : RelaxDelta)
    → k < length deltas
    → output_offset_of (get_or deltas k d) + bytes_of (take k (map deletion_of deltas)) ≡ (get_or deltas k d).input_offset
output_offset_at deltas listed k d within =
    let ds = map deletion_of deltas in
    let inside : k < length ds = omega (arith, length-map deltas deletion_of) in
    let at = deletion_at deltas k d (0, 0) within in
    rw (sum_at deltas listed k d within) (output_offset_from_sum (get_or deltas k d).input_offset (get_or deltas k d).bytes_deleted (bytes_of (take k ds)) (rw at at (bytes-le-offset ds k (0, 0) listed.valid.ascending inside)) (rw at at (listed.valid.ends k (0, 0) inside)))

-- nothing is deleted before the first delta, which begins a single block
pub first_is_placed : (deltas : List RelaxDelta) → AreValidDeltas deltas → (block : ℕ) (d e : RelaxDelta)
    → 64 * block < length deltas → length deltas ≤ 64
    → (get_or deltas (64 * block) e).input_offset ≡ output_offset_of (get_or deltas (64 * block) d)
first_is_placed deltas listed block d e within few =
    let none : block ≡ 0 = omega arith in
    let some : 0 < length deltas = omega arith in
    let at : output_offset_of (get_or deltas 0 d) + 0 ≡ (get_or deltas 0 d).input_offset = output_offset_at deltas listed 0 d some in
    let same : (get_or deltas 0 e).input_offset ≡ (get_or deltas 0 d).input_offset = sym (ap (λ (x : ℕ × ℕ). x.0) (deletion_at deltas 0 e (0, 0) some)) ∙ ap (λ (x : ℕ × ℕ). x.0) (deletion_at deltas 0 d (0, 0) some) in
    rw none (omega (arith, at, same))

-- whether the output offset of a delta is at most y
abbrev pub is_placed : ℕ → RelaxDelta → Bool
is_placed y d = leb (output_offset_of d) y

-- which means the same of its deletion
placed_at : (deltas : List RelaxDelta) → AreValidDeltas deltas
    → (y k : ℕ) (d : RelaxDelta) (e : ℕ × ℕ) → k < length deltas
    → ((is_placed y (get_or deltas k d) ≡ true → (get_or (map deletion_of deltas) k e).0 ≤ y + bytes_of (take k (map deletion_of deltas))) × ((get_or (map deletion_of deltas) k e).0 ≤ y + bytes_of (take k (map deletion_of deltas)) → is_placed y (get_or deltas k d) ≡ true) × (is_placed y (get_or deltas k d) ≡ false → y + bytes_of (take k (map deletion_of deltas)) < (get_or (map deletion_of deltas) k e).0))
placed_at deltas listed y k d e within =
    let output = output_offset_at deltas listed k d within in
    rw (deletion_at deltas k d e within)
    (λ low. grind (arith, nat_tests), λ low. grind (arith, nat_tests), λ high. grind (arith, nat_tests))

-- output offsets don't fall, so a search by them parts the deltas
pub placed_first : (deltas : List RelaxDelta) → AreValidDeltas deltas → (y : ℕ)
    → IsPartitionedBy (is_placed y) deltas
placed_first deltas listed y i j d le within passes =
    let ds = map deletion_of deltas in
    let inside : j < length ds = omega (arith, length-map deltas deletion_of) in
    let between = bytes_between ds i j (0, 0) listed.valid.ascending le inside in
    let high = (placed_at deltas listed y j d (0, 0) within).0 passes in
    (placed_at deltas listed y i d (0, 0) (omega arith)).1 (omega arith)

module _ (ds : List (ℕ × ℕ)) (valid : IsValid ds) where
  -- an offset is inside a deletion where it is inside the last one that begins below it
  pub inside_last : (i k : ℕ) (d : ℕ × ℕ) → 0 < k → k ≤ length ds
      → IsPartitionPoint (λ d. d.0 < i) (λ d. i ≤ d.0) ds k
      → IsInsideDeletion ds i ↔ (i < (get_or ds (k - 1) d).0 + (get_or ds (k - 1) d).1)
  inside_last i k d positive within parted = (
    λ (j, e, low, is, (below, above)).
        let end : (get_or ds j e).0 + (get_or ds j e).1 ≡ e.0 + e.1 = ap (λ (x : ℕ × ℕ). x.0 + x.1) is in
        let same : j ≡ k - 1 → get_or ds j e ≡ get_or ds (k - 1) d = λ here. ap (λ q. get_or ds q e) here ∙ get_or_default ds (k - 1) e d (omega arith) in
        elim (cases_eq j (k - 1)) [
          | inl here ↦ omega (arith, end, ap (λ (x : ℕ × ℕ). x.0 + x.1) (same here))
          | inr other ↦ absurd (grind (arith, ap (λ (x : ℕ × ℕ). x.0) is, end, λ (lower : j < k - 1). (valid.ascending j (k - 1) e lower (omega arith)).1, parted.0 (k - 1) e (omega arith), parted.1 j e, low))
        ],
    λ inside. (k - 1, get_or ds (k - 1) d, omega arith, get_or_default ds (k - 1) _ d (omega arith), (parted.0 (k - 1) d (omega arith) (omega arith), inside)),
  )

  -- an offset at or above the end of the last deletion that begins below it parts the list there
  parted_past : (i k : ℕ) → k ≤ length ds
      → ((d : ℕ × ℕ) → 0 < k → (get_or ds (k - 1) d).0 + (get_or ds (k - 1) d).1 ≤ i)
      → ((j : ℕ) (d : ℕ × ℕ) → k ≤ j → j < length ds → i ≤ (get_or ds j d).0) → AreParted ds k i
  parted_past i k within past ahead = record {
    passed = λ j d from below.
        let earlier : j < k - 1 → (get_or ds j d).0 + (get_or ds j d).1 ≤ (get_or ds (k - 1) d).0 = λ lower. (valid.ascending j (k - 1) d lower (omega arith)).1 in
        grind (arith, earlier, past d (omega arith), λ (last : j ≡ k - 1). ap (λ q. get_or ds q d) last);
    ahead = ahead;
  }

  -- the rank and the bytes deleted up to there are the greater of the offset and that end
  pub rank_from_search : (i k end : ℕ) → k ≤ length ds
      → IsPartitionPoint (λ d. d.0 < i) (λ d. i ≤ d.0) ds k → IsEndOf ds k end
      → rank ds i + bytes_of (take k ds) ≡ max i end
  rank_from_search i k end within parted ends =
      let apart = apart_from_ascending ds valid.ascending in
      elim (cases_lt i end) [
        | inr past ↦
            let all : rank ds i + bytes_of (take k ds) ≡ i = rank-parted ds k i apart (parted_past i k within (λ d some. omega (arith, ends.last d some)) (λ j d from low. parted.1 j d from low)) in
            omega arith
        | inl inside ↦ elim (cases_lt 0 k) [
          | inr none ↦
              let zero_end : end ≡ 0 = ends.none (omega arith) in
              absurd (omega arith)
          | inl some ↦
              let last = get_or ds (k - 1) (0, 0) in
              let here : last.0 + last.1 ≡ end = ends.last (0, 0) some in
              let low : last.0 < i = parted.0 (k - 1) (0, 0) (omega arith) (omega arith) in
              let more : bytes_of (take (k - 1 + 1) ds) ≡ bytes_of (take (k - 1) ds) + last.1 = sum_by_more (λ (e : ℕ × ℕ). e.1) ds (k - 1) (0, 0) (omega arith) in
              let back : k - 1 + 1 ≡ k = omega arith in
              let bytes : bytes_of (take k ds) ≡ bytes_of (take (k - 1) ds) + last.1 = rw back at more in
              let begin : rank ds last.0 + bytes_of (take (k - 1) ds) ≡ last.0 = rank-parted ds (k - 1) last.0 apart (parted_past last.0 (k - 1) (omega arith)
              (λ d positive. rw (get_or_default ds (k - 1) (0, 0) d (omega arith)) ((valid.ascending (k - 1 - 1) (k - 1) d (omega arith) (omega arith)).1))
              (λ j d from below. rw (get_or_default ds (k - 1) (0, 0) d (omega arith)) (valid_rises ds valid (k - 1) j d from below))) in
              let finish : rank ds end + bytes_of (take k ds) ≡ end = rank-parted ds k end apart (parted_past end k within (λ d positive. omega (arith, ends.last d positive)) (λ j d from below.
              let next = valid.ascending (k - 1) j d (omega arith) below in
              omega (arith, next.1, ends.last d some))) in
              omega (arith, rank-mono ds last.0 i (omega arith), rank-mono ds i end (omega arith))
        ]
      ]

  -- of a valid list one deletion at most begins at an offset
  pub only_at : (offset k : ℕ) (e : ℕ × ℕ) → k < length ds → (get_or ds k e).0 ≡ offset
      → IsOnlyAt ds offset (get_or ds k e).1
  only_at offset k e within here = record {
    some = (k, get_or ds k e, within, get_or_default ds k _ e within, here);
    only = λ j d inside there. elim (cases_order j k) [
      | inl same ↦ rw (same, get_or_default ds k d e within) refl
      | inr other ↦ absurd (grind (arith, other, λ (lower : j < k). (valid.ascending j k d lower within).0, λ (higher : k < j). (valid.ascending k j d higher inside).0, ap (λ (x : ℕ × ℕ). x.0) (get_or_default ds k d e within)))
    ];
  }

  -- and none where the first that begins at it or above does not begin at it
  pub none_at : (offset k : ℕ) → IsPartitionPoint (λ d. d.0 < offset) (λ d. offset ≤ d.0) ds k
      → ((e : ℕ × ℕ) → k < length ds → (get_or ds k e).0 ≡ offset → ⊥) → Any (λ d. d.0 ≡ offset) ds
      → ⊥
  none_at offset k parted other (j, d, inside, is, here) =
      let at : (get_or ds j d).0 ≡ offset = ap (λ (x : ℕ × ℕ). x.0) is ∙ here in
      grind (arith, at, parted.0 j d (omega arith), parted.1 k d (omega arith), λ (same : j ≡ k). other d (omega arith) (rw (← same) at), λ (higher : k < j). (valid.ascending k j d higher inside).0)

-- what the last delta that begins below an offset tells of the offset's rank
pub rank_at_last : (deltas : List RelaxDelta) → AreValidDeltas deltas → (i last : ℕ)
    → last < length deltas
    → IsPartitionPoint (λ d. d.0 < i) (λ d. i ≤ d.0) (map deletion_of deltas) (last + 1)
    → ((get_or deltas last blank).input_offset + (get_or deltas last blank).bytes_deleted < 2 ^ 64)
    × (rank (map deletion_of deltas) i + (get_or deltas last blank).cumulative_deleted ≡ max i ((get_or deltas last blank).input_offset + (get_or deltas last blank).bytes_deleted))
rank_at_last deltas listed i last within parted =
    let ds = map deletion_of deltas in
    let inside : last < length ds = omega (arith, length-map deltas deletion_of) in
    let here = deletion_at deltas last blank (0, 0) within in
    let back : last + 1 - 1 ≡ last = omega arith in
    let ranked = rank_from_search ds listed.valid i (last + 1) ((get_or deltas last blank).input_offset + (get_or deltas last blank).bytes_deleted) (omega (arith, length-map deltas deletion_of)) parted (record {
      none = λ none. absurd (omega arith);
      last = λ d some. rw (back, deletion_at deltas last blank d within) refl;
    }) in
    (rw here at (listed.valid.ends last (0, 0) inside), rw (listed.listing.sums last blank within) ranked)

pub rank_at_none : (deltas : List RelaxDelta) → AreValidDeltas deltas → (i : ℕ)
    → IsPartitionPoint (λ d. d.0 < i) (λ d. i ≤ d.0) (map deletion_of deltas) 0
    → i ≡ rank (map deletion_of deltas) i
rank_at_none deltas listed i parted =
    let ranked : rank (map deletion_of deltas) i + 0 ≡ max i 0 = rank_from_search (map deletion_of deltas) listed.valid i 0 0 (omega arith) parted (record { none = λ none. refl; last = λ d some. absurd (omega arith) }) in
    omega (arith, ranked)

-- ---- searches by index

begins_partitioned : (s : Subject) → IsValid (map deletion_of s.deltas) → (i : ℕ)
    → IsPartitioned s Deltas (BeginsBelow i)
begins_partitioned s valid i j k le within passes = let rise = offsets_rise s.deltas valid j k blank le within in grind (arith, nat_tests)

places_partitioned : (s : Subject) → AreValidDeltas s.deltas → (y : ℕ)
    → IsPartitioned s Deltas (IsPlacedUpTo y)
places_partitioned s listed y j k le within passes = placed_first s.deltas listed y j k blank le within passes

pub parted_from_point : (s : Subject) (i k : ℕ) → IsValid (map deletion_of s.deltas) → k ≤ length s.deltas
    → (IsPartitioned s Deltas (BeginsBelow i) → IsPointOf s Deltas (BeginsBelow i) k)
    → IsPartitionPoint (λ d. d.0 < i) (λ d. i ≤ d.0) (map deletion_of s.deltas) k
parted_from_point s i k valid within find =
    let found = find (begins_partitioned s valid i) in (
      λ j d low high. rw (deletion_at s.deltas j blank d (omega arith)) (grind (arith, nat_tests, found.before j high)),
      λ j d low high. let inside : j < length s.deltas = omega (arith, length-map s.deltas deletion_of) in rw (deletion_at s.deltas j blank d inside) (grind (arith, nat_tests, found.after j low inside)),
    )

placed_from_point : (s : Subject) → AreValidDeltas s.deltas → (y k : ℕ) → k ≤ length s.deltas
    → IsPointOf s Deltas (IsPlacedUpTo y) k → ArePlaced (map deletion_of s.deltas) y k
placed_from_point s listed y k within found = record {
  before = λ j d below. (placed_at s.deltas listed y j blank d (omega arith)).0 (found.before j below);
  after = λ j d from below.
      let inside : j < length s.deltas = omega (arith, length-map s.deltas deletion_of) in
      (placed_at s.deltas listed y j blank d inside).2 (found.after j from inside);
}

-- a search by output offsets finds what one selects, and tells whether that is of 64 bits
pub searched : (s : Subject) → AreValidDeltas s.deltas → (y k : ℕ) → k ≤ length s.deltas
    → (IsPartitioned s Deltas (IsPlacedUpTo y) → IsPointOf s Deltas (IsPlacedUpTo y) k)
    → IsSelected (map deletion_of s.deltas) y (y + bytes_of (take k (map deletion_of s.deltas)))
    × (HasInput (map deletion_of s.deltas) y ↔ (y + bytes_of (take k (map deletion_of s.deltas)) < 2 ^ 64))
searched s listed y k within find =
    let ds = map deletion_of s.deltas in
    let placed = placed_from_point s listed y k within (find (places_partitioned s listed y)) in
    let selected = selected-output ds k y (apart_from_ascending ds listed.valid.ascending) (omega (arith, length-map s.deltas deletion_of)) placed.before placed.after in
    (selected, input_fits ds y (y + bytes_of (take k ds)) selected)

-- ---- searches by heads

-- heads that belong to the deltas pass where the first deltas of their blocks do
pub view_heads_agree : (view : View) (test : Test) → (0 < length view.heads → AreHeads view.deltas view.heads)
    → HeadsAgree (view_subject view) test
view_heads_agree view test are b low = elim (cases_lt 0 (length view.heads)) [
  | inl some ↦
      let heads = are some in
      let not_none : nat_eq (length view.heads) 0 ≡ false = grind (arith, nat_tests) in
      rw not_none (ap (passes_test test) (heads.each b no_head blank (omega (arith, heads.count))))
  | inr none ↦
      let is_none : nat_eq (length view.heads) 0 ≡ true = grind (arith, nat_tests) in
      rw is_none refl
]

pub list_heads_agree : (deltas : List RelaxDelta) (test : Test)
    → HeadsAgree (list_subject deltas) test
list_heads_agree deltas test b low = refl

-- probes keep the deltas
pub same_listed : {most : ℕ} {a b : Probed} → OnlyProbes most a b
    → b.subject.deltas ≡ a.subject.deltas
same_listed probed = ap (λ (s : Subject). s.deltas) probed.same
