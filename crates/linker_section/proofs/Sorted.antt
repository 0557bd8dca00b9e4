-- Fields that are gone through by sorted indexes.
use Rattle.linker_section.proofs.Imports.{All-permutation, Architecture, AreApart, AreIndexes, AreSwept, BeginsPair, Contains, Contains-permutation, Field, HasField, IsField, IsLastAt, IsOrder, IsOverlappedBelow, IsPermutation-keeps, IsSeen, List, None, RowInfo, Some, ap, arith, begins_pair, cases_eq, cases_lt, cond, cond-false, cond-true, ends_pair, eq-eqb, eqb, false, get_or_default, inl, inr, is_clear_of, length, lt-ltb, ltb, ne_eqb, offset_at, place_in, place_of, refl, relocation_in, slice_index, subst, swap, sym, true, ℕ, ◌*◌, ◌+◌, ◌/◌, ◌<◌, ◌^◌, ◌∙◌, ◌≡◌, ◌≤◌, ◌⊎◌}
use Rattle.std.proofs.lemmas.List.Edits.{swapped_from_swap, length-swap}
use Rattle.std.proofs.lemmas.List.Elements.{All-from_get_or}
use Rattle.std.specs.List.Sorted.{IsPermutation, IsNonDecreasingBy}
use Rattle.linker_section.proofs.Claims.{OneMore, HaveNone, apart_more, claimed_more, apart_pair, claimed_pair, apart_without, claimed_without, not_clear, ordered_overlapped, after_overlapped}
use Rattle.linker_section.proofs.Rows.{one_info}
use Rattle.linker_section.proofs.Stepping.{same_place}
use Rattle.linker_section.proofs.Composing.{begun_has_value}

-- ---- sorted indexes

place_below : (bytes : List ℕ) (i : ℕ) → i < length bytes / 24
    → place_of bytes i ≡ offset_at bytes i * 2 ^ 64 + i
place_below bytes i under =
    ap (λ r. place_in r i) (cond-true (ltb i (length bytes / 24)) (Some (relocation_in bytes i)) None (lt-ltb i (length bytes / 24) under))

before_of : (a b i j : ℕ) → i < 2 ^ 64 → j < 2 ^ 64 → (i ≡ j → ⊥)
    → a * 2 ^ 64 + i ≤ b * 2 ^ 64 + j → (a < b) ⊎ ((a ≡ b) × (i < j))
before_of a b i j small_i small_j differ order =
    elim (cases_lt a b) [
      | inl below ↦ inl below
      | inr above ↦
          let same : a ≡ b = omega (arith, above, order, small_i, small_j) in
          inr (same, omega (arith, same, order, differ))
    ]

-- each index stands once: another list says where
record IsOnce (order : List ℕ) : Type 0 where
  pub place : ℕ → ℕ
  pub is : (p : ℕ) → p < length order → place (slice_index order p) ≡ p

other_of : ℕ → ℕ → ℕ → ℕ
other_of a b n = cond (eqb n a) b (cond (eqb n b) a n)

once_swapped : (order : List ℕ) (a b : ℕ) → a < length order → b < length order → IsOnce order
    → IsOnce (swap order a b)
unfolding other_of
once_swapped order a b under_a under_b once =
    let swapped = swapped_from_swap order (swap order a b) a b 0 under_a under_b refl in
    record {
      place = λ x. other_of a b (once.place x);
      is = λ p under.
          elim (cases_eq p a) [
            | inl is ↦
                ap (λ n. other_of a b (once.place (slice_index (swap order a b) n))) is
                ∙ (ap (λ x. other_of a b (once.place x)) (swapped.0)
                ∙ (ap (other_of a b) (once.is b under_b)
                ∙ (elim (cases_eq b a) [
                  | inl same ↦ cond-true (eqb b a) b _ (eq-eqb b a same) ∙ (same ∙ sym is)
                  | inr differ ↦
                      cond-false (eqb b a) b (cond (eqb b b) a b) (ne_eqb b a differ)
                      ∙ (cond-true (eqb b b) a b (eq-eqb b b refl) ∙ sym is)
                ])))
            | inr isnt ↦ elim (cases_eq p b) [
              | inl is ↦
                  ap (λ n. other_of a b (once.place (slice_index (swap order a b) n))) is
                  ∙ (ap (λ x. other_of a b (once.place x)) (swapped.1)
                  ∙ (ap (other_of a b) (once.is a under_a)
                  ∙ (cond-true (eqb a a) b _ (eq-eqb a a refl) ∙ sym is)))
              | inr neither ↦
                  ap (λ x. other_of a b (once.place x)) (swapped.2 p isnt neither)
                  ∙ (ap (other_of a b) (once.is p (omega (arith, under, (length-swap order a b))))
                  ∙ (cond-false (eqb p a) b (cond (eqb p b) a p) (ne_eqb p a isnt)
                  ∙ cond-false (eqb p b) a p (ne_eqb p b neither)))
            ]
          ];
    }

once_moved : (indexes order : List ℕ) → IsPermutation indexes order → AreIndexes indexes
    → IsOnce order
once_moved indexes order moved are =
    IsPermutation-keeps indexes IsOnce (record { place = λ x. x; is = are })
    (λ l a b under_a under_b once. once_swapped l a b under_a under_b once) order moved

pub order_sorted : (bytes indexes order : List ℕ) → length indexes ≡ length bytes / 24
    → length indexes < 2 ^ 64 → AreIndexes indexes → IsPermutation indexes order
    → IsNonDecreasingBy (place_of bytes) order → IsOrder bytes order
order_sorted bytes indexes order len short are moved rises =
    let once = once_moved indexes order moved are in
    let all = All-permutation (λ i. i < length indexes) indexes order moved
    (All-from_get_or (λ i. i < length indexes) indexes 0 (λ i under. let is = are i under in omega (arith, is, under))) in
    record {
      within = λ p under. let below = all p 0 under in omega (arith, below, len);
      all = λ i under.
          let found : Contains order i = Contains-permutation indexes order i moved
          (i, (omega (arith, under, len)), (get_or_default indexes i i 0 (omega (arith, under, len)) ∙ are i (omega (arith, under, len)))) in
          (found.0, found.1, get_or_default order (found.0) 0 i (found.1) ∙ found.2);
      ascends = λ p q below under.
          let i = slice_index order p in let j = slice_index order q in
          let first = all p 0 (omega (arith, below, under)) in let second = all q 0 under in
          before_of (offset_at bytes i) (offset_at bytes j) i j (omega (arith, first, short)) (omega (arith, second, short))
          (λ same. let p_is = once.is p (omega (arith, below, under)) in let q_is = once.is q under in let e = ap once.place same in omega (arith, p_is, q_is, e, below))
          (omega (arith, (rises p q 0 (omega (arith, below)) under), (place_below bytes i (omega (arith, first, len))), (place_below bytes j (omega (arith, second, len)))));
    }

-- ---- one more place

seen_more : (order : List ℕ) (count p i : ℕ) → slice_index order p ≡ i → i < count
    → OneMore (IsSeen order count p) (IsSeen order count (p + 1)) i
seen_more order count p i is under =
    record {
      before = λ j seen. elim (cases_eq (seen.1) p) [
        | inl at ↦ inr (sym (seen.3) ∙ (ap (slice_index order) at ∙ is))
        | inr isnt ↦ let below = seen.2 in inl (seen.0, seen.1, (omega (arith, below, isnt)), seen.3)
      ];
      kept = λ j seen. let below = seen.2 in (seen.0, seen.1, (omega (arith, below)), seen.3);
      now = (under, p, (omega arith), is);
    }

-- the index at a place is none below the count, or has no field
pub swept_without : (architecture : Architecture) (bytes section order : List ℕ)
    (count p index : ℕ) (last : Field)
    → (slice_index order p < count → (row : RowInfo)
    → IsField architecture bytes section (slice_index order p) row → ⊥)
    → AreSwept architecture bytes section order count p index last
    → AreSwept architecture bytes section order count (p + 1) index last
swept_without architecture bytes section order count p index last none swept =
    let kept : (i : ℕ) → IsSeen order count p i → IsSeen order count (p + 1) i =
    λ i seen. let below = seen.2 in (seen.0, seen.1, (omega (arith, below)), seen.3) in
    let without : HaveNone architecture bytes section (IsSeen order count p) (IsSeen order count (p + 1)) =
    λ i seen. elim (cases_eq (seen.1) p) [
      | inl at ↦
          let is : slice_index order p ≡ i = ap (slice_index order) (sym at) ∙ seen.3 in
          inr (λ row is_field. none (omega (arith, is, seen.0)) row (subst (λ x. IsField architecture bytes section x row) (sym is) is_field))
      | inr isnt ↦ let below = seen.2 in inl (seen.0, seen.1, (omega (arith, below, isnt)), seen.3)
    ] in
    record {
      apart = apart_without architecture bytes section (IsSeen order count p) (IsSeen order count (p + 1)) without swept.apart;
      claimed = claimed_without architecture bytes section (IsSeen order count p) (IsSeen order count (p + 1)) last without kept swept.claimed;
      is_last = λ some. let at = swept.is_last some in record { seen = kept index at.seen; row = at.row; field = at.field };
      ascending = λ q from under. swept.ascending q (omega (arith, from)) under;
    }

-- the field there is clear of the last
pub swept_clear : (architecture : Architecture) (bytes section order : List ℕ)
    (count p index : ℕ) (last field : Field) (row : RowInfo) → IsOrder bytes order
    → p < length order → slice_index order p < count
    → HasField architecture bytes section (slice_index order p) row field
    → is_clear_of field last ≡ true → AreSwept architecture bytes section order count p index last
    → AreSwept architecture bytes section order count (p + 1) (slice_index order p) field
swept_clear architecture bytes section order count p index last field row is_order there under h clear swept =
    let i = slice_index order p in
    let o = h.offset_is in let after = swept.ascending p (omega arith) there in
    let more = seen_more order count p i refl under in
    record {
      apart = apart_more architecture bytes section (IsSeen order count p) (IsSeen order count (p + 1)) last i row field more
          (λ j seen same. elim (is_order.ascends (seen.1) p (seen.2) there) [
            | inl less ↦ let e = ap (offset_at bytes) (seen.3) in absurd (omega (arith, less, e, same))
            | inr tie ↦ let e = seen.3 in let l = tie.1 in omega (arith, e, l)
          ])
          swept.apart swept.claimed h (omega (arith, o, after)) clear;
      claimed = claimed_more architecture bytes section (IsSeen order count p) (IsSeen order count (p + 1)) last i row field more swept.claimed h (omega (arith, o, after)) clear;
      is_last = λ some. record { seen = more.now; row = row; field = h };
      ascending = λ q from below. elim (is_order.ascends p q (omega (arith, from)) below) [
        | inl less ↦ omega (arith, less, o)
        | inr tie ↦ let e = tie.0 in omega (arith, e, o)
      ];
    }

-- a last field that isn't clear is some relocation's
pub last_is : (architecture : Architecture) (bytes section order : List ℕ)
    (count p index : ℕ) (last field : Field) → last.offset ≤ field.offset
    → is_clear_of field last ≡ false → AreSwept architecture bytes section order count p index last
    → IsLastAt architecture bytes section (IsSeen order count p) index last
last_is architecture bytes section order count p index last field after clear swept =
    swept.is_last (omega (arith, ((not_clear field last after clear).0), after))

-- the relocation there is the second of a pair whose first has the last field
pub swept_pair : (architecture : Architecture) (bytes section order : List ℕ)
    (count p index : ℕ) (last : Field) (other : RowInfo)
    → slice_index order p ≡ index + 1 → slice_index order p < count
    → BeginsPair architecture bytes index
    → IsField architecture bytes section (slice_index order p) other
    → IsLastAt architecture bytes section (IsSeen order count p) index last
    → AreSwept architecture bytes section order count p index last
    → AreSwept architecture bytes section order count (p + 1) index last
swept_pair architecture bytes section order count p index last other next under pair is_other at swept =
    let more = seen_more order count p (index + 1) next (omega (arith, next, under)) in
    let h = at.field in
    let here : IsField architecture bytes section (index + 1) other = subst (λ x. IsField architecture bytes section x other) next is_other in
    let begins = subst (λ x. begins_pair x.size x.kind ≡ true) (one_info architecture _ pair.row at.row pair.is_row h.is_field.is_row) pair.begins in
    let ends = subst (λ x. ends_pair x.size x.kind ≡ true) (one_info architecture _ pair.other other pair.is_other here.is_row) pair.ends in
    let place = same_place architecture bytes section index at.row other pair.same_offset (begun_has_value at.row.size at.row.kind begins) begins ends in
    record {
      apart = apart_pair architecture bytes section (IsSeen order count p) (IsSeen order count (p + 1)) index at.row other more at.seen swept.apart h.is_field begins here pair.same_offset place.end_is ends;
      claimed = claimed_pair architecture bytes section (IsSeen order count p) (IsSeen order count (p + 1)) index at.row other last more swept.claimed h begins pair.same_offset here place.end_is;
      is_last = λ some. record { seen = more.kept index at.seen; row = at.row; field = h };
      ascending = λ q from below. swept.ascending q (omega (arith, from)) below;
    }

-- a field that isn't clear of the last overlaps its
pub swept_overlapped : (architecture : Architecture) (bytes section order : List ℕ)
    (count p index : ℕ) (last field : Field) (row : RowInfo) → IsOrder bytes order
    → p < length order → slice_index order p < count
    → HasField architecture bytes section (slice_index order p) row field
    → last.offset ≤ field.offset → is_clear_of field last ≡ false
    → (slice_index order p ≡ index + 1 → BeginsPair architecture bytes index → ⊥)
    → IsLastAt architecture bytes section (IsSeen order count p) index last
    → IsOverlappedBelow architecture bytes section count
swept_overlapped architecture bytes section order count p index last field row is_order there under h after clear no_pair at =
    let i = slice_index order p in
    let seen = at.seen in
    let o = h.offset_is in let l = at.field.offset_is in let e = seen.3 in
    elim (cases_lt index i) [
      | inl below ↦
          (i, under, ordered_overlapped architecture bytes section index i at.row row last field below (is_order.within p there) at.field h after clear no_pair)
      | inr above ↦ elim (is_order.ascends (seen.1) p (seen.2) there) [
        | inl less ↦
            let offsets = ap (offset_at bytes) e in (
              index,
              seen.0,
              after_overlapped architecture bytes section i index row at.row field last
                  (elim (cases_eq i index) [
                    | inl same ↦ let s = ap (offset_at bytes) same in absurd (omega (arith, less, offsets, s))
                    | inr differ ↦ omega (arith, differ, above)
                  ]) h at.field (omega (arith, less, offsets, o, l)) clear,
            )
        | inr tie ↦ let t = tie.1 in absurd (omega (arith, t, e, above))
      ]
    ]

-- ---- all places

pub swept_all : (architecture : Architecture) (bytes section order : List ℕ)
    (count p index : ℕ) (last : Field) → IsOrder bytes order → count ≤ length bytes / 24
    → length order ≤ p → AreSwept architecture bytes section order count p index last
    → AreApart architecture bytes section count
swept_all architecture bytes section order count p index last is_order within all swept i j row other below under is_field is_other overlap =
    let one = is_order.all i (omega (arith, below, under, within)) in
    let two = is_order.all j (omega (arith, under, within)) in
    let one_there = one.1 in let two_there = two.1 in
    swept.apart i j row other
    (omega (arith, below, under), one.0, (omega (arith, one_there, all)), one.2)
    (under, two.0, (omega (arith, two_there, all)), two.2) below is_field is_other overlap
