-- What is known of a section after one more relocation.
use Rattle.linker_section.proofs.Imports.{Addresses, Architecture, AreApart, AreClaimed, AreWrittenBelow, Ascends, BeginsPair, BitMasking, Bool, ByteSize, Err, Field, HasField, HasNoValue, IfNone, IsAlone, IsCauseAt, IsField, IsFirstRejectedBy, IsInOrder, IsInside, IsLeftOut, IsLimit, IsOverlapped, IsPairWritten, IsRow, IsSavedAt, IsStep, IsStopped, IsWritten, List, None, Ok, Option, Overlaps, Reached, RelocationError, RelocationKind, Restores, Result, RowInfo, RowSize, SectionError, Some, Step, TooShort, Values, Write, and_parts, ap, arith, begins_pair, cases_Bool, cases_eq, clear_in, cond-false, cond-true, continues, drop, drop-drop, drop_all, ends_pair, eq-eqb, eqb, eqb-false, eqb-true, false, field_end, field_len, field_of_row, get_or-set_other, has_value, inl, inr, is_clear_of, is_of_pair, length, length-drop, mod-eq_of_lt, ne_eqb, never, next_field, not, not-false, not-true, of_number, of_pair, offset_at, or_cases, or_left, or_parts, or_right, refl, relocation_in, saved_place, set, slice_index, subst, sum_64, supported_size, sym, take, take-append-drop, takes_size, true, true≢false, uleb_len, window_len, with_word, ℕ, ℤ, ◌++◌, ◌+◌, ◌-◌, ◌/◌, ◌<◌, ◌^◌, ◌||◌, ◌∙◌, ◌≡◌, ◌≢◌, ◌≤◌, ◌⊎◌}
use Rattle.linker_elf.specs.declared.elf.RelocationKind.TheVariants as kinds
use Rattle.linker_section.proofs.Claims.{clear_cases, apart_more, claimed_more, overlapped, apart_pair, claimed_pair, apart_mark, claimed_mark, to_in, from_in, one_below, pair_below}
use Rattle.linker_section.proofs.Composing.{second_is_none, begun_is_continued_none, begun_ends_none, ended_begins_none, ended_has_value}
use Rattle.linker_section.proofs.Local.{IsLocal, one_local, pair_local, small_row}
use Rattle.linker_section.proofs.Saving.{undone, restores_more, restores_by, restores_local, restores_pair, plus_one}
use Rattle.linker_section.proofs.Rows.{one_info}
use Rattle.linker_section.proofs.Ulebs.{some_uleb, uleb_len_is, uleb_len_most}

-- ---- the length of a field

pub len_alone : (row : RowInfo) (bytes : List ℕ) → has_value row.kind ≡ true
    → is_of_pair row ≡ false → field_len row bytes ≡ window_len row
len_alone row bytes has alone =
    cond-true (has_value row.kind) _ 0 has
    ∙ cond-false (is_of_pair row) (uleb_len (take 10 bytes)) (window_len row) alone

pub len_paired : (row : RowInfo) (bytes : List ℕ) → has_value row.kind ≡ true
    → is_of_pair row ≡ true → field_len row bytes ≡ uleb_len (take 10 bytes)
len_paired row bytes has paired =
    cond-true (has_value row.kind) _ 0 has
    ∙ cond-true (is_of_pair row) (uleb_len (take 10 bytes)) (window_len row) paired

no_bytes : (bytes other : List ℕ) → uleb_len (take 10 bytes) ≡ 0 → length other ≡ length bytes
    → uleb_len (take 10 other) ≡ 0
no_bytes bytes other none same =
    elim (cases_eq (length other) 0) [
      | inl empty ↦
          ap (λ x. uleb_len (take 10 x)) (sym (take-append-drop 0 other) ∙ drop_all 0 other (omega (arith, empty)))
      | inr some ↦ absurd (let s = some_uleb bytes (omega (arith, some, same)) in omega (arith, s, none))
    ]

pair_continues_none : (row : RowInfo) (first : RelocationKind) → is_of_pair row ≡ true
    → continues first row.kind ≡ true → ⊥
pair_continues_none row first paired on =
    true≢false (sym paired ∙ second_is_none first row.kind row.size on)

-- ---- the field of a relocation, as it was before all writes

same_len : (architecture : Architecture) (bytes before now : List ℕ) (k : ℕ) (last : Field)
    (row : RowInfo) → Ascends architecture bytes before now k last
    → length now ≡ length before → has_value row.kind ≡ true → last.offset ≤ offset_at bytes k
    → clear_in None k (field_of_row row (offset_at bytes k) now) last ≡ true
    → field_len row (drop (offset_at bytes k) now) ≡ field_len row (drop (offset_at bytes k) before)
same_len architecture bytes before now k last row order same has after clear =
    let o = offset_at bytes k in
    let field = field_of_row row o now in
    let lengths : length (drop o before) ≡ length (drop o now) =
    length-drop o before ∙ (ap (λ n. n - o) (sym same) ∙ sym (length-drop o now)) in
    elim (cases_Bool (is_of_pair row)) [
      | inr alone ↦ len_alone row (drop o now) has alone ∙ sym (len_alone row (drop o before) has alone)
      | inl paired ↦
          elim (cases_eq field.len 0) [
            | inl none ↦
                none ∙ sym (len_paired row (drop o before) has paired
                ∙ no_bytes (drop o now) (drop o before) (sym (len_paired row (drop o now) has paired) ∙ none) lengths)
            | inr some ↦ elim (or_cases (eqb field.len 0) (is_clear_of field last) clear) [
              | inl is ↦ absurd (some (eqb-true field.len 0 is))
              | inr is ↦ elim (clear_cases field last after is) [
                | inl far ↦ ap (field_len row) (order.following o far)
                | inr joins ↦ absurd (pair_continues_none row last.kind paired joins.continues_is)
              ]
            ]
          ]
    ]

-- it has never field, or its field is clear of the last
pub data IsClearField (architecture : Architecture) (bytes before : List ℕ) (k : ℕ)
    (row : RowInfo) (field last : Field) : Type 0 where
  without : field.len ≡ 0
      → ((other : RowInfo) → IsField architecture bytes before k other → ⊥)
      → IsClearField architecture bytes before k row field last
  having : 0 < field.len → HasField architecture bytes before k row field
      → is_clear_of field last ≡ true → IsClearField architecture bytes before k row field last

pub clear_field : (architecture : Architecture) (bytes before now : List ℕ) (k : ℕ) (last : Field)
    (row : RowInfo) → Ascends architecture bytes before now k last
    → length now ≡ length before → IsRow architecture (relocation_in bytes k).r_type (Some row)
    → has_value row.kind ≡ true → last.offset ≤ offset_at bytes k
    → clear_in None k (field_of_row row (offset_at bytes k) now) last ≡ true
    → IsClearField architecture bytes before k row (field_of_row row (offset_at bytes k) now) last
clear_field architecture bytes before now k last row order same is_row has after clear =
    let o = offset_at bytes k in
    let field = field_of_row row o now in
    let len = same_len architecture bytes before now k last row order same has after clear in
    elim (cases_eq field.len 0) [
      | inl none ↦ without none (λ other is_field.
          omega (arith, is_field.some, (ap (λ x. field_len x (drop o before)) (one_info architecture _ row other is_row is_field.is_row)), len, none))
      | inr some ↦ elim (or_cases (eqb field.len 0) (is_clear_of field last) clear) [
        | inl is ↦ absurd (some (eqb-true field.len 0 is))
        | inr is ↦ having (omega (arith, some)) (record {
          is_field = record { is_row = is_row; some = omega (arith, some, len) };
          offset_is = refl;
          end_is = ap (λ n. o + n) (sym len);
          kind_is = refl;
          window_is = λ alone. sym (len_alone row (drop o now) has alone);
        }) is
      ]
    ]

-- a field has a value
pub field_valued : (architecture : Architecture) (bytes section : List ℕ) (k : ℕ)
    (row : RowInfo) → IsField architecture bytes section k row
    → has_value row.kind ≡ true
field_valued architecture bytes section k row is_field =
    elim (cases_Bool (has_value row.kind)) [
      | inl has ↦ has
      | inr none ↦
          let s = is_field.some in
          let e : field_len row (drop (offset_at bytes k) section) ≡ 0 = cond-false {A = ℕ} (has_value row.kind) _ 0 none in
          absurd (omega (arith, s, e))
    ]

-- one that isn't of a pair is as long in any section
pub alone_field : (architecture : Architecture) (bytes section other : List ℕ) (k : ℕ)
    (row : RowInfo) → is_of_pair row ≡ false → IsField architecture bytes section k row
    → IsField architecture bytes other k row
alone_field architecture bytes section other k row alone is_field =
    let has = field_valued architecture bytes section k row is_field in
    let o = offset_at bytes k in
    record { is_row = is_field.is_row; some = omega (arith, is_field.some, (len_alone row (drop o section) has alone), (len_alone row (drop o other) has alone)) }

pub next_some : (field last : Field) → 0 < field.len → next_field field last ≡ field
next_some field last some =
    cond-false (eqb field.len 0) last field (ne_eqb field.len 0 (λ e. omega (arith, e, some)))

-- ---- where relocations ascend

pub apart_after : (architecture : Architecture) (bytes before now : List ℕ) (k : ℕ)
    (last field : Field) (row : RowInfo) → Ascends architecture bytes before now k last
    → last.offset ≤ offset_at bytes k → offset_at bytes k ≡ field.offset
    → IsClearField architecture bytes before k row field last
    → AreApart architecture bytes before (k + 1)
apart_after architecture bytes before now k last field row order after offset clear =
    elim clear [
      | without len none ↦ apart_mark architecture bytes before k none order.apart
      | having some h is ↦
          from_in architecture bytes before (k + 1)
          (apart_more architecture bytes before (λ i. i < k) (λ i. i < k + 1) last k row field (one_below k)
          (λ i below same. omega (arith, below)) (to_in architecture bytes before k order.apart) order.claimed h
          (omega (arith, after, offset)) is)
    ]

claimed_after : (architecture : Architecture) (bytes before now : List ℕ) (k : ℕ)
    (last field : Field) (row : RowInfo) → Ascends architecture bytes before now k last
    → last.offset ≤ offset_at bytes k → offset_at bytes k ≡ field.offset
    → IsClearField architecture bytes before k row field last
    → AreClaimed architecture bytes before (λ i. i < k + 1) (next_field field last)
claimed_after architecture bytes before now k last field row order after offset clear =
    elim clear [
      | without len none ↦
          subst (AreClaimed architecture bytes before (λ i. i < k + 1)) (sym (cond-true (eqb field.len 0) last field (eq-eqb field.len 0 len)))
          (claimed_mark architecture bytes before k last none order.claimed)
      | having some h is ↦
          subst (AreClaimed architecture bytes before (λ i. i < k + 1)) (sym (cond-false (eqb field.len 0) last field (ne_eqb field.len 0 (λ e. omega (arith, e, some)))))
          (claimed_more architecture bytes before (λ i. i < k) (λ i. i < k + 1) last k row field (one_below k) order.claimed h
          (omega (arith, after, offset)) is)
    ]

-- the next field ends at or after the last
pub record IsAfter (field last next : Field) : Type 0 where
  pub end : last.offset + last.len ≤ next.offset + next.len
  pub own : field.offset + field.len ≤ next.offset + next.len ⊎ (field.len ≡ 0)
  pub is_one : (next ≡ last) ⊎ ((next ≡ field) × (0 < field.len))

next_is : (architecture : Architecture) (bytes before : List ℕ) (k : ℕ) (last field : Field)
    (row : RowInfo) → last.offset ≤ field.offset
    → IsClearField architecture bytes before k row field last
    → IsAfter field last (next_field field last)
next_is architecture bytes before k last field row after clear =
    elim clear [
      | without len none ↦
          subst (IsAfter field last) (sym (cond-true (eqb field.len 0) last field (eq-eqb field.len 0 len)))
          (record { end = omega arith; own = inr len; is_one = inl refl })
      | having some h is ↦
          subst (IsAfter field last) (sym (cond-false (eqb field.len 0) last field (ne_eqb field.len 0 (λ e. omega (arith, e, some)))))
          (record {
            end = elim (clear_cases field last after is) [
              | inl far ↦ omega (arith, far)
              | inr joins ↦ let o = joins.offset_is in let l = joins.len_is in omega (arith, o, l)
            ];
            own = inl (omega arith);
            is_one = inr (refl, some);
          })
    ]

or_first : (x : Bool) → x ≡ false → (x || false) ≡ false
or_first x is = ap (λ y. y || false) is

-- a row of a pair is written with the other only
bytes_alone : (size : RowSize) (kind : RelocationKind) → takes_size kind size ≡ true
    → (begins_pair size kind || ends_pair size kind) ≡ false
bytes_alone (ByteSize n) kinds.Relative supported_size =
    or_first (eqb n 0) (not-true (eqb n 0) (and_parts _ (not (eqb n 0)) supported_size).1)
bytes_alone (ByteSize n) kinds.PairSubtractionULEB128RiscV supported_size = never ((and_parts _ false supported_size).1)
bytes_alone (ByteSize n) kinds.PairSubtractionULEB128LoongArch supported_size = never ((and_parts _ false supported_size).1)
bytes_alone (ByteSize n) _ supported_size = refl
bytes_alone (BitMasking bits insn) _ supported_size = refl

pub written_alone : (row : RowInfo) (v : ℤ) (offset : ℕ) (before after : List ℕ)
    → IsWritten row v offset before after → is_of_pair row ≡ false
written_alone row v offset before after written =
    bytes_alone row.size row.kind (supported_size row written.written.accepted.supported)

-- ---- bytes after a write

plus_none : (o w : ℕ) → w ≡ 0 → o + w ≡ o
plus_none o w none = omega (arith, none)

pub unchanged : (o w : ℕ) (now after : List ℕ) → IsLocal o w now after → w ≡ 0 → after ≡ now
unchanged o w now after local none =
    sym (take-append-drop o after)
    ∙ (ap (λ x. x ++ drop o after) local.kept
    ∙ (ap (λ x. take o now ++ x) (ap (λ n. drop n after) (sym (plus_none o w none)) ∙ (local.following ∙ ap (λ n. drop n now) (plus_none o w none)))
    ∙ take-append-drop o now))

pub split : (o w offset : ℕ) → o + w ≤ offset → offset ≡ o + w + (offset - (o + w))
split o w offset following = omega (arith, following)

pub drop_after : (o w offset : ℕ) (now after : List ℕ) → IsLocal o w now after
    → o + w ≤ offset ⊎ (w ≡ 0) → drop offset after ≡ drop offset now
drop_after o w offset now after local window =
    elim window [
      | inl following ↦
          ap (λ n. drop n after) (split o w offset following)
          ∙ (sym (drop-drop (offset - (o + w)) (o + w) after)
          ∙ (ap (drop (offset - (o + w))) local.following
          ∙ (drop-drop (offset - (o + w)) (o + w) now ∙ ap (λ n. drop n now) (sym (split o w offset following)))))
      | inr none ↦ ap (drop offset) (unchanged o w now after local none)
    ]

-- ---- one more relocation

-- of no pair, after which the bytes outside of its field are those before
pub ascends_next : (architecture : Architecture) (bytes before now after : List ℕ) (k : ℕ)
    (last : Field) (row : RowInfo) → Ascends architecture bytes before now k last
    → last.offset ≤ offset_at bytes k → length now ≡ length before
    → IsRow architecture (relocation_in bytes k).r_type (Some row) → has_value row.kind ≡ true
    → is_of_pair row ≡ false → offset_at bytes k + window_len row ≤ length now
    → ((offset : ℕ) → offset_at bytes k + window_len row ≤ offset ⊎ (window_len row ≡ 0)
    → drop offset after ≡ drop offset now)
    → clear_in None k (field_of_row row (offset_at bytes k) now) last ≡ true
    → Ascends architecture bytes before after (k + 1) (next_field (field_of_row row (offset_at bytes k) now) last)
ascends_next architecture bytes before now after k last row order below same is_row has alone inside kept clear =
    let o = offset_at bytes k in
    let field = field_of_row row o now in
    let is = clear_field architecture bytes before now k last row order same is_row has below clear in
    let len : field.len ≡ window_len row = len_alone row (drop o now) has alone in
    let following = next_is architecture bytes before k last field row below is in
    record {
      apart = apart_after architecture bytes before now k last field row order below refl is;
      claimed = claimed_after architecture bytes before now k last field row order below refl is;
      no_pair = λ i other here is_other.
          let at : i ≡ k = omega (arith, here) in
          let one : row ≡ other = one_info architecture _ row other is_row (subst (λ x. IsRow architecture (relocation_in bytes x).r_type (Some other)) at is_other) in
          subst (λ x. begins_pair x.size x.kind ≡ false) one (or_parts (begins_pair row.size row.kind) (ends_pair row.size row.kind) alone).0;
      inside = λ some. elim following.is_one [
        | inl is_last ↦ let a = order.inside (let l = ap (λ f. f.len) is_last in omega (arith, some, l)) in
            let e = ap (λ f. f.offset) is_last in let l = ap (λ f. f.len) is_last in omega (arith, a, e, l)
        | inr is_field ↦ let e = ap (λ f. f.offset) (is_field.0) in let l = ap (λ f. f.len) (is_field.0) in omega (arith, inside, len, e, l, same)
      ];
      following = λ offset from.
          let window : o + window_len row ≤ offset ⊎ (window_len row ≡ 0) = elim following.own [
            | inl own ↦ inl (omega (arith, own, from, len))
            | inr none ↦ inr (sym len ∙ none)
          ] in
          kept offset window ∙ order.following offset (omega (arith, following.end, from));
    }

-- ---- a relocation without a value

pub no_field : (architecture : Architecture) (bytes before : List ℕ) (k : ℕ)
    (row : RowInfo) → HasNoValue architecture bytes k
    → IsField architecture bytes before k row → ⊥
no_field architecture bytes before k row none is_field =
    let s = is_field.some in
    let has = none row is_field.is_row in
    let e : field_len row (drop (offset_at bytes k) before) ≡ 0 = cond-false {A = ℕ} (has_value row.kind) _ 0 has in
    omega (arith, s, e)

ascends_mark : (architecture : Architecture) (bytes before now : List ℕ) (k : ℕ) (last : Field)
    → Ascends architecture bytes before now k last → IsAlone architecture bytes k
    → ((row : RowInfo) → IsField architecture bytes before k row → ⊥)
    → Ascends architecture bytes before now (k + 1) last
ascends_mark architecture bytes before now k last order alone none =
    record {
      apart = apart_mark architecture bytes before k none order.apart;
      claimed = claimed_mark architecture bytes before k last none order.claimed;
      no_pair = λ i row here is_row.
          let at : i ≡ k = omega (arith, here) in
          (or_parts (begins_pair row.size row.kind) (ends_pair row.size row.kind) (alone row (subst (λ x. IsRow architecture (relocation_in bytes x).r_type (Some row)) at is_row))).0;
      inside = order.inside;
      following = order.following;
    }

-- ---- in either order

pub first_order : (limit : Option ℕ) (architecture : Architecture) (bytes before : List ℕ)
    → IsInOrder limit architecture bytes before before 0 (record { offset = 0; len = 0; kind = kinds.None })
first_order None architecture bytes before =
    record {
      apart = λ i j row other below under. absurd (omega (arith, under));
      claimed = record {
        is_last = λ some. absurd (omega (arith, some));
        others = λ i row seen. absurd (omega (arith, seen));
      };
      no_pair = λ i row here. absurd (omega (arith, here));
      inside = λ some. absurd (omega (arith, some));
      following = λ offset from. refl;
    }
first_order (Some limit) architecture bytes before = omega arith

pub mark_order : (limit : Option ℕ) (architecture : Architecture) (bytes before now : List ℕ)
    (k : ℕ) (last : Field) → IsLimit architecture bytes before limit
    → IsInOrder limit architecture bytes before now k last → k < length bytes / 24
    → IsAlone architecture bytes k
    → ((row : RowInfo) → IsField architecture bytes before k row → ⊥)
    → IsInOrder limit architecture bytes before now (k + 1) last
mark_order None architecture bytes before now k last is_limit order there alone none =
    ascends_mark architecture bytes before now k last order alone none
mark_order (Some limit) architecture bytes before now k last is_limit order there alone none =
    elim (cases_eq k limit) [
      | inl same ↦
          let at = is_limit.1 (omega (arith, same, there)) in
          absurd (none at.other (subst (λ x. IsField architecture bytes before x at.other) (sym same) at.is_other))
      | inr isnt ↦ omega (arith, order, isnt)
    ]

fewer_apart : (architecture : Architecture) (bytes before : List ℕ) (k n : ℕ) → k ≤ n
    → AreApart architecture bytes before n → AreApart architecture bytes before k
fewer_apart architecture bytes before k n most apart i j row other below under =
    apart i j row other below (omega (arith, under, most))

pub apart_now : (limit : Option ℕ) (architecture : Architecture) (bytes before now : List ℕ)
    (k : ℕ) (last : Field) → IsLimit architecture bytes before limit
    → IsInOrder limit architecture bytes before now k last → AreApart architecture bytes before k
apart_now None architecture bytes before now k last is_limit order = order.apart
apart_now (Some limit) architecture bytes before now k last is_limit order =
    fewer_apart architecture bytes before k limit order (is_limit.0)

not_limit : (k limit : ℕ) → not (eqb k limit) ≡ true → k ≡ limit → ⊥
not_limit k limit clear = eqb-false k limit (not-true (eqb k limit) clear)

pub apart_next : (limit : Option ℕ) (architecture : Architecture) (bytes before now : List ℕ)
    (k : ℕ) (last : Field) (row : RowInfo) → IsLimit architecture bytes before limit
    → IsInOrder limit architecture bytes before now k last → k < length bytes / 24
    → IfNone limit (last.offset ≤ offset_at bytes k)
    → length now ≡ length before → IsRow architecture (relocation_in bytes k).r_type (Some row)
    → has_value row.kind ≡ true
    → clear_in limit k (field_of_row row (offset_at bytes k) now) last ≡ true
    → AreApart architecture bytes before (k + 1)
apart_next None architecture bytes before now k last row is_limit order there below same is_row has clear =
    apart_after architecture bytes before now k last (field_of_row row (offset_at bytes k) now) row order below refl
    (clear_field architecture bytes before now k last row order same is_row has below clear)
apart_next (Some limit) architecture bytes before now k last row is_limit order there below same is_row has clear =
    fewer_apart architecture bytes before (k + 1) limit (omega (arith, order, (not_limit k limit clear))) (is_limit.0)

-- of no pair, after which the bytes outside of its field are those before
pub next_order : (limit : Option ℕ) (architecture : Architecture) (bytes before now after : List ℕ)
    (k : ℕ) (last : Field) (row : RowInfo) → IsLimit architecture bytes before limit
    → IsInOrder limit architecture bytes before now k last → k < length bytes / 24
    → IfNone limit (last.offset ≤ offset_at bytes k)
    → length now ≡ length before → IsRow architecture (relocation_in bytes k).r_type (Some row)
    → has_value row.kind ≡ true → is_of_pair row ≡ false
    → offset_at bytes k + window_len row ≤ length now
    → ((offset : ℕ) → offset_at bytes k + window_len row ≤ offset ⊎ (window_len row ≡ 0)
    → drop offset after ≡ drop offset now)
    → clear_in limit k (field_of_row row (offset_at bytes k) now) last ≡ true
    → IsInOrder limit architecture bytes before after (k + 1) (next_field (field_of_row row (offset_at bytes k) now) last)
next_order None architecture bytes before now after k last row is_limit order there below same is_row has alone inside kept clear =
    ascends_next architecture bytes before now after k last row order below same is_row has alone inside kept clear
next_order (Some limit) architecture bytes before now after k last row is_limit order there below same is_row has alone inside kept clear =
    let isnt = not_limit k limit clear in omega (arith, order, isnt)

pub one_order : (limit : Option ℕ) (architecture : Architecture) (bytes before now after : List ℕ)
    (k : ℕ) (last : Field) (row : RowInfo) (v : ℤ)
    → IsLimit architecture bytes before limit
    → IsInOrder limit architecture bytes before now k last → k < length bytes / 24
    → IfNone limit (last.offset ≤ offset_at bytes k)
    → length now ≡ length before → IsRow architecture (relocation_in bytes k).r_type (Some row)
    → has_value row.kind ≡ true
    → clear_in limit k (field_of_row row (offset_at bytes k) now) last ≡ true
    → IsWritten row v (offset_at bytes k) now after
    → IsInOrder limit architecture bytes before after (k + 1) (next_field (field_of_row row (offset_at bytes k) now) last)
one_order limit architecture bytes before now after k last row v is_limit order there below same is_row has clear written =
    let o = offset_at bytes k in
    let local = one_local row v o now after written in
    next_order limit architecture bytes before now after k last row is_limit order there below same is_row has
    (written_alone row v o now after written) local.inside (λ offset window. drop_after o (window_len row) offset now after local window) clear

-- the field isn't clear
some_before : (architecture : Architecture) (bytes before now : List ℕ) (k : ℕ)
    (row : RowInfo) → length now ≡ length before → has_value row.kind ≡ true
    → field_len row (drop (offset_at bytes k) now) ≢ 0
    → 0 < field_len row (drop (offset_at bytes k) before)
some_before architecture bytes before now k row same has some =
    let o = offset_at bytes k in
    elim (cases_Bool (is_of_pair row)) [
      | inr alone ↦
          let a = len_alone row (drop o now) has alone in let b = len_alone row (drop o before) has alone in
          omega (arith, some, a, b)
      | inl paired ↦
          let a = len_paired row (drop o now) has paired in let b = len_paired row (drop o before) has paired in
          elim (cases_eq (uleb_len (take 10 (drop o before))) 0) [
            | inl none ↦ absurd (some (a ∙ no_bytes (drop o before) (drop o now) none
                (length-drop o now ∙ (ap (λ n. n - o) same ∙ sym (length-drop o before)))))
            | inr is ↦ omega (arith, b, is)
          ]
    ]

pub overlap_now : (limit : Option ℕ) (architecture : Architecture) (bytes before now : List ℕ)
    (k : ℕ) (last : Field) (row : RowInfo) → IsLimit architecture bytes before limit
    → IsInOrder limit architecture bytes before now k last → k < length bytes / 24
    → IfNone limit (last.offset ≤ offset_at bytes k)
    → length now ≡ length before → IsRow architecture (relocation_in bytes k).r_type (Some row)
    → has_value row.kind ≡ true
    → clear_in limit k (field_of_row row (offset_at bytes k) now) last ≡ false
    → IsOverlapped architecture bytes before k
overlap_now None architecture bytes before now k last row is_limit order there below same is_row has clear =
    let o = offset_at bytes k in
    let field = field_of_row row o now in
    let parts = or_parts (eqb field.len 0) (is_clear_of field last) clear in
    let is_field : IsField architecture bytes before k row =
    record { is_row = is_row; some = some_before architecture bytes before now k row same has (eqb-false field.len 0 (parts.0)) } in
    let found = overlapped architecture bytes before (λ i. i < k) last k row field order.claimed is_field refl refl
    (λ alone. sym (len_alone row (drop o now) has alone)) below (parts.1) in
    let at = found.0 in
    record {
      earlier = at.index;
      order = at.seen;
      row = at.row;
      is_field = at.is_field;
      other = row;
      is_other = is_field;
      overlap = found.1;
      apart = found.2 (λ begins next ends. true≢false (sym begins ∙ order.no_pair at.index at.row next at.is_field.is_row));
    }
overlap_now (Some limit) architecture bytes before now k last row is_limit order there below same is_row has clear =
    let is = eqb-true k limit (not-false (eqb k limit) clear) in
    subst (IsOverlapped architecture bytes before) (sym is) (is_limit.1 (omega (arith, is, there)))

-- ---- bytes put back

place_alone : (row : Option RowInfo) (offset : ℕ)
    → ((other : RowInfo) → row ≡ Some other → is_of_pair other ≡ false)
    → saved_place row offset ≡ offset
place_alone None offset alone = refl
place_alone (Some row) offset alone =
    cond-false (ends_pair row.size row.kind) (sum_64 offset 8) offset
    (or_parts (begins_pair row.size row.kind) (ends_pair row.size row.kind) (alone row refl)).1

-- nothing is written
pub mark_restores : (architecture : Architecture) (bytes memory before now : List ℕ) (k word : ℕ)
    (row : Option RowInfo) → k < length memory
    → IsRow architecture (relocation_in bytes k).r_type row → IsAlone architecture bytes k
    → IsSavedAt (offset_at bytes k) now word → Restores architecture bytes memory k now before
    → Restores architecture bytes (set memory k word) (k + 1) now before
mark_restores architecture bytes memory before now k word row room is_row alone saved restores =
    let o = offset_at bytes k in
    subst (λ n. Restores architecture bytes (set memory k word) n now before) (plus_one k)
    (restores_more architecture bytes memory k word now now before row room is_row
    (ap (λ p. with_word p word now)
    (place_alone row o (λ other is. alone other (subst (λ x. IsRow architecture (relocation_in bytes k).r_type x) is is_row)))
    ∙ undone o word now now refl refl refl saved) restores)

pub one_restores : (architecture : Architecture) (bytes memory before now after : List ℕ)
    (k word : ℕ) (row : RowInfo) (v : ℤ) → k < length memory
    → IsRow architecture (relocation_in bytes k).r_type (Some row)
    → IsWritten row v (offset_at bytes k) now after → IsSavedAt (offset_at bytes k) now word
    → Restores architecture bytes memory k now before
    → Restores architecture bytes (set memory k word) (k + 1) after before
one_restores architecture bytes memory before now after k word row v room is_row written saved restores =
    let o = offset_at bytes k in
    let local = one_local row v o now after written in
    restores_local architecture bytes memory k word now after before row room is_row
    (or_parts (begins_pair row.size row.kind) (ends_pair row.size row.kind) (written_alone row v o now after written)).1
    local.kept (drop_after o (window_len row) (o + 8) now after local (inl (omega (arith, (small_row row v (drop o now) written.rest written.written))))) local.same_length saved restores

-- what is kept of relocations below an index stays
pub stop : (architecture : Architecture) (addresses : Addresses) (bytes before now memory other : List ℕ)
    (values : Values) (k : ℕ) (error : SectionError) → k ≤ length bytes / 24
    → ((i : ℕ) → i < k → slice_index other i ≡ slice_index memory i)
    → Restores architecture bytes memory k now before
    → IsFirstRejectedBy architecture addresses bytes values before error
    → IsStopped architecture addresses bytes values before now other (record { count = k; error = error })
stop architecture addresses bytes before now memory other values k error within same restores rejected =
    record {
      within = within;
      restores = restores_by architecture bytes memory other k now before same restores;
      rejected = rejected;
    }

pub set_above : (memory : List ℕ) (k n word : ℕ) → k ≤ n
    → (i : ℕ) → i < k → slice_index (set memory n word) i ≡ slice_index memory i
set_above memory k n word most i below =
    get_or-set_other memory n i word 0 (λ same. omega (arith, same, below, most))

-- the value at the index can't be written, and the word there is kept
pub stop_at : (limit : Option ℕ) (architecture : Architecture) (addresses : Addresses)
    (bytes before now memory : List ℕ) (values : Values) (k word : ℕ) (last : Field)
    (error : RelocationError)
    → Reached architecture addresses bytes values limit before now memory k last
    → k < length bytes / 24 → IsCauseAt architecture addresses bytes values before k now error
    → IsStopped architecture addresses bytes values before now (set memory k word)
    (record { count = k; error = record { index = k; error = error } })
stop_at limit architecture addresses bytes before now memory values k word last error reached there cause =
    stop architecture addresses bytes before now memory (set memory k word) values k (record { index = k; error = error })
    reached.below.within (set_above memory k k word (omega arith)) reached.below.restores
    (record {
      within = there;
      apart = apart_now limit architecture bytes before now k last reached.is_limit reached.order;
      written = k;
      is_next = inl refl;
      now = now;
      relocated = reached.below.relocated;
      cause = cause;
    })

-- ---- a pair

-- the second's field is the first's
pub record SamePlace (architecture : Architecture) (bytes before : List ℕ) (k : ℕ)
    (row other : RowInfo) : Type 0 where
  pub len_is : field_len other (drop (offset_at bytes (k + 1)) before)
      ≡ field_len row (drop (offset_at bytes k) before)
  pub end_is : field_end bytes before (k + 1) other ≡ field_end bytes before k row

pub same_place : (architecture : Architecture) (bytes before : List ℕ) (k : ℕ)
    (row other : RowInfo) → offset_at bytes (k + 1) ≡ offset_at bytes k
    → has_value row.kind ≡ true → begins_pair row.size row.kind ≡ true
    → ends_pair other.size other.kind ≡ true
    → SamePlace architecture bytes before k row other
same_place architecture bytes before k row other same has begins ends =
    let o = offset_at bytes k in
    let len : field_len other (drop (offset_at bytes (k + 1)) before) ≡ field_len row (drop o before) =
    ap (λ x. field_len other (drop x before)) same
    ∙ (len_paired other (drop o before) (ended_has_value other.size other.kind ends)
    (or_right (begins_pair other.size other.kind) (ends_pair other.size other.kind) ends)
    ∙ sym (len_paired row (drop o before) has (or_left (begins_pair row.size row.kind) (ends_pair row.size row.kind) begins))) in
    record { len_is = len; end_is = omega (arith, len, same) }

ascends_pair : (architecture : Architecture) (addresses : Addresses) (bytes before now after : List ℕ)
    (values : Values) (k : ℕ) (last : Field) (row : RowInfo)
    → Ascends architecture bytes before now k last
    → last.offset ≤ offset_at bytes k → length now ≡ length before
    → IsRow architecture (relocation_in bytes k).r_type (Some row) → has_value row.kind ≡ true
    → clear_in None k (field_of_row row (offset_at bytes k) now) last ≡ true
    → (pair : BeginsPair architecture bytes k)
    → IsPairWritten architecture addresses bytes values k now after
    → Ascends architecture bytes before after (k + 2) (next_field (field_of_row row (offset_at bytes k) now) last)
ascends_pair architecture addresses bytes before now after values k last row order below same is_row has clear pair written =
    let o = offset_at bytes k in
    let field = field_of_row row o now in
    let begins = subst (λ x. begins_pair x.size x.kind ≡ true) (one_info architecture _ pair.row row pair.is_row is_row) pair.begins in
    let local = pair_local architecture addresses bytes values k now after written in
    let len : field.len ≡ uleb_len (take 10 (drop o now)) = len_paired row (drop o now) has (or_left (begins_pair row.size row.kind) (ends_pair row.size row.kind) begins) in
    elim (clear_field architecture bytes before now k last row order same is_row has below clear) [
      | without none not_one ↦ absurd (omega (arith, none, len, (uleb_len_is (drop o now) written.written.old written.written.rest written.written.was)))
      | having some h clear ↦
          let place = same_place architecture bytes before k row pair.other pair.same_offset has begins pair.ends in
          let second : IsField architecture bytes before (k + 1) pair.other =
          let l = place.len_is in record { is_row = pair.is_other; some = omega (arith, h.is_field.some, l) } in
          let apart = apart_more architecture bytes before (λ i. i < k) (λ i. i < k + 1) last k row field (one_below k)
          (λ i below same. omega (arith, below)) (to_in architecture bytes before k order.apart) order.claimed h below clear in
          let claimed = claimed_more architecture bytes before (λ i. i < k) (λ i. i < k + 1) last k row field (one_below k) order.claimed h below clear in
          subst (Ascends architecture bytes before after (k + 2)) (sym (cond-false (eqb field.len 0) last field (ne_eqb field.len 0 (λ e. omega (arith, e, some)))))
          (record {
            apart = from_in architecture bytes before (k + 2)
                (apart_pair architecture bytes before (λ i. i < k + 1) (λ i. i < k + 2) k row pair.other (pair_below k) (omega arith) apart h.is_field begins second pair.same_offset place.end_is pair.ends);
            claimed = claimed_pair architecture bytes before (λ i. i < k + 1) (λ i. i < k + 2) k row pair.other field (pair_below k) claimed h begins pair.same_offset second place.end_is;
            no_pair = λ i other here is_other.
                let at : i ≡ k + 1 = omega (arith, here) in
                let one : pair.other ≡ other = one_info architecture _ pair.other other pair.is_other (subst (λ x. IsRow architecture (relocation_in bytes x).r_type (Some other)) at is_other) in
                subst (λ x. begins_pair x.size x.kind ≡ false) one (ended_begins_none pair.other.size pair.other.kind pair.ends);
            inside = λ some. omega (arith, local.inside, len, same);
            following = λ offset from. drop_after o (uleb_len (take 10 (drop o now))) offset now after local (inl (omega (arith, from, len)))
                ∙ order.following offset (elim (clear_cases field last below clear) [
                  | inl far ↦ omega (arith, far, from)
                  | inr joins ↦ let j = joins.offset_is in let l = joins.len_is in omega (arith, j, l, from)
                ]);
          })
    ]

-- the second isn't the first that overlaps, since its field is the first's
limit_pair : (architecture : Architecture) (bytes before : List ℕ) (k : ℕ)
    (row : RowInfo) → IsRow architecture (relocation_in bytes k).r_type (Some row)
    → has_value row.kind ≡ true → AreApart architecture bytes before (k + 1)
    → BeginsPair architecture bytes k → IsOverlapped architecture bytes before (k + 1) → ⊥
limit_pair architecture bytes before k row is_row has apart pair at =
    let begins = subst (λ x. begins_pair x.size x.kind ≡ true) (one_info architecture _ pair.row row pair.is_row is_row) pair.begins in
    let ends = subst (λ x. ends_pair x.size x.kind ≡ true) (one_info architecture _ pair.other at.other pair.is_other at.is_other.is_row) pair.ends in
    let place = same_place architecture bytes before k row at.other pair.same_offset has begins ends in
    let l = place.len_is in let e = place.end_is in let s = pair.same_offset in
    let overlap_0 = at.overlap.0 in let overlap_1 = at.overlap.1 in
    let first : IsField architecture bytes before k row = record { is_row = is_row; some = omega (arith, at.is_other.some, l) } in
    elim (cases_eq at.earlier k) [
      | inl is ↦
          let one : row ≡ at.row = one_info architecture _ row at.row is_row (subst (λ x. IsField architecture bytes before x at.row) is at.is_field).is_row in
          at.apart (of_pair (ap (offset_at bytes) is ∙ sym pair.same_offset) (ap (λ x. x + 1) (sym is))
          (subst (λ x. begins_pair x.size x.kind ≡ true) one begins) ends)
      | inr isnt ↦ elim (apart at.earlier k at.row row (omega (arith, at.order, isnt)) (omega arith) at.is_field first
          ((omega (arith, overlap_0, e)), (omega (arith, overlap_1, s)))) [
            | of_number offset window on ↦ true≢false (sym on ∙ begun_is_continued_none row.size row.kind at.row.kind begins)
            | of_pair offset after begun ended ↦ true≢false (sym ended ∙ begun_ends_none row.size row.kind begins)
          ]
    ]

pub pair_order : (limit : Option ℕ) (architecture : Architecture) (addresses : Addresses)
    (bytes before now after : List ℕ) (values : Values) (k : ℕ) (last : Field)
    (row : RowInfo) → IsLimit architecture bytes before limit
    → IsInOrder limit architecture bytes before now k last → k < length bytes / 24
    → IfNone limit (last.offset ≤ offset_at bytes k)
    → length now ≡ length before → IsRow architecture (relocation_in bytes k).r_type (Some row)
    → has_value row.kind ≡ true
    → clear_in limit k (field_of_row row (offset_at bytes k) now) last ≡ true
    → BeginsPair architecture bytes k
    → IsPairWritten architecture addresses bytes values k now after
    → IsInOrder limit architecture bytes before after (k + 2) (next_field (field_of_row row (offset_at bytes k) now) last)
pair_order None architecture addresses bytes before now after values k last row is_limit order there below same is_row has clear pair written =
    ascends_pair architecture addresses bytes before now after values k last row order below same is_row has clear pair written
pair_order (Some limit) architecture addresses bytes before now after values k last row is_limit order there below same is_row has clear pair written =
    elim (cases_eq limit (k + 1)) [
      | inl is ↦
          absurd (limit_pair architecture bytes before k row is_row has (subst (AreApart architecture bytes before) is (is_limit.0)) pair
          (subst (IsOverlapped architecture bytes before) is (is_limit.1 (omega (arith, is, pair.within)))))
      | inr far ↦ omega (arith, order, (not_limit k limit clear), far)
    ]

pub pair_restores : (architecture : Architecture) (addresses : Addresses)
    (bytes memory before now after : List ℕ) (values : Values) (k word next : ℕ)
    (row : RowInfo) → k + 1 < length memory → length now < 2 ^ 63
    → IsRow architecture (relocation_in bytes k).r_type (Some row)
    → BeginsPair architecture bytes k
    → IsPairWritten architecture addresses bytes values k now after
    → IsSavedAt (offset_at bytes k) now word → IsSavedAt (sum_64 (offset_at bytes k) 8) now next
    → Restores architecture bytes memory k now before
    → Restores architecture bytes (set (set memory k word) (k + 1) next) (k + 2) after before
pair_restores architecture addresses bytes memory before now after values k word next row room short is_row pair written saved saved_next restores =
    let o = offset_at bytes k in
    let small : sum_64 o 8 ≡ o + 8 = mod-eq_of_lt (omega (arith, written.inside, short)) in
    let begins = subst (λ x. begins_pair x.size x.kind ≡ true) (one_info architecture _ pair.row row pair.is_row is_row) pair.begins in
    let local = pair_local architecture addresses bytes values k now after written in
    restores_pair architecture bytes memory k word next now after before row pair.other room is_row
    (begun_ends_none row.size row.kind begins) pair.is_other pair.ends pair.same_offset small local.kept
    (drop_after o (uleb_len (take 10 (drop o now))) (o + 16) now after local (inl (omega (arith, (uleb_len_most 10 (drop o now))))))
    local.same_length saved (subst (λ p. IsSavedAt p now next) small saved_next) restores

-- ---- a relocation that is left out

pub left_step : (limit : Option ℕ) (architecture : Architecture) (addresses : Addresses)
    (bytes before now memory : List ℕ) (values : Values) (k word : ℕ) (last : Field)
    (result : Result Step SectionError)
    → Reached architecture addresses bytes values limit before now memory k last
    → values architecture addresses bytes k (Ok None)
    → (IsInside architecture bytes before k → AreWrittenBelow architecture addresses bytes values before now (set memory k word) (k + 1))
    → k < length bytes / 24 → IsLeftOut architecture bytes before now limit k result
    → IsStep architecture addresses bytes values limit before k now (set memory k word) result
left_step limit architecture addresses bytes before now memory values k word last (Ok step) reached none below there left = (
  (let next = left.0 in omega (arith, next)),
  record {
    is_limit = reached.is_limit;
    below = subst (AreWrittenBelow architecture addresses bytes values before now (set memory k word)) (sym (left.0)) (below (left.2));
    order = subst (λ i. IsInOrder limit architecture bytes before now i step.last) (sym (left.0)) (left.1);
  },
)
left_step limit architecture addresses bytes before now memory values k word last (Err error) reached none below there left =
    let stopped : SectionError → Type 0 = λ why. IsStopped architecture addresses bytes values before now (set memory k word) (record { count = k; error = why }) in
    elim left [
      | inl overlaps ↦ subst stopped (sym (overlaps.0))
          (stop_at limit architecture addresses bytes before now memory values k word last Overlaps reached there (overlaps.1))
      | inr past ↦ subst stopped (sym (past.0))
          (stop_at limit architecture addresses bytes before now memory values k word last (Write TooShort) reached there (
            past.1,
            inr (record { is_error = refl; row = past.2; is_field = past.3; no_value = none; past = past.4 }),
          ))
    ]
