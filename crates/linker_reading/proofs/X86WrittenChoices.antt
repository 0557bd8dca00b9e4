-- A write of whole bytes leaves all others, and what it leaves is what is recognised.
use Rattle.linker_reading.proofs.Imports.{AbsoluteAdditionWord6, AbsoluteSetWord6, AbsoluteSubtractionWord6, AreSameBut, AreSameButFor, BitMasking, Bool, ByteSize, DifferOnlyInFields, FieldBits, IsSameBut, IsWritten, List, None, Option, RelocationKind, RowInfo, RowSize, Some, and_from, and_parts, ap, arith, bit_at, both_ways, cases_lt, drop, false, false≢true, get_or, get_or-append_right, get_or-drop, get_or-take, get_or_append_left, if◌then◌else◌, is_field_bit, is_in_one, is_in_row, is_size_bit, is_value_bit, kept_index, le-leb, le-ltb, length, length-append, length-drop, length-take-le, low_bytes, lt-ltb, ltb-true, nat_le, nat_lt, number_of_bytes, number_written, offset_after, or_parts, refl, rewritten, size_len, slice_index, subst, sym, take, takes_size, to_le_bytes, true, w64, ℕ, ⊎_elim, ◌&&◌, ◌*◌, ◌++◌, ◌+◌, ◌-◌, ◌<◌, ◌^◌, ◌∙◌, ◌≡◌, ◌≤◌}
use Rattle.linker_elf.specs.X86Relocations.{x86_64_row}
use Rattle.linker_elf.specs.declared.x86_64.relocations.X86_64Relocation.{X86_64Relocation}
use Rattle.linker_elf.specs.declared.x86_64.relocations.X86_64Relocation.TheVariants as r
use Rattle.linker_reading.specs.X86WrittenFields.{WritesField, X86WrittenIsLeft}
use Rattle.linker_utils.specs.X86Rewrites.{x86_64_rewrite}

-- ---- whole bytes

-- all bits of the bytes are the value's
abbrev pub IsWhole : RowSize → RelocationKind → Type 0
IsWhole (ByteSize n) kind = (w : ℕ) → is_value_bit kind w ≡ true
IsWhole (BitMasking bits insn) kind = ⊥

pub first_part : (a b c : Bool) → (a && b && c) ≡ true → a ≡ true
first_part true b c e = refl
first_part false b c e = e

low_length : (n number : ℕ) → n < 9 → length (low_bytes n number) ≡ n
low_length n number h = length-take-le n (to_le_bytes w64 number) (omega arith)

-- a bit of the first n bytes is the field's
in_bytes : (n i j : ℕ) (kind : RelocationKind) → n < 9 → ((w : ℕ) → is_value_bit kind w ≡ true) → i < n → j < 8
    → (nat_le 0 i && (nat_lt (8 * (i - 0) + j) 64 && (is_value_bit kind (8 * (i - 0) + j) && nat_lt (8 * (i - 0) + j) (8 * n)))) ≡ true
in_bytes n i j kind small whole h k =
    and_from (nat_le 0 i) _ (le-leb 0 i (omega arith))
    (and_from (nat_lt (8 * (i - 0) + j) 64) _ (lt-ltb (8 * (i - 0) + j) 64 (omega arith))
    (and_from (is_value_bit kind (8 * (i - 0) + j)) _ (whole (8 * (i - 0) + j)) (lt-ltb (8 * (i - 0) + j) (8 * n) (omega arith))))

bytes_keep : (kind : RelocationKind) (n number : ℕ) (before after : List ℕ) → n < 9 → ((w : ℕ) → is_value_bit kind w ≡ true) → n ≤ length before
    → after ≡ low_bytes n number ++ drop n before → (i : ℕ) → i < length before
    → IsSameBut (λ j. nat_le 0 i && (nat_lt (8 * (i - 0) + j) 64 && (is_value_bit kind (8 * (i - 0) + j) && nat_lt (8 * (i - 0) + j) (8 * n))))
    (slice_index before i) (slice_index after i)
bytes_keep kind n number before after small whole room e i h j k ignored =
    ⊎_elim
    (λ below. absurd (both_ways _ ignored (in_bytes n i j kind small whole below k)))
    (λ above. ap (λ b. bit_at b j) (
    ap (λ l. get_or before l 0) (let at : i ≡ n + (i - n) = omega arith in at)
    ∙ sym (get_or-drop n before (i - n) 0)
    ∙ sym (get_or-append_right (low_bytes n number) (drop n before) n i 0 (low_length n number small) above)
    ∙ ap (λ l. get_or l i 0) (sym e)))
    (cases_lt i n)

bytes_length : (n number : ℕ) (before after : List ℕ) → n < 9 → n ≤ length before → after ≡ low_bytes n number ++ drop n before → length before ≡ length after
bytes_length n number before after small room e =
    omega (arith, ap length e, length-append (low_bytes n number) (drop n before), low_length n number small, length-drop n before)

by_size : (row : RowInfo) (size : RowSize) → row.size ≡ size → IsWhole size row.kind → WritesField row
by_size row (BitMasking bits insn) e whole v before after writes = absurd whole
by_size row (ByteSize n) e whole v before after writes =
    let supported : (takes_size row.kind (ByteSize n) && nat_lt 0 row.alignment && nat_lt row.alignment (2 ^ 63)) ≡ true =
    subst (λ s. (takes_size row.kind s && nat_lt 0 row.alignment && nat_lt row.alignment (2 ^ 63)) ≡ true) e writes.accepted.supported in
    let small : n < 9 = ltb-true n 9 (and_parts (nat_lt n 9) _ (first_part (takes_size row.kind (ByteSize n)) (nat_lt 0 row.alignment) (nat_lt row.alignment (2 ^ 63)) supported)).0 in
    let room : n ≤ length before = subst (λ s. size_len s ≤ length before) e writes.accepted.long in
    let written : after ≡ low_bytes n (number_written row.kind v (number_of_bytes n before)) ++ drop n before =
    subst (λ s. IsWritten s row.kind v before after) e writes.written in
    record {
      lengths = bytes_length n (number_written row.kind v (number_of_bytes n before)) before after small room written;
      room = writes.accepted.long;
      same = λ i h. subst (λ s. IsSameBut (λ j. nat_le 0 i && (nat_lt (8 * (i - 0) + j) 64 && is_size_bit s row.kind (drop 0 before) (8 * (i - 0) + j))) (slice_index before i) (slice_index after i)) (sym e)
          (bytes_keep row.kind n (number_written row.kind v (number_of_bytes n before)) before after small whole room written i h);
    }

pub whole_writes_field : (row : RowInfo) → IsWhole row.size row.kind → WritesField row
whole_writes_field row whole = by_size row row.size refl whole

-- ---- bytes after others

pub no_gap : (i : ℕ) → kept_index 0 0 i ≡ i
no_gap i = ap (λ b. if b then i else i + 0) (le-ltb i 0 (omega arith)) ∙ omega arith

with_others : (Q : ℕ → ℕ → Bool) (others : List FieldBits) (a b : List ℕ)
    → ((i : ℕ) → i < length b → IsSameBut (Q i) (slice_index a i) (slice_index b i)) → AreSameBut Q others 0 0 a b
with_others Q others a b same i h j k ignored =
    ap (λ n. bit_at (slice_index a n) j) (no_gap i)
    ∙ same i h j k (sym (ap (λ n. Q n j) (no_gap i)) ∙ (or_parts (Q (kept_index 0 0 i) j) (is_in_one others (kept_index 0 0 i) j) ignored).0)

moved : (row : RowInfo) (at : ℕ) (bytes : List ℕ) (i j : ℕ) → at ≤ i → is_in_row row at bytes i j ≡ false → is_in_row row 0 (drop at bytes) (i - at) j ≡ false
moved row at bytes i j from ignored =
    let same : i - at - 0 ≡ i - at = omega arith in
    ap (λ b. b && is_field_bit row (drop at bytes) (8 * (i - at - 0) + j)) (le-leb 0 (i - at) (omega arith))
    ∙ ap (λ n. is_field_bit row (drop at bytes) (8 * n + j)) same
    ∙ ap (λ b. b && is_field_bit row (drop at bytes) (8 * (i - at) + j)) (sym (le-leb at i from))
    ∙ ignored

pub written_is_left : (row : RowInfo) (section written : List ℕ) (at o : ℕ) (others : List FieldBits) → at ≤ length section
    → AreSameButFor row (drop at section) written → DifferOnlyInFields section at (Some row) None o others (take at section ++ written)
written_is_left row section written at o others inside same =
    let front : length (take at section) ≡ at = length-take-le at section inside in
    let all : length (take at section ++ written) ≡ length section =
    omega (arith, length-append (take at section) written, front, same.lengths, length-drop at section) in
    record {
      has_field = omega (arith, same.room, length-drop at section, inside);
      starts = omega arith;
      lengths = omega (arith, all);
      same = with_others (is_in_row row at section) others section (take at section ++ written) (λ i h j k ignored. ⊎_elim
          (λ below. ap (λ b. bit_at b j) (
          sym (get_or-take at section i 0 below)
          ∙ sym (get_or_append_left (take at section) written 0 i (omega (arith, front, below)))))
          (λ from.
          ap (λ n. bit_at (get_or section n 0) j) (let e : i ≡ at + (i - at) = omega arith in e)
          ∙ sym (ap (λ b. bit_at b j) (get_or-drop at section (i - at) 0))
          ∙ same.same (i - at) (omega (arith, all, h, length-drop at section)) j k (moved row at section i j from ignored)
          ∙ sym (ap (λ b. bit_at b j) (get_or-append_right (take at section) written at i 0 front from)))
          (cases_lt i at));
    }

-- ---- the rows of x86-64

is_whole_kind : RelocationKind → Bool
is_whole_kind AbsoluteSetWord6 = false
is_whole_kind AbsoluteAdditionWord6 = false
is_whole_kind AbsoluteSubtractionWord6 = false
is_whole_kind kind = true

whole_kind : (kind : RelocationKind) → is_whole_kind kind ≡ true → (w : ℕ) → is_value_bit kind w ≡ true
unfolding is_whole_kind
whole_kind AbsoluteSetWord6 e w = absurd (false≢true e)
whole_kind AbsoluteAdditionWord6 e w = absurd (false≢true e)
whole_kind AbsoluteSubtractionWord6 e w = absurd (false≢true e)
whole_kind kind e w = refl

is_whole_size : RowSize → RelocationKind → Bool
is_whole_size (ByteSize n) kind = is_whole_kind kind
is_whole_size (BitMasking bits insn) kind = false

whole_size : (size : RowSize) (kind : RelocationKind) → is_whole_size size kind ≡ true → IsWhole size kind
unfolding is_whole_size
whole_size (ByteSize n) kind e = whole_kind kind e
whole_size (BitMasking bits insn) kind e = absurd (false≢true e)

is_whole_row : Option RowInfo → Bool
is_whole_row None = true
is_whole_row (Some row) = is_whole_size row.size row.kind

x86_is_whole : (name : X86_64Relocation) → is_whole_row (x86_64_row name) ≡ true
unfolding is_whole_row is_whole_size is_whole_kind
x86_is_whole (r.Other r_type) = refl
x86_is_whole _ = refl

of_whole_row : (found : Option RowInfo) (row : RowInfo) → is_whole_row found ≡ true → found ≡ Some row → IsWhole row.size row.kind
unfolding is_whole_row
of_whole_row found row whole e = whole_size row.size row.kind (sym (ap is_whole_row e) ∙ whole)

pub x86_written_is_left : X86WrittenIsLeft
x86_written_is_left c row original o v written others e can inside writes =
    let field = whole_writes_field row (of_whole_row (x86_64_row c.relocation) row (x86_is_whole c.relocation) e) in
    let left = written_is_left row (rewritten (x86_64_rewrite c.kind) original o) written (offset_after (x86_64_rewrite c.kind) o) o others inside
    (field v (drop (offset_after (x86_64_rewrite c.kind) o) (rewritten (x86_64_rewrite c.kind) original o)) written writes) in
    record {
      rewritable = can;
      left = subst (λ (found : Option RowInfo). DifferOnlyInFields (rewritten (x86_64_rewrite c.kind) original o) (offset_after (x86_64_rewrite c.kind) o) found None o others
          (take (offset_after (x86_64_rewrite c.kind) o) (rewritten (x86_64_rewrite c.kind) original o) ++ written)) (sym e) left;
    }
