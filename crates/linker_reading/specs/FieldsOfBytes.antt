-- The bits of a relocation's field, and bytes that differ in no other bits. Bits are counted from
-- the lowest of the first byte of a window.
use Rattle.linker_reading.specs.Imports.{AArch64, AbsoluteAdditionWord6, AbsoluteSetWord6}
use Rattle.linker_reading.specs.Imports.{AbsoluteSubtractionWord6, AnyForm, BitMasking, Bool}
use Rattle.linker_reading.specs.Imports.{ByteSize, Ds, FieldBits, List, LoongArch64, Movnz, None}
use Rattle.linker_reading.specs.Imports.{Option, Ppc64, RelocationKind, RowInfo, RowSize, Shift10}
use Rattle.linker_reading.specs.Imports.{Some, bit_at, bits_at, drop, false, insn_at, is_dq_form}
use Rattle.linker_reading.specs.Imports.{is_placed, length, nat_le, nat_lt, not, relocation_form}
use Rattle.linker_reading.specs.Imports.{slice_index, true, window_len, window_of, ℕ}
use Rattle.std.specs.Prelude.{◌≡◌, ◌+◌, ◌-◌, ◌*◌, ◌<◌, ◌≤◌, ◌==◌, ◌&&◌, ◌||◌, if◌then◌else◌}
use Rattle.std.specs.List.{list_any}
use Rattle.linker_base.specs.declared.bit_misc.BitRange.{BitRange}
use Rattle.linker_elf.specs.LoongArch.{shift10_low}

-- ---- the bits that a write of a row may change

-- of whole bytes all, or the lowest six
abbrev pub is_value_bit : RelocationKind → ℕ → Bool
is_value_bit AbsoluteSetWord6 w = nat_lt w 6
is_value_bit AbsoluteAdditionWord6 w = nat_lt w 6
is_value_bit AbsoluteSubtractionWord6 w = nat_lt w 6
is_value_bit kind w = true

-- Of an instruction those of its form. `Movnz` also has an opcode, of which bit 31 stays. An
-- immediate of at most 12 bits in a LoongArch `Shift10` leaves the bits above it, which are only
-- ORed. A word of DQ-form keeps its lowest four bits.
abbrev pub is_instruction_bit : AnyForm → BitRange → ℕ → ℕ → Bool
is_instruction_bit (AArch64 Movnz) bits x w =
    is_placed ((relocation_form (AArch64 Movnz)).places x) w || nat_lt 22 w && nat_lt w 31
is_instruction_bit (LoongArch64 Shift10) bits x w =
    if nat_lt 12 (bits.end - bits.start)
    then is_placed ((relocation_form (LoongArch64 Shift10)).places x) w
    else is_placed shift10_low w
is_instruction_bit (Ppc64 Ds) bits x w =
    is_placed ((relocation_form (Ppc64 Ds)).places x) w && not (is_dq_form x && nat_lt w 4)
is_instruction_bit insn bits x w = is_placed ((relocation_form insn).places x) w

-- Of the number that the window's bytes make; of at most 8 bytes. Of a MOVK those of that form, and
-- of a `jirl` at the low part of an address all 16 bits.
abbrev pub is_size_bit : RowSize → RelocationKind → List ℕ → ℕ → Bool
is_size_bit (ByteSize n) kind bytes w = is_value_bit kind w && nat_lt w (8 * n)
is_size_bit (BitMasking bits insn) kind bytes w =
    let word = window_of (relocation_form insn) bytes in
    is_instruction_bit (insn_at insn bits word) (bits_at insn kind bits word)
    (window_of (relocation_form (insn_at insn bits word)) bytes) w

abbrev pub is_field_bit : RowInfo → List ℕ → ℕ → Bool
is_field_bit row bytes w = nat_lt w 64 && is_size_bit row.size row.kind bytes w

-- ---- bytes that differ in some bits only

-- bit j of byte i is one of the bits of a field
abbrev pub is_in : FieldBits → ℕ → ℕ → Bool
is_in field i j =
    nat_le field.offset i
    && (nat_lt (8 * (i - field.offset) + j) 64
    && bit_at field.bits (8 * (i - field.offset) + j) == 1)

abbrev pub is_in_one : List FieldBits → ℕ → ℕ → Bool
is_in_one fields i j = list_any (λ (field : FieldBits). is_in field i j) fields

-- it is a bit of the row's field at an offset of bytes
abbrev pub is_in_row : RowInfo → ℕ → List ℕ → ℕ → ℕ → Bool
is_in_row row at bytes i j = nat_le at i && is_field_bit row (drop at bytes) (8 * (i - at) + j)

-- it is one of the field of a relocation that may have no row
abbrev pub is_in_field : Option RowInfo → ℕ → List ℕ → ℕ → ℕ → Bool
is_in_field None at bytes i j = false
is_in_field (Some row) at bytes i j = is_in_row row at bytes i j

-- Each bit of two bytes that isn't one of these is the same.
abbrev pub IsSameBut : (ℕ → Bool) → ℕ → ℕ → Type 0
IsSameBut ignored a b = (j : ℕ) → j < 8 → ignored j ≡ false → bit_at a j ≡ bit_at b j

-- the index before bytes were deleted from an index on
abbrev pub kept_index : ℕ → ℕ → ℕ → ℕ
kept_index start count i = if nat_lt i start then i else i + count

-- Each byte of the second window differs from that of the first, without some deleted bytes, in
-- bits of a field and of others only. `is_in_field` and the others name bits of the first window.
abbrev pub AreSameBut : (ℕ → ℕ → Bool) → List FieldBits → ℕ → ℕ → List ℕ → List ℕ → Type 0
AreSameBut is_in_field others start count a b =
    (i : ℕ) → i < length b
    → IsSameBut
    (λ j. is_in_field (kept_index start count i) j || is_in_one others (kept_index start count i) j)
    (slice_index a (kept_index start count i)) (slice_index b i)

-- Two windows have the same length, in which the row's field lies, and differ in no other bit.
pub record AreSameButFor (row : RowInfo) (a b : List ℕ) : Type 0 where
  pub lengths : length a ≡ length b
  pub room : window_len row ≤ length a
  pub same : (i : ℕ) → i < length a
      → IsSameBut (is_in_row row 0 a i) (slice_index a i) (slice_index b i)
