-- What stands in the field of a relocation: which bits of its value, with what was added to it.
use Rattle.linker_reading.specs.Imports.{AArch64, AnyForm, BitMasking, Bool, ByteSize, Call30, Ds}
use Rattle.linker_reading.specs.Imports.{FieldValue, IfSome, List, LoongArch64, MachOLow12, Movnz}
use Rattle.linker_reading.specs.Imports.{None, Option, Ppc64, RelocationKind, RiscV, RowInfo}
use Rattle.linker_reading.specs.Imports.{RowSize, Some, WritesRow, bit_bounds, cast_unsigned}
use Rattle.linker_reading.specs.Imports.{difference_64, false, field, insn_at, is_low_jump, length}
use Rattle.linker_reading.specs.Imports.{nat_lt, not, number_of_bytes, ppc64_reads, relocation_form}
use Rattle.linker_reading.specs.Imports.{sum_64, true, w64, window_len, window_of, ℕ, ℤ}
use Rattle.linker_elf.specs.declared.riscv64.forms.RiscVInstruction.TheVariants.{CluiType, UType}
use Rattle.std.specs.Prelude.{◌+◌, ◌-◌, ◌*◌, ◌/◌, ◌%◌, ◌^◌, ◌==◌, ◌&&◌, if◌then◌else◌}
use Rattle.std.specs.Int.RustNames.{FitsSigned}
use Rattle.std.specs.Int.Signed.{le_z}
use Rattle.linker_base.specs.declared.bit_misc.BitRange.{BitRange}
use Rattle.linker_elf.specs.AArch64.{movnz}
use Rattle.linker_elf.specs.Forms.{immediate_of}
use Rattle.linker_elf.specs.Reach.{reach_of}
use Rattle.linker_elf.specs.Rows.{Bounds}
use Rattle.linker_elf.specs.declared.elf.RelocationKind.TheVariants as kinds
use Rattle.linker_elf.specs.declared.elf.Sign.TheVariants.{Signed}
use Rattle.linker_reading.specs.Fields.{IsOfValue}

-- ---- what a field holds

-- Bytes hold the value, or its low bits, and not a sum of it and what stood there.
abbrev pub holds_value : RelocationKind → Bool
holds_value kinds.AbsoluteAddition = false
holds_value kinds.AbsoluteAdditionWord6 = false
holds_value kinds.AbsoluteSubtraction = false
holds_value kinds.AbsoluteSubtractionWord6 = false
holds_value kinds.PairSubtractionULEB128RiscV = false
holds_value kinds.PairSubtractionULEB128LoongArch = false
holds_value kind = true

-- The instruction holds bits of the value from the range's start up. `lui`, `auipc` and `c.lui`,
-- whose value is rounded, and a displacement that may be one of DQ-form begin with bit 0.
abbrev pub holds_bits : AnyForm → BitRange → Bool
holds_bits (AArch64 Movnz) bits = bits.end == bits.start + 16
holds_bits (AArch64 MachOLow12) bits = false
holds_bits (RiscV UType) bits = bits.start == 0
holds_bits (RiscV CluiType) bits = bits.start == 0
holds_bits (Ppc64 Ds) bits = bits.start == 0
holds_bits (LoongArch64 Call30) bits = false
holds_bits insn bits = true

-- ---- what stands in the field

-- the number that the machine reads of an instruction, in units of the range's start; what MOVN and
-- MOVZ hold before their shift
abbrev pub number_held : AnyForm → ℕ → ℤ
number_held (AArch64 Movnz) x = movnz.reading x
number_held (Ppc64 f) x = ppc64_reads f x
number_held insn x = (relocation_form insn).machine x

-- every value within bounds is a number of n signed bits
abbrev pub are_signed : ℕ → Bounds → Bool
are_signed n None = false
are_signed n (Some b) = le_z (bit_bounds n Signed).0 b.0 && le_z b.1 (bit_bounds n Signed).1

-- the bits of a value, of a range, that an immediate has
abbrev pub bits_within : BitRange → BitRange → BitRange
bits_within immediate bits =
    record {
      start = bits.start + immediate.start;
      end =
          if nat_lt bits.end (bits.start + immediate.end) then bits.end
          else bits.start + immediate.end;
    }

-- MOVN and MOVZ also have the sign, if every value is that short.
abbrev pub bits_held : AnyForm → BitRange → Bounds → BitRange
bits_held (AArch64 Movnz) bits reached =
    if nat_lt bits.end 49 && are_signed (bits.end + 1) reached
    then record { start = bits.start; end = bits.end + 1 } else bits
bits_held insn bits reached = bits_within (immediate_of insn) bits

-- what was added to the value: half of what a low part of 12 signed bits reaches
abbrev pub rounding_of : AnyForm → ℕ
rounding_of (RiscV UType) = 0x800
rounding_of (RiscV CluiType) = 0x800
rounding_of insn = 0

abbrev pub bits_read : AnyForm → ℕ → BitRange → ℕ → FieldValue
bits_read insn start known x =
    record {
      known = known;
      bits =
          field (cast_unsigned w64 (number_held insn x)) (known.start - start) (known.end - start);
      rounding = rounding_of insn;
    }

-- how many of a value's bits whole bytes hold
abbrev pub bits_of_bytes : RelocationKind → ℕ → ℕ
bits_of_bytes kinds.AbsoluteSetWord6 n = 6
bits_of_bytes kind n = 8 * n

abbrev pub bytes_read : ℕ → ℕ → FieldValue
bytes_read n number =
    record {
      known = record { start = 0; end = n };
      bits = number % 2 ^ n;
      rounding = 0;
    }

-- a `jirl` at the low part of an address has its bits 2 to 11, and bits 0 and 1 are 0
abbrev pub jump_read : ℕ → FieldValue
jump_read x =
    record { known = record { start = 0; end = 12 }; bits = field x 10 20 * 4; rounding = 0 }

-- A MOVK is read as one.
abbrev pub field_read : RelocationKind → RowSize → Bounds → List ℕ → FieldValue
field_read kind (ByteSize n) reached bytes =
    bytes_read (bits_of_bytes kind n) (number_of_bytes n bytes)
field_read kind (BitMasking bits insn) reached bytes =
    let word = window_of (relocation_form insn) bytes in
    if is_low_jump insn kind word then jump_read word
    else bits_read (insn_at insn bits word) bits.start
    (bits_held (insn_at insn bits word) bits reached)
    (window_of (relocation_form (insn_at insn bits word)) bytes)

-- ---- which rows hold their value

abbrev pub holds_some : AnyForm → BitRange → BitRange → Bool
holds_some insn bits known =
    nat_lt bits.start bits.end
    && (nat_lt bits.end 65 && (nat_lt known.start known.end && holds_bits insn bits))

abbrev pub holds_field : RelocationKind → RowSize → Bounds → Bool
holds_field kind (ByteSize n) reached = nat_lt 0 n && (nat_lt n 9 && holds_value kind)
holds_field kind (BitMasking bits insn) reached =
    holds_some insn bits (bits_held insn bits reached)

-- ---- what the reach and the alignment add

-- the least of the values, rounded
abbrev pub least_sum : ℤ × ℤ → FieldValue → ℕ
least_sum b f = sum_64 (cast_unsigned w64 b.0) f.rounding

-- Of the values within bounds, those with the known bits differ below the first known bit only:
-- there are 2 to the last bit of them at most, and the first of them, rounded, has no bits below.
abbrev pub leaves_one : ℤ × ℤ → FieldValue → Bool
leaves_one b f =
    nat_lt f.known.end 64
    && (not (nat_lt (2 ^ f.known.end)
    (difference_64 (cast_unsigned w64 b.1) (cast_unsigned w64 b.0)))
    && least_sum b f % 2 ^ f.known.start == 0)

-- how far above the least of the values the known bits are, in units of the first of them
abbrev pub steps_above : ℤ × ℤ → FieldValue → ℕ
steps_above b f =
    (f.bits + (2 ^ 64 - least_sum b f / 2 ^ f.known.start)) % 2 ^ (f.known.end - f.known.start)

-- all bits from the first known one up, and so the sign
abbrev pub up_to_sign : ℤ × ℤ → FieldValue → FieldValue
up_to_sign b f =
    record f {
      known = record { start = f.known.start; end = 64 };
      bits = sum_64 (least_sum b f) (steps_above b f * 2 ^ f.known.start) / 2 ^ f.known.start;
    }

abbrev pub with_reach : Bounds → FieldValue → FieldValue
with_reach None f = f
with_reach (Some b) f = if leaves_one b f then up_to_sign b f else f

-- The bits of a multiple that are below the first known one are 0.
abbrev pub with_alignment : ℕ → FieldValue → FieldValue
with_alignment alignment f =
    if f.rounding == 0 && alignment % 2 ^ f.known.start == 0
    then record f {
      known = record { start = 0; end = f.known.end };
      bits = f.bits * 2 ^ f.known.start;
    } else f

-- ---- rows

abbrev pub is_readable : RowInfo → List ℕ → Bool
is_readable row bytes =
    holds_field row.kind row.size (reach_of row) && not (nat_lt (length bytes) (window_len row))

-- what is known of the value of a row from the bytes at its place
abbrev pub value_read : RowInfo → List ℕ → Option FieldValue
value_read row bytes =
    if is_readable row bytes
    then Some (with_alignment row.alignment
    (with_reach (reach_of row) (field_read row.kind row.size (reach_of row) bytes)))
    else None

-- Whatever value was written, it has the bits that are read.
abbrev pub IsReadBack : RowInfo → List ℕ → Option FieldValue → Type 0
IsReadBack row after read =
    (v : ℤ) (before : List ℕ) → FitsSigned w64 v → WritesRow row v before after
    → IfSome read (λ f. IsOfValue f v)
