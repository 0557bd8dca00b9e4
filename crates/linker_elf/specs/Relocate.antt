-- How a relocation's value is written, and when it isn't.
use Rattle.linker_elf.specs.Imports.{AArch64, AbsoluteAddition, AbsoluteAdditionWord6}
use Rattle.linker_elf.specs.Imports.{AbsoluteLowPart, AbsoluteSetWord6, AbsoluteSubtraction}
use Rattle.linker_elf.specs.Imports.{AbsoluteSubtractionWord6, AnyForm, BitMasking, BitRange}
use Rattle.linker_elf.specs.Imports.{BitsWritten, ByteSize, Call30, Call36, CluiType, D, Ds, Fits}
use Rattle.linker_elf.specs.Imports.{IType, ImmediateBit, IsSameModulo, LoongArch64}
use Rattle.linker_elf.specs.Imports.{LoongArch64Instruction, Mark, Movkz, Movnz, Operands}
use Rattle.linker_elf.specs.Imports.{PairSubtractionULEB128LoongArch, PairSubtractionULEB128RiscV}
use Rattle.linker_elf.specs.Imports.{Ppc64, Ppc64Form, Relative, RelocateError, RelocationKind}
use Rattle.linker_elf.specs.Imports.{RiscV, RiscVInstruction, RowSize, SType, Shift10, Signed}
use Rattle.linker_elf.specs.Imports.{UType, UiType, Written, bit_at, byte_len, cast_unsigned}
use Rattle.linker_elf.specs.Imports.{cleared, field, from_le_bytes, int_rem_euclid, ored, replaced}
use Rattle.linker_elf.specs.Imports.{signed, to_le_bytes, w64, window_of}
use Rattle.std.specs.Prelude.{Bool, List, None, Option, Some, [], drop, false, int_lt, length}
use Rattle.std.specs.Prelude.{nat_lt, not, pos, replicate, take, true, ℕ, ℤ, ⊤, ◌≡◌, ◌+◌, ◌-◌, ◌%◌}
use Rattle.std.specs.Prelude.{◌^◌, ◌<◌, ◌≤◌, ◌==◌, ◌&&◌, ◌||◌, if◌then◌else◌, ◌∷◌, ◌++◌, ◌+ℤ◌, ◌-ℤ◌}
use Rattle.std.specs.Prelude.{◌*◌, ◌*ℤ◌}
use Rattle.linker_elf.specs.declared.elf.relocate.RelocateError.TheVariants.{Misaligned, OutOfReach}
use Rattle.linker_elf.specs.declared.elf.relocate.RelocateError.TheVariants.{TooShort, Unsupported}
use Rattle.linker_elf.specs.AArch64.{aarch64_form, shift_of}
use Rattle.linker_elf.specs.Agrees.{bits_from, IsSameIn, aarch64_reads, loongarch_reads}
use Rattle.linker_elf.specs.Agrees.{is_of_halves, is_of_words, AgreesBy, AgreesInReach}
use Rattle.linker_elf.specs.Elf.{IsWithin, bit_bounds, relocation_form}
use Rattle.linker_elf.specs.LoongArch.{loongarch_form, reach, has_16_bits}
use Rattle.linker_elf.specs.Ppc64.{ppc64_form}
use Rattle.linker_elf.specs.Reach.{reach_of, clui_hole}
use Rattle.linker_elf.specs.RiscV.{riscv_form}
use Rattle.linker_elf.specs.Value.{sum_64, difference_64, value_of}
use Rattle.linker_elf.specs.declared.elf.RowInfo.{RowInfo}

-- ---- whole bytes

-- the first n bytes, with zeros above them, as a little-endian number
abbrev pub number_of_bytes : ℕ → List ℕ → ℕ
number_of_bytes n bytes = from_le_bytes w64 (take n bytes ++ replicate (8 - n) 0)

-- the n lowest bytes of a number, the lowest first
abbrev pub low_bytes : ℕ → ℕ → List ℕ
low_bytes n number = take n (to_le_bytes w64 number)

-- the number with its low 6 bits those of another
abbrev pub with_low_6 : ℕ → ℕ → ℕ
with_low_6 old new = old - old % 64 + new % 64

-- the number that is written over another, modulo 2 ^ 64: what is added to, what is subtracted
-- from, the value in 6 bits, and else the value
abbrev pub number_written : RelocationKind → ℤ → ℕ → ℕ
number_written AbsoluteAddition v old = sum_64 old (cast_unsigned w64 v)
number_written AbsoluteSubtraction v old = difference_64 old (cast_unsigned w64 v)
number_written AbsoluteSetWord6 v old = with_low_6 old (cast_unsigned w64 v)
number_written AbsoluteAdditionWord6 v old = with_low_6 old (sum_64 old (cast_unsigned w64 v))
number_written AbsoluteSubtractionWord6 v old =
    with_low_6 old (difference_64 old (cast_unsigned w64 v))
number_written kind v old = cast_unsigned w64 v

-- ---- instructions

-- the places that are only ORed, as places that are cleared
abbrev pub clearing : Mark → ImmediateBit → List ImmediateBit → List ImmediateBit
clearing ored p rest = record p { mark = cleared } ∷ rest
clearing replaced p rest = rest
clearing cleared p rest = rest

abbrev pub ored_cleared : List ImmediateBit → List ImmediateBit
ored_cleared [] = []
ored_cleared (p ∷ ps) = clearing p.mark p (ored_cleared ps)

-- The places that are cleared before a write: those that the form only ORs. LoongArch's `Shift10`
-- with an immediate of 12 bits has a part of its opcode there. No form of RISC-V or PowerPC64 has
-- such places.
abbrev pub places_cleared : AnyForm → BitRange → ℕ → List ImmediateBit
places_cleared (AArch64 f) bits x = ored_cleared ((aarch64_form f).places x)
places_cleared (RiscV f) bits x = []
places_cleared (Ppc64 f) bits x = []
places_cleared (LoongArch64 f) bits x =
    if has_16_bits bits then ored_cleared ((loongarch_form f).places x) else []

-- the bits of the value that are written
abbrev pub bits_taken : BitRange → ℤ → ℕ
bits_taken bits v = field (cast_unsigned w64 v) bits.start bits.end

-- a word of DQ-form, whose displacement is in units of 16, where one of DS-form is expected: `lq`
-- by primary opcode 56, `lxvp` and `stxvp` by 6, `lxv` and `stxv` by 61 with 01 in the lowest two
-- bits (Power ISA, "DQ-Form")
abbrev pub is_dq_form : ℕ → Bool
is_dq_form word =
    field word 26 32 == 56
    || (field word 26 32 == 6 || (field word 26 32 == 61 && field word 0 2 == 1))

-- a number with its low 4 bits those of another
abbrev pub with_low_4 : ℕ → ℕ → ℕ
with_low_4 n low = n - n % 16 + low % 16

-- The number whose bits are placed: those of the value. The lowest four of a word of DQ-form stay,
-- since they aren't its displacement's.
abbrev pub number_placed : AnyForm → ℕ → ℕ → ℕ
number_placed (Ppc64 Ds) before taken =
    if is_dq_form before then with_low_4 taken before else taken
number_placed insn before taken = taken

-- MOVN and MOVZ of 32 bits are those of 64 but for bit 31, which stays 0.
abbrev pub is_32_bit_move : AnyForm → ℕ → Bool
is_32_bit_move (AArch64 Movnz) before = bit_at before 31 == 0
is_32_bit_move insn before = false

abbrev pub with_bit_31_if : Bool → ℕ → ℕ
with_bit_31_if true window = window + 2 ^ 31
with_bit_31_if false window = window

-- The instruction's places are cleared, and then the value's bits are written with its sign. All
-- other bytes stay.
pub record InstructionWritten (insn : AnyForm) (bits : BitRange) (v : ℤ)
    (before after : List ℕ) : Type 0 where
  pub clear : ℕ
  pub clears : BitsWritten (places_cleared insn bits (window_of (relocation_form insn) before)) 0
      (window_of (relocation_form insn) before) clear
  pub written : Written (relocation_form insn)
      (number_placed insn (window_of (relocation_form insn) before) (bits_taken bits v))
      (int_lt v (pos 0)) clear
      (with_bit_31_if (is_32_bit_move insn (window_of (relocation_form insn) before))
      (window_of (relocation_form insn) after))
  pub rest : drop (byte_len (relocation_form insn).window) after
      ≡ drop (byte_len (relocation_form insn).window) before

-- ---- MOVK, where a row is for MOVN and MOVZ

-- MOVK of 32 or of 64 bits (Arm Architecture Reference Manual, "MOVK")
abbrev pub is_movk : ℕ → Bool
is_movk word = field word 23 31 == 0xe5

-- It has no form with a sign, and stays what it is.
abbrev pub stays_movk : AnyForm → BitRange → ℕ → Bool
stays_movk (AArch64 Movnz) bits before = is_movk before && nat_lt (bits.end - bits.start) 17
stays_movk insn bits before = false

-- the form in which the bits are written
abbrev pub insn_at : AnyForm → BitRange → ℕ → AnyForm
insn_at insn bits before = if stays_movk insn bits before then AArch64 Movkz else insn

-- ---- `jirl`, where a row is for 12 bits of an address

-- `jirl` (LoongArch Reference Manual, volume 1, "JIRL")
abbrev pub is_jirl : ℕ → Bool
is_jirl word = field word 26 32 == 19

-- the row of `R_LARCH_PCALA_LO12` at a `jirl`, which jumps from the page of a `pcalau12i`
abbrev pub is_low_jump : AnyForm → RelocationKind → ℕ → Bool
is_low_jump (LoongArch64 Shift10) AbsoluteLowPart before = is_jirl before
is_low_jump insn kind before = false

-- the low 12 bits of a value in two's complement
abbrev pub low_part : ℤ → ℤ
low_part v = signed 12 (bits_taken (record { start = 0; end = 12 }) v)

-- Such a jump gets bits 2 to 17 of that number, as a branch with 16 bits does of a distance.
abbrev pub bits_at : AnyForm → RelocationKind → BitRange → ℕ → BitRange
bits_at insn kind bits before =
    if is_low_jump insn kind before then record { start = 2; end = 18 } else bits

abbrev pub value_at : AnyForm → RelocationKind → ℤ → ℕ → ℤ
value_at insn kind v before = if is_low_jump insn kind before then low_part v else v

-- ---- what is written

abbrev pub IsWritten : RowSize → RelocationKind → ℤ → List ℕ → List ℕ → Type 0
IsWritten (ByteSize n) kind v before after =
    after ≡ low_bytes n (number_written kind v (number_of_bytes n before)) ++ drop n before
IsWritten (BitMasking bits insn) kind v before after =
    let word = window_of (relocation_form insn) before in
    InstructionWritten (insn_at insn bits word) (bits_at insn kind bits word)
    (value_at insn kind v word) before after

-- what MOVN or MOVZ of 32 bits leaves in its register
abbrev pub moved_32 : ℕ → ℤ
moved_32 word =
    int_rem_euclid ((aarch64_form Movnz).machine (word + 2 ^ 31)) (pos (2 ^ 32))

-- What the machine reads after a write of MOVN or MOVZ: of 64 bits the value's bits from the
-- range's start up; of 32 bits those below bit 32, and where values aren't bounded the range's
-- alone.
abbrev pub MoveReads : Bool → BitRange → Option (ℤ × ℤ) → ℤ → ℕ → Type 0
MoveReads false bits bounds v after =
    IsSameIn bounds (bits.end - bits.start) (aarch64_reads Movnz bits.start after)
    (bits_from bits.start v)
MoveReads true bits (Some b) v after =
    bits_from bits.start (moved_32 after)
    ≡ int_rem_euclid (bits_from bits.start v) (pos (2 ^ (32 - bits.start)))
MoveReads true bits None v after =
    IsSameModulo (bits.end - bits.start) (bits_from bits.start (moved_32 after))
    (bits_from bits.start v)

-- what an instruction of PowerPC64 reads as its displacement
abbrev pub ppc64_reads : Ppc64Form → ℕ → ℤ
ppc64_reads Ds word =
    if is_dq_form word then (ppc64_form Ds).machine (word - word % 16)
    else (ppc64_form Ds).machine word
ppc64_reads f word = (ppc64_form f).machine word

-- The machine reads the value's bits from the range's start up, modulo the range's size where
-- values aren't bounded. MOVN and MOVZ shift what they hold, so their shift has to be the range's
-- start; those of 32 bits take bits below 32. A displacement of DQ-form begins with the value's bit
-- 0. An immediate in two's complement of a LoongArch `Shift10` is one of 16 bits. What a half
-- or a pair of instructions holds is said elsewhere.
abbrev pub InstructionReads : Bool → AnyForm → BitRange → Option (ℤ × ℤ) → ℤ → ℕ → ℕ
    → Type 0
InstructionReads is_signed (AArch64 Movnz) bits bounds v before after =
    shift_of before ≡ bits.start → (bit_at before 31 ≡ 0 → bits.end ≤ 32)
    → MoveReads (bit_at before 31 == 0) bits bounds v after
InstructionReads is_signed (AArch64 f) bits bounds v before after =
    IsSameIn bounds (bits.end - bits.start) (aarch64_reads f bits.start after)
    (bits_from bits.start v)
InstructionReads is_signed (RiscV f) bits bounds v before after =
    is_of_halves f ≡ false
    → IsSameIn bounds (bits.end - bits.start) ((riscv_form f).machine after)
    (bits_from bits.start v)
InstructionReads is_signed (Ppc64 Ds) bits bounds v before after =
    (is_dq_form before ≡ true → bits.start ≡ 0)
    → IsSameIn bounds (bits.end - bits.start) (ppc64_reads Ds after) (bits_from bits.start v)
InstructionReads is_signed (Ppc64 f) bits bounds v before after =
    IsSameIn bounds (bits.end - bits.start) ((ppc64_form f).machine after) (bits_from bits.start v)
InstructionReads is_signed (LoongArch64 f) bits bounds v before after =
    is_of_words f ≡ false → (f ≡ Shift10 → is_signed ≡ true → 12 < bits.end - bits.start)
    → IsSameIn bounds (bits.end - bits.start) (loongarch_reads f is_signed after)
    (bits_from bits.start v)

-- The same, but that MOVK takes the bits as they are, and a `jirl` jumps by the low part.
pub record FieldReads (is_signed : Bool) (insn : AnyForm) (kind : RelocationKind)
    (bits : BitRange) (bounds : Option (ℤ × ℤ)) (v : ℤ) (before after : ℕ) : Type 0 where
  pub other : stays_movk insn bits before ≡ false → is_low_jump insn kind before ≡ false
      → InstructionReads is_signed insn bits bounds v before after
  pub movk : stays_movk insn bits before ≡ true
      → (aarch64_form Movkz).machine after ≡ pos (bits_taken bits v)
  pub jump : is_low_jump insn kind before ≡ true
      → (loongarch_form Shift10).machine after *ℤ pos 4 ≡ low_part v

abbrev pub SizeReads : Bool → RowSize → RelocationKind → Option (ℤ × ℤ) → ℤ → List ℕ
    → List ℕ → Type 0
SizeReads is_signed (ByteSize n) kind bounds v before after = ⊤
SizeReads is_signed (BitMasking bits insn) kind bounds v before after =
    FieldReads is_signed insn kind bits bounds v (window_of (relocation_form insn) before)
    (window_of (relocation_form insn) after)

-- ---- the number that whole bytes hold

-- the number that is written over another, of which the bytes hold what they can
abbrev pub whole_number : RelocationKind → ℤ → ℕ → ℤ
whole_number AbsoluteAddition v old = pos old +ℤ v
whole_number AbsoluteSubtraction v old = pos old -ℤ v
whole_number AbsoluteSetWord6 v old = pos (old - old % 64) +ℤ int_rem_euclid v (pos 64)
whole_number AbsoluteAdditionWord6 v old =
    pos (old - old % 64) +ℤ int_rem_euclid (pos old +ℤ v) (pos 64)
whole_number AbsoluteSubtractionWord6 v old =
    pos (old - old % 64) +ℤ int_rem_euclid (pos old -ℤ v) (pos 64)
whole_number kind v old = v

-- The little-endian number of n bytes is that, modulo 2 ^ (8 * n).
abbrev pub SizeNumber : RowSize → RelocationKind → ℤ → List ℕ → List ℕ → Type 0
SizeNumber (ByteSize n) kind v before after =
    pos (number_of_bytes n after)
    ≡ int_rem_euclid (whole_number kind v (number_of_bytes n before)) (pos (2 ^ (8 * n)))
SizeNumber (BitMasking bits insn) kind v before after = ⊤

-- ---- what is rejected

-- the rows of a pair of relocations of a ULEB128 number: those of the first of a pair have kind
-- `Relative` and no bytes
abbrev pub is_of_uleb128 : RelocationKind → ℕ → Bool
is_of_uleb128 PairSubtractionULEB128RiscV n = true
is_of_uleb128 PairSubtractionULEB128LoongArch n = true
is_of_uleb128 Relative n = n == 0
is_of_uleb128 kind n = false

-- the pair of a LoongArch call of which no manual says how far it goes
abbrev pub is_call30 : AnyForm → Bool
is_call30 (LoongArch64 Call30) = true
is_call30 insn = false

-- at most 8 bytes, or some of a value's 64 bits
abbrev pub takes_size : RelocationKind → RowSize → Bool
takes_size kind (ByteSize n) = nat_lt n 9 && not (is_of_uleb128 kind n)
takes_size kind (BitMasking bits insn) =
    (nat_lt bits.start bits.end && nat_lt bits.end 65) && not (is_call30 insn)

-- such a row, with an alignment that a value can have
abbrev pub is_supported : RowInfo → Bool
is_supported row =
    takes_size row.kind row.size && nat_lt 0 row.alignment && nat_lt row.alignment (2 ^ 63)

abbrev pub size_len : RowSize → ℕ
size_len (ByteSize n) = n
size_len (BitMasking bits insn) = byte_len (relocation_form insn).window

-- how many bytes are written
abbrev pub window_len : RowInfo → ℕ
window_len row = size_len row.size

abbrev pub IsAligned : ℕ → ℤ → Type 0
IsAligned alignment v = int_rem_euclid v (pos alignment) ≡ pos 0

-- a multiple of 16, for a word of DQ-form
abbrev pub IsInUnits : RowSize → ℤ → List ℕ → Type 0
IsInUnits (BitMasking bits (Ppc64 Ds)) v bytes =
    is_dq_form (window_of (ppc64_form Ds) bytes) ≡ true → IsAligned 16 v
IsInUnits size v bytes = ⊤

-- a multiple of 4, for a `jirl`
abbrev pub IsInWords : RowSize → RelocationKind → ℤ → List ℕ → Type 0
IsInWords (ByteSize n) kind v bytes = ⊤
IsInWords (BitMasking bits insn) kind v bytes =
    is_low_jump insn kind (window_of (relocation_form insn) bytes) ≡ true → IsAligned 4 v

-- a multiple of the alignment of the row and of its instruction
abbrev pub IsMultiple : RowInfo → ℤ → List ℕ → Type 0
IsMultiple row v bytes =
    IsAligned row.alignment v × IsInUnits row.size v bytes × IsInWords row.size row.kind v bytes

-- the form holds the bits, as it does of each row of the relocation tables
abbrev pub HoldsBits : RowSize → ℤ → List ℕ → Type 0
HoldsBits (ByteSize n) v bytes = ⊤
HoldsBits (BitMasking bits insn) v bytes =
    Fits (relocation_form insn) (bits_taken bits v) (window_of (relocation_form insn) bytes)

-- an encoding that isn't reserved holds the value
abbrev pub IsEncoded : RowSize → ℤ → Type 0
IsEncoded (BitMasking bits (RiscV CluiType)) v = ¬ IsWithin (Some clui_hole) v
IsEncoded size v = ⊤

abbrev pub IsReached : RowInfo → ℤ → List ℕ → Type 0
IsReached row v bytes =
    IsWithin (reach_of row) v × HoldsBits row.size v bytes × IsEncoded row.size v

-- the value is written
pub record IsAccepted (row : RowInfo) (v : ℤ) (bytes : List ℕ) : Type 0 where
  pub supported : is_supported row ≡ true
  pub long : window_len row ≤ length bytes
  pub aligned : IsMultiple row v bytes
  pub reached : IsReached row v bytes

-- why it isn't: the first of these that does not hold
abbrev pub IsCause : RowInfo → ℤ → List ℕ → RelocateError → Type 0
IsCause row v bytes Unsupported = is_supported row ≡ false
IsCause row v bytes TooShort = (is_supported row ≡ true) × (length bytes < window_len row)
IsCause row v bytes Misaligned =
    (is_supported row ≡ true) × (window_len row ≤ length bytes) × ¬ IsMultiple row v bytes
IsCause row v bytes OutOfReach =
    (is_supported row ≡ true) × (window_len row ≤ length bytes) × IsMultiple row v bytes
    × ¬ IsReached row v bytes

-- ---- what the halves and pairs of instructions hold

-- a low half completes each high half that was written of the same value's bits
abbrev pub CompletesHigh : RiscVInstruction → BitRange → ℤ → ℕ → Type 0
CompletesHigh low bits v after =
    (neg : Bool) (before high : ℕ) → Written (riscv_form UType) (bits_taken bits v) neg before high
    → (riscv_form UType).machine high +ℤ (riscv_form low).machine after ≡ v

-- a high half is completed by each low half that was written of the same value's bits
abbrev pub IsCompletedBy : RiscVInstruction → RiscVInstruction → BitRange → ℤ → ℕ → Type 0
IsCompletedBy low high bits v after =
    (neg : Bool) (before x : ℕ) → Written (riscv_form low) (bits_taken bits v) neg before x
    → (riscv_form high).machine after +ℤ (riscv_form low).machine x ≡ v

abbrev pub RiscVHolds : RiscVInstruction → BitRange → ℤ → ℕ → Type 0
RiscVHolds IType bits v after = CompletesHigh IType bits v after
RiscVHolds SType bits v after = CompletesHigh SType bits v after
RiscVHolds UType bits v after =
    IsCompletedBy IType UType bits v after × IsCompletedBy SType UType bits v after
RiscVHolds CluiType bits v after =
    IsCompletedBy IType CluiType bits v after × IsCompletedBy SType CluiType bits v after
RiscVHolds UiType bits v after = (riscv_form UiType).machine after ≡ v
RiscVHolds f bits v after = ⊤

-- A low half completes each high half of the value plus 0x8000, which is a number of 32 bits.
abbrev pub CompletesAdjusted : Ppc64Form → ℤ → ℕ → Type 0
CompletesAdjusted low v after =
    (neg : Bool) (before high : ℕ) → IsWithin (Some (bit_bounds 32 Signed)) (v +ℤ pos 0x8000)
    → Written (ppc64_form D) (bits_taken (record { start = 16; end = 32 }) (v +ℤ pos 0x8000)) neg
    before high
    → ((ppc64_form D).machine high *ℤ pos (2 ^ 16)) +ℤ ppc64_reads low after ≡ v

abbrev pub Ppc64Holds : Ppc64Form → ℤ → ℕ → Type 0
Ppc64Holds D v after = CompletesAdjusted D v after
Ppc64Holds Ds v after = IsAligned 4 v → CompletesAdjusted Ds v after
Ppc64Holds f v after = ⊤

abbrev pub LoongArchHolds : LoongArch64Instruction → ℤ → ℕ → Type 0
LoongArchHolds Call36 v after = reach after ≡ v
LoongArchHolds f v after = ⊤

-- RISC-V's pairs make the value of which the low 32 bits, or more, were taken, and PowerPC64's low
-- halves that of which the low 16 were; LoongArch's `pcaddu18i` and `jirl` go as far as the
-- multiple of 4 of which bits 2 to 37 were.
abbrev pub InstructionHolds : AnyForm → BitRange → ℤ → ℕ → Type 0
InstructionHolds (AArch64 f) bits v after = ⊤
InstructionHolds (RiscV f) bits v after = bits.start ≡ 0 → 32 ≤ bits.end → RiscVHolds f bits v after
InstructionHolds (Ppc64 f) bits v after = bits.start ≡ 0 → 16 ≤ bits.end → Ppc64Holds f v after
InstructionHolds (LoongArch64 f) bits v after =
    bits.start ≡ 2 → bits.end ≡ 38 → IsAligned 4 v → LoongArchHolds f v after

abbrev pub SizeHolds : RowSize → ℤ → List ℕ → Type 0
SizeHolds (ByteSize n) v after = ⊤
SizeHolds (BitMasking bits insn) v after =
    InstructionHolds insn bits v (window_of (relocation_form insn) after)

-- ---- what a write of a row does

-- The value is written, and the machine reads it: with the range's bounds and with those of the
-- reach, where the row agrees with the machine so.
pub record WritesRow (row : RowInfo) (v : ℤ) (before after : List ℕ) : Type 0 where
  pub accepted : IsAccepted row v before
  pub written : IsWritten row.size row.kind v before after
  pub number : SizeNumber row.size row.kind v before after
  pub machine : (is_signed : Bool) → AgreesBy is_signed row
      → SizeReads is_signed row.size row.kind row.range.bounds v before after
  pub reached : (is_signed : Bool) → AgreesInReach is_signed row
      → SizeReads is_signed row.size row.kind (reach_of row) v before after
  pub pairs : SizeHolds row.size v after

-- The value is rejected, with the error whose cause it has, and nothing is written.
abbrev pub RejectsValue : RowInfo → ℤ → List ℕ → List ℕ → RelocateError → Type 0
RejectsValue row v before after error = IsCause row v before error × (after ≡ before)

-- ---- values in reach

-- A value can be written: it is within the row's reach, an encoding holds it, and it is a multiple
-- of the row's alignment.
pub record IsInReach (row : RowInfo) (v : ℤ) : Type 0 where
  pub supported : is_supported row ≡ true
  pub within : IsWithin (reach_of row) v
  pub encoded : IsEncoded row.size v
  pub aligned : IsAligned row.alignment v

abbrev pub ReachesValue : RowInfo → Option ℤ → Type 0
ReachesValue row None = ⊥
ReachesValue row (Some v) = IsInReach row v

-- the relocation has a value, which can be written
abbrev pub Reaches : RowInfo → Operands → Type 0
Reaches row operands = ReachesValue row (value_of row operands)
