-- When the row of a relocation agrees with the machine: the bits of a value that the row names,
-- once written into its instruction, are read as those bits of the value. Rows of whole bytes have
-- no instruction; those of a half or of the whole of an instruction pair agree together, as the
-- contracts of the writes of pairs say. And when a row's bits fit its form.
use Rattle.linker_elf.specs.Imports.{AArch64, AArch64Instruction, AnyForm, BitMasking, BitRange}
use Rattle.linker_elf.specs.Imports.{ByteSize, Call30, Call36, CluiType, Fits, Form, IType, IsClear}
use Rattle.linker_elf.specs.Imports.{IsSameModulo, LoongArch64, LoongArch64Instruction}
use Rattle.linker_elf.specs.Imports.{LoongArch64Relocation, Movnz, Ppc64, R_LARCH_B16}
use Rattle.linker_elf.specs.Imports.{R_LARCH_PCREL20_S2, R_LARCH_TLS_DESC_PCREL20_S2}
use Rattle.linker_elf.specs.Imports.{R_LARCH_TLS_GD_PCREL20_S2, R_LARCH_TLS_LD_PCREL20_S2, RiscV}
use Rattle.linker_elf.specs.Imports.{RiscVInstruction, RowSize, SType, Shift10, Shift5, UType}
use Rattle.linker_elf.specs.Imports.{UiType, Written, field, int_div_euclid, int_rem_euclid}
use Rattle.std.specs.Prelude.{Bool, None, Option, Some, false, int_lt, pos, true, ℕ, ℤ, ⊤, ◌≡◌, ◌-◌}
use Rattle.std.specs.Prelude.{◌^◌, ◌<◌, ◌≤◌, ◌<ℤ◌}
use Rattle.linker_elf.specs.AArch64.{aarch64_form, shift_of}
use Rattle.linker_elf.specs.Elf.{IsWithin, relocation_form}
use Rattle.linker_elf.specs.LoongArch.{loongarch_form}
use Rattle.linker_elf.specs.Ppc64.{ppc64_form}
use Rattle.linker_elf.specs.Reach.{reach_of}
use Rattle.linker_elf.specs.RiscV.{riscv_form}
use Rattle.linker_elf.specs.declared.elf.RowInfo.{RowInfo}

-- the bits of v from bit s up; of a negative v, those of its two's complement
abbrev pub bits_from : ℕ → ℤ → ℤ
bits_from s v = int_div_euclid v (pos (2 ^ s))

-- f is bits s and up, below e, of v
abbrev pub IsFieldOf : ℤ → ℕ → ℕ → ℕ → Type 0
IsFieldOf v s e f = pos f ≡ int_rem_euclid (bits_from s v) (pos (2 ^ (e - s)))

-- The same number; where values are not checked, the same modulo 2 ^ n, with no bit above those n.
-- So a number without a sign is those n bits.
abbrev pub IsSameIn : Option (ℤ × ℤ) → ℕ → ℤ → ℤ → Type 0
IsSameIn (Some bounds) n a b = a ≡ b
IsSameIn None n a b = IsSameModulo n a b × (a <ℤ pos (2 ^ n))

-- Every aligned value within bounds, of which the bits of a range are written with its sign, is
-- read from that range's start up. `Ready` tells of the window before; `reads` is the number read
-- of the window after, in units of the range's start.
abbrev pub Agrees : Form → (ℕ → Type 0) → (ℕ → ℤ) → BitRange → Option (ℤ × ℤ) → ℕ → Type 0
Agrees form Ready reads bits bounds alignment =
    (v : ℤ) (f before after : ℕ) → IsWithin bounds v → int_rem_euclid v (pos alignment) ≡ pos 0
    → IsFieldOf v bits.start bits.end f
    → Ready before → Written form f (int_lt v (pos 0)) before after
    → IsSameIn bounds (bits.end - bits.start) (reads after) (bits_from bits.start v)

-- ---- AArch64

-- The places that are only ORed hold 0; MOVN and MOVZ move their bits up by the range's start.
abbrev pub AArch64Ready : AArch64Instruction → ℕ → ℕ → Type 0
AArch64Ready f s x = IsClear ((aarch64_form f).places x) x × (f ≡ Movnz → shift_of x ≡ s)

-- what MOVN and MOVZ read is moved up already
abbrev pub aarch64_reads : AArch64Instruction → ℕ → ℕ → ℤ
aarch64_reads Movnz s x = bits_from s ((aarch64_form Movnz).machine x)
aarch64_reads f s x = (aarch64_form f).machine x

-- ---- RISC-V

-- the forms that hold a half of a value, or both halves in two words
abbrev pub is_of_halves : RiscVInstruction → Bool
is_of_halves UType = true
is_of_halves IType = true
is_of_halves SType = true
is_of_halves CluiType = true
is_of_halves UiType = true
is_of_halves f = false

-- ---- LoongArch

-- `pcaddi` and the branches with 16 bits read their immediate in two's complement. The other
-- relocations of 20 and of 12 bits name a part of a value, which the immediate holds as it stands.
abbrev pub reads_signed : LoongArch64Relocation → Bool
reads_signed R_LARCH_PCREL20_S2 = true
reads_signed R_LARCH_TLS_LD_PCREL20_S2 = true
reads_signed R_LARCH_TLS_GD_PCREL20_S2 = true
reads_signed R_LARCH_TLS_DESC_PCREL20_S2 = true
reads_signed R_LARCH_B16 = true
reads_signed name = false

-- what stands in the immediate of 20 or of 12 bits, and else what the form reads
abbrev pub loongarch_reads : LoongArch64Instruction → Bool → ℕ → ℤ
loongarch_reads Shift5 false x = pos (field x 5 25)
loongarch_reads Shift10 false x = pos (field x 10 22)
loongarch_reads f is_signed x = (loongarch_form f).machine x

-- An immediate of 16 bits has places that are only ORed, which hold 0.
abbrev pub LoongArchReady : LoongArch64Instruction → Bool → ℕ → Type 0
LoongArchReady f is_signed x = is_signed ≡ true → IsClear ((loongarch_form f).places x) x

-- the forms of two words
abbrev pub is_of_words : LoongArch64Instruction → Bool
is_of_words Call30 = true
is_of_words Call36 = true
is_of_words f = false

-- ---- rows

-- an instruction of one architecture, by the sign that LoongArch's relocations give its immediates
abbrev pub InstructionAgrees : Bool → AnyForm → BitRange → Option (ℤ × ℤ) → ℕ → Type 0
InstructionAgrees is_signed (AArch64 f) bits bounds a =
    Agrees (aarch64_form f) (AArch64Ready f bits.start) (aarch64_reads f bits.start) bits bounds a
InstructionAgrees is_signed (RiscV f) bits bounds a =
    is_of_halves f ≡ false → Agrees (riscv_form f) (λ x. ⊤) (riscv_form f).machine bits bounds a
InstructionAgrees is_signed (Ppc64 f) bits bounds a =
    Agrees (ppc64_form f) (λ x. ⊤) (ppc64_form f).machine bits bounds a
InstructionAgrees is_signed (LoongArch64 f) bits bounds a =
    is_of_words f ≡ false
    → Agrees (loongarch_form f) (LoongArchReady f is_signed)
    (loongarch_reads f is_signed) bits bounds a

abbrev pub SizeAgrees : Bool → RowSize → Option (ℤ × ℤ) → ℕ → Type 0
SizeAgrees is_signed (ByteSize n) bounds a = ⊤
SizeAgrees is_signed (BitMasking bits insn) bounds a =
    InstructionAgrees is_signed insn bits bounds a

-- the row of a relocation whose instruction reads a LoongArch immediate so
abbrev pub AgreesBy : Bool → RowInfo → Type 0
AgreesBy is_signed row = SizeAgrees is_signed row.size row.range.bounds row.alignment

-- the same of the values that can be written, in place of those in the row's range
abbrev pub AgreesInReach : Bool → RowInfo → Type 0
AgreesInReach is_signed row = SizeAgrees is_signed row.size (reach_of row) row.alignment

-- the row of a relocation
abbrev pub RowAgrees : RowInfo → Type 0
RowAgrees row = AgreesBy false row × AgreesInReach false row

-- the row of a LoongArch relocation
abbrev pub LoongArchRowAgrees : LoongArch64Relocation → RowInfo → Type 0
LoongArchRowAgrees name row =
    AgreesBy (reads_signed name) row × AgreesInReach (reads_signed name) row

-- ---- fields

-- Bits `start` up, below `end`, are some of a value's 64, and the form takes them of every value,
-- whatever its window holds.
pub record TakesBits (form : Form) (bits : BitRange) : Type 0 where
  pub some : bits.start < bits.end
  pub inside : bits.end ≤ 64
  pub narrow : (before : ℕ) → bits.end - bits.start ≤ form.width before
  pub fits : (v before : ℕ) → Fits form (field v bits.start bits.end) before

abbrev pub SizeFits : RowSize → Type 0
SizeFits (ByteSize n) = ⊤
SizeFits (BitMasking bits insn) = TakesBits (relocation_form insn) bits

-- the bits that a row names fit its form, and a value can be divided by its alignment
pub record RowFits (row : RowInfo) : Type 0 where
  pub size : SizeFits row.size
  pub aligned : 0 < row.alignment
