-- Which values the machine can read of relocated instructions.
use Rattle.linker_elf.specs.Imports.{AArch64, AnyForm, BitMasking, BitRange, ByteSize, Call36}
use Rattle.linker_elf.specs.Imports.{CluiType, IType, LdSt, LoongArch64, LoongArch64Instruction}
use Rattle.linker_elf.specs.Imports.{LoongArch64Relocation, Movnz, Ppc64, RiscV, RiscVInstruction}
use Rattle.linker_elf.specs.Imports.{RowSize, SType, UType, UiType}
use Rattle.std.specs.Prelude.{Bool, false, nat_lt, ℕ, ℤ, ⊤, ◌≡◌, ◌-◌, ◌+ℤ◌, ◌⊎◌}
use Rattle.linker_elf.specs.AArch64.{shift_of}
use Rattle.linker_elf.specs.Agrees.{bits_from, aarch64_reads, loongarch_reads, reads_signed}
use Rattle.linker_elf.specs.Elf.{IsWithin}
use Rattle.linker_elf.specs.LoongArch.{reach}
use Rattle.linker_elf.specs.Ppc64.{ppc64_form}
use Rattle.linker_elf.specs.Reach.{reach_of}
use Rattle.linker_elf.specs.Relocate.{IsAligned}
use Rattle.linker_elf.specs.RiscV.{riscv_form}
use Rattle.linker_elf.specs.Rows.{Bounds}
use Rattle.linker_elf.specs.declared.elf.RowInfo.{RowInfo}

-- a high part x and a low part y add up to v
abbrev pub AddUp : RiscVInstruction → RiscVInstruction → ℕ → ℕ → ℤ → Type 0
AddUp high low x y v = (riscv_form high).machine x +ℤ (riscv_form low).machine y ≡ v

-- The machine reads v from the pair x and y, or its bits from bit s up from the instruction x.
abbrev pub RiscVReads : RiscVInstruction → ℕ → ℕ → ℕ → ℤ → Type 0
RiscVReads UType s x y v = AddUp UType IType x y v ⊎ AddUp UType SType x y v
RiscVReads IType s x y v = AddUp UType IType x y v
RiscVReads SType s x y v = AddUp UType SType x y v
RiscVReads CluiType s x y v = AddUp CluiType IType x y v ⊎ AddUp CluiType SType x y v
RiscVReads UiType s x y v = (riscv_form UiType).machine x ≡ v
RiscVReads f s x y v = (riscv_form f).machine x ≡ bits_from s v

-- the same of LoongArch, where `Call36` is a pair in one window
abbrev pub LoongArchReads : Bool → LoongArch64Instruction → ℕ → ℕ → ℤ → Type 0
LoongArchReads is_signed Call36 s x v = reach x ≡ v
LoongArchReads is_signed f s x v = loongarch_reads f is_signed x ≡ bits_from s v

-- LDR and STR of 2 to 16 bytes: the psABI allows offsets of 12 bits from the thread pointer or in a
-- TLS block, and the machine reads as many units.
abbrev pub reads_more : AnyForm → BitRange → Bool
reads_more (AArch64 LdSt) bits = nat_lt (bits.end - bits.start) 12
reads_more insn bits = false

-- The machine reads v, or its bits from the range's start up, from x and y. MOVN and MOVZ are those
-- of that shift.
abbrev pub InstructionReadsAs : Bool → AnyForm → BitRange → ℕ → ℕ → ℤ → Type 0
InstructionReadsAs is_signed (AArch64 f) bits x y v =
    (f ≡ Movnz → shift_of x ≡ bits.start) × (aarch64_reads f bits.start x ≡ bits_from bits.start v)
InstructionReadsAs is_signed (RiscV f) bits x y v = RiscVReads f bits.start x y v
InstructionReadsAs is_signed (Ppc64 f) bits x y v =
    (ppc64_form f).machine x ≡ bits_from bits.start v
InstructionReadsAs is_signed (LoongArch64 f) bits x y v = LoongArchReads is_signed f bits.start x v

-- The machine reads no aligned value out of the bounds: from no instruction of the row, and from no
-- pair that it is a half of.
abbrev pub SizeReadsNoOther : Bool → RowSize → Bounds → ℕ → Type 0
SizeReadsNoOther is_signed (ByteSize n) bounds a = ⊤
SizeReadsNoOther is_signed (BitMasking bits insn) bounds a =
    reads_more insn bits ≡ false
    → (x y : ℕ) (v : ℤ) → IsAligned a v → InstructionReadsAs is_signed insn bits x y v
    → IsWithin bounds v

-- The machine reads no other values than those within reach.
abbrev pub ReadsNoOther : Bool → RowInfo → Type 0
ReadsNoOther is_signed row = SizeReadsNoOther is_signed row.size (reach_of row) row.alignment

-- the row of a relocation
abbrev pub RowReadsNoOther : RowInfo → Type 0
RowReadsNoOther row = ReadsNoOther false row

-- the row of a LoongArch relocation
abbrev pub LoongArchRowReadsNoOther : LoongArch64Relocation → RowInfo → Type 0
LoongArchRowReadsNoOther name row = ReadsNoOther (reads_signed name) row
