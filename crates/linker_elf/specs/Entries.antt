-- For which relocations a linker makes an entry: those that require a GOT entry, and those that a
-- PLT entry may serve (the sections on relocations of the psABIs, as `Value` names them).
use Rattle.linker_elf.specs.Imports.{AArch64, AArch64Instruction, AnyForm, BType, Bcond, BitMasking}
use Rattle.linker_elf.specs.Imports.{BitRange, Branch14, Branch21, Branch24, Branch26, ByteSize}
use Rattle.linker_elf.specs.Imports.{Call30, Call36, CbType, CjType, IType, JType, JumpCall}
use Rattle.linker_elf.specs.Imports.{LoongArch64, LoongArch64Instruction, Operands, Ppc64}
use Rattle.linker_elf.specs.Imports.{Ppc64Form, RiscV, RiscVInstruction, RowSize, SType, Shift10}
use Rattle.linker_elf.specs.Imports.{TstBr, UiType}
use Rattle.std.specs.Prelude.{Bool, None, Option, Some, false, true, ℕ, ◌≡◌, ◌≢◌, ◌⊎◌}
use Rattle.linker_elf.specs.LoongArch.{has_16_bits}
use Rattle.linker_elf.specs.Value.{value_of}
use Rattle.linker_elf.specs.declared.elf.RowInfo.{RowInfo}

-- ---- what a value depends on

-- operands with another GOT entry, or another PLT entry
abbrev pub with_got_entry : ℕ → Operands → Operands
with_got_entry address o = record o { got_entry = address }

abbrev pub with_plt_entry : ℕ → Operands → Operands
with_plt_entry address o = record o { plt_entry = address }

-- The value is the same wherever the entry is.
abbrev pub Ignores : (ℕ → Operands → Operands) → RowInfo → Type 0
Ignores put row =
    (o : Operands) (address : ℕ) → value_of row (put address o) ≡ value_of row o

-- Whatever the operands are, some other entry gives another value.
abbrev pub DependsOn : (ℕ → Operands → Operands) → RowInfo → Type 0
DependsOn put row =
    (o : Operands) → (address : ℕ) × (value_of row (put address o) ≢ value_of row o)

-- ---- GOT entries

-- RISC-V's low parts: their symbol labels a high part, whose value they take, so that it is the
-- high part that requires an entry
abbrev pub is_of_high_part : RowSize → Bool
is_of_high_part (BitMasking bits (RiscV IType)) = true
is_of_high_part (BitMasking bits (RiscV SType)) = true
is_of_high_part size = false

abbrev pub AsksForGot : RowInfo → Type 0
AsksForGot row = (is_of_high_part row.size ≡ false) × DependsOn with_got_entry row

abbrev pub AsksForNoGot : RowInfo → Type 0
AsksForNoGot row = (is_of_high_part row.size ≡ true) ⊎ Ignores with_got_entry row

-- ---- PLT entries

-- Branches go to the address that their value leads to, and do nothing else with it: so it may be
-- that of an entry that goes on to the symbol.
abbrev pub is_aarch64_branch : AArch64Instruction → Bool
is_aarch64_branch TstBr = true
is_aarch64_branch Bcond = true
is_aarch64_branch JumpCall = true
is_aarch64_branch f = false

abbrev pub is_riscv_branch : RiscVInstruction → Bool
is_riscv_branch BType = true
is_riscv_branch JType = true
is_riscv_branch CbType = true
is_riscv_branch CjType = true
is_riscv_branch UiType = true
is_riscv_branch f = false

abbrev pub is_ppc64_branch : Ppc64Form → Bool
is_ppc64_branch Branch14 = true
is_ppc64_branch Branch24 = true
is_ppc64_branch f = false

-- Among instructions of the form `Shift10` those with an immediate of 16 bits are branches.
abbrev pub is_loongarch_branch : LoongArch64Instruction → BitRange → Bool
is_loongarch_branch Shift10 bits = has_16_bits bits
is_loongarch_branch Branch21 bits = true
is_loongarch_branch Branch26 bits = true
is_loongarch_branch Call30 bits = true
is_loongarch_branch Call36 bits = true
is_loongarch_branch f bits = false

abbrev pub is_branch_insn : AnyForm → BitRange → Bool
is_branch_insn (AArch64 f) bits = is_aarch64_branch f
is_branch_insn (RiscV f) bits = is_riscv_branch f
is_branch_insn (Ppc64 f) bits = is_ppc64_branch f
is_branch_insn (LoongArch64 f) bits = is_loongarch_branch f bits

abbrev pub is_branch : RowSize → Bool
is_branch (ByteSize n) = false
is_branch (BitMasking bits insn) = is_branch_insn insn bits

abbrev pub MayUsePlt : RowInfo → Type 0
MayUsePlt row = (is_branch row.size ≡ true) ⊎ DependsOn with_plt_entry row

abbrev pub MayUseNoPlt : RowInfo → Type 0
MayUseNoPlt row = (is_branch row.size ≡ false) × Ignores with_plt_entry row

-- ---- what the tests return

abbrev pub IsGotAnswer : RowInfo → Bool → Type 0
IsGotAnswer row true = AsksForGot row
IsGotAnswer row false = AsksForNoGot row

abbrev pub IsPltAnswer : RowInfo → Bool → Type 0
IsPltAnswer row true = MayUsePlt row
IsPltAnswer row false = MayUseNoPlt row

-- of a name, which may have no row
abbrev pub IsAnswerOf : (RowInfo → Bool → Type 0) → Option RowInfo → Bool
    → Type 0
IsAnswerOf Is None answer = answer ≡ false
IsAnswerOf Is (Some row) answer = Is row answer
