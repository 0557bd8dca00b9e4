-- What a form says of an instruction, by numbers: which of its bits a write may change, and which
-- bits of its number the immediate has.
use Rattle.linker_elf.specs.Imports.{AArch64, AArch64Instruction, AnyForm, BitRange, LoongArch64}
use Rattle.linker_elf.specs.Imports.{LoongArch64Instruction, Ppc64, Ppc64Form, RiscV}
use Rattle.linker_elf.specs.Imports.{RiscVInstruction}
use Rattle.std.specs.Prelude.{Bool, false, ℕ, if◌then◌else◌}
use Rattle.linker_elf.specs.LoongArch.{has_16_bits}
use Rattle.linker_elf.specs.Relocate.{is_dq_form}
use Rattle.linker_elf.specs.declared.aarch64.forms.AArch64Instruction.TheVariants as aarch64
use Rattle.linker_elf.specs.declared.loongarch64.forms.LoongArch64Instruction.TheVariants as loongarch
use Rattle.linker_elf.specs.declared.ppc64.forms.Ppc64Form.TheVariants as ppc64
use Rattle.linker_elf.specs.declared.riscv64.forms.RiscVInstruction.TheVariants as riscv

-- ---- the bits that a write may change

-- of `Movnz` also those of the opcode but for bit 31, the size of the register
abbrev pub aarch64_mask : AArch64Instruction → ℕ
aarch64_mask aarch64.Adr = 0x60ffffe0
aarch64_mask aarch64.Movkz = 0x001fffe0
aarch64_mask aarch64.Movnz = 0x7f9fffe0
aarch64_mask aarch64.Ldr = 0x00ffffe0
aarch64_mask aarch64.LdrRegister = 0x003ffc00
aarch64_mask aarch64.Add = 0x003ffc00
aarch64_mask aarch64.LdSt = 0x003ffc00
aarch64_mask aarch64.TstBr = 0x0007ffe0
aarch64_mask aarch64.Bcond = 0x00ffffe0
aarch64_mask aarch64.JumpCall = 0x03ffffff
aarch64_mask aarch64.MachOLow12 = 0x003ffc00

abbrev pub riscv_mask : RiscVInstruction → ℕ
riscv_mask riscv.UType = 0xfffff000
riscv_mask riscv.IType = 0xfff00000
riscv_mask riscv.SType = 0xfe000f80
riscv_mask riscv.BType = 0xfe000f80
riscv_mask riscv.JType = 0xfffff000
riscv_mask riscv.CbType = 0x1c7c
riscv_mask riscv.CjType = 0x1ffc
riscv_mask riscv.CluiType = 0x107c
riscv_mask riscv.UiType = 0xfff00000fffff000

abbrev pub loongarch_mask : LoongArch64Instruction → BitRange → ℕ
loongarch_mask loongarch.Shift5 bits = 0x1ffffe0
loongarch_mask loongarch.Shift10 bits = if has_16_bits bits then 0x3fffc00 else 0x3ffc00
loongarch_mask loongarch.Branch26 bits = 0x3ffffff
loongarch_mask loongarch.Branch21 bits = 0x3fffc1f
loongarch_mask loongarch.Call30 bits = 0x7fc0001ffffe0
loongarch_mask loongarch.Call36 bits = 0x3fffc0001ffffe0

-- of the forms of one word
abbrev pub ppc64_word_mask : Ppc64Form → ℕ
ppc64_word_mask ppc64.D = 0xffff
ppc64_word_mask ppc64.Ds = 0xfffc
ppc64_word_mask ppc64.Branch14 = 0xfffc
ppc64_word_mask ppc64.Branch24 = 0x3fffffc
ppc64_word_mask ppc64.Prefixed = 0
ppc64_word_mask ppc64.DUnsigned = 0xffff

-- a word of DQ-form where one of DS-form is expected
abbrev pub is_dq_at : Ppc64Form → ℕ → Bool
is_dq_at ppc64.Ds x = is_dq_form x
is_dq_at f x = false

-- One of DQ-form keeps its lowest four bits.
abbrev pub ppc64_mask : Ppc64Form → ℕ → ℕ
ppc64_mask ppc64.Prefixed x = 0xffff0003ffff
ppc64_mask f x = if is_dq_at f x then 0xfff0 else ppc64_word_mask f

abbrev pub instruction_mask : AnyForm → BitRange → ℕ → ℕ
instruction_mask (AArch64 insn) bits x = aarch64_mask insn
instruction_mask (RiscV insn) bits x = riscv_mask insn
instruction_mask (Ppc64 insn) bits x = ppc64_mask insn x
instruction_mask (LoongArch64 insn) bits x = loongarch_mask insn bits

-- ---- the bits of its number that an immediate has; those below are 0

abbrev pub immediate_of : AnyForm → BitRange
immediate_of (AArch64 aarch64.Adr) = record { start = 0; end = 21 }
immediate_of (AArch64 aarch64.Movkz) = record { start = 0; end = 16 }
immediate_of (AArch64 aarch64.Movnz) = record { start = 0; end = 16 }
immediate_of (AArch64 aarch64.Ldr) = record { start = 0; end = 19 }
immediate_of (AArch64 aarch64.LdrRegister) = record { start = 0; end = 12 }
immediate_of (AArch64 aarch64.Add) = record { start = 0; end = 12 }
immediate_of (AArch64 aarch64.LdSt) = record { start = 0; end = 12 }
immediate_of (AArch64 aarch64.TstBr) = record { start = 0; end = 14 }
immediate_of (AArch64 aarch64.Bcond) = record { start = 0; end = 19 }
immediate_of (AArch64 aarch64.JumpCall) = record { start = 0; end = 26 }
immediate_of (AArch64 aarch64.MachOLow12) = record { start = 0; end = 12 }
immediate_of (RiscV riscv.UType) = record { start = 12; end = 32 }
immediate_of (RiscV riscv.IType) = record { start = 0; end = 12 }
immediate_of (RiscV riscv.SType) = record { start = 0; end = 12 }
immediate_of (RiscV riscv.BType) = record { start = 1; end = 13 }
immediate_of (RiscV riscv.JType) = record { start = 1; end = 21 }
immediate_of (RiscV riscv.CbType) = record { start = 1; end = 9 }
immediate_of (RiscV riscv.CjType) = record { start = 1; end = 12 }
immediate_of (RiscV riscv.CluiType) = record { start = 12; end = 18 }
immediate_of (RiscV riscv.UiType) = record { start = 0; end = 32 }
immediate_of (Ppc64 ppc64.D) = record { start = 0; end = 16 }
immediate_of (Ppc64 ppc64.Ds) = record { start = 2; end = 16 }
immediate_of (Ppc64 ppc64.Branch14) = record { start = 2; end = 16 }
immediate_of (Ppc64 ppc64.Branch24) = record { start = 2; end = 26 }
immediate_of (Ppc64 ppc64.Prefixed) = record { start = 0; end = 34 }
immediate_of (Ppc64 ppc64.DUnsigned) = record { start = 0; end = 16 }
immediate_of (LoongArch64 loongarch.Shift5) = record { start = 0; end = 20 }
immediate_of (LoongArch64 loongarch.Shift10) = record { start = 0; end = 16 }
immediate_of (LoongArch64 loongarch.Branch26) = record { start = 0; end = 26 }
immediate_of (LoongArch64 loongarch.Branch21) = record { start = 0; end = 21 }
immediate_of (LoongArch64 loongarch.Call30) = record { start = 0; end = 20 }
immediate_of (LoongArch64 loongarch.Call36) = record { start = 0; end = 36 }
