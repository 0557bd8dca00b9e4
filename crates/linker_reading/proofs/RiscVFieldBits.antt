-- The masks of fields of RISC-V have the bits that a write of a row may change.
use Rattle.linker_reading.proofs.Imports.{BitRange, RiscV, RiscVInstruction, bit_at, instruction_mask, is_instruction_bit, refl, ℕ, ◌<◌, ◌==◌, ◌≡◌}
use Rattle.linker_elf.specs.declared.riscv64.forms.RiscVInstruction.TheVariants as riscv
use Rattle.linker_reading.proofs.Masks.{agrees}

pub riscv_agrees : (f : RiscVInstruction) (bits : BitRange) (x w : ℕ) → w < 64
    → (bit_at (instruction_mask (RiscV f) bits x) w == 1) ≡ is_instruction_bit (RiscV f) bits x w
riscv_agrees riscv.UType bits x w h = agrees 0xfffff000 (is_instruction_bit (RiscV riscv.UType) bits 0) refl w h
riscv_agrees riscv.IType bits x w h = agrees 0xfff00000 (is_instruction_bit (RiscV riscv.IType) bits 0) refl w h
riscv_agrees riscv.SType bits x w h = agrees 0xfe000f80 (is_instruction_bit (RiscV riscv.SType) bits 0) refl w h
riscv_agrees riscv.BType bits x w h = agrees 0xfe000f80 (is_instruction_bit (RiscV riscv.BType) bits 0) refl w h
riscv_agrees riscv.JType bits x w h = agrees 0xfffff000 (is_instruction_bit (RiscV riscv.JType) bits 0) refl w h
riscv_agrees riscv.CbType bits x w h = agrees 0x1c7c (is_instruction_bit (RiscV riscv.CbType) bits 0) refl w h
riscv_agrees riscv.CjType bits x w h = agrees 0x1ffc (is_instruction_bit (RiscV riscv.CjType) bits 0) refl w h
riscv_agrees riscv.CluiType bits x w h = agrees 0x107c (is_instruction_bit (RiscV riscv.CluiType) bits 0) refl w h
riscv_agrees riscv.UiType bits x w h = agrees 0xfff00000fffff000 (is_instruction_bit (RiscV riscv.UiType) bits 0) refl w h
