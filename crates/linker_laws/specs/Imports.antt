-- The names of other crates that several files of definitions here use.
pub use Rattle.linker_base.specs.Bits.{field, signed}
pub use Rattle.linker_base.specs.Rewrite.{IsRewritable, Rewrite, offset_after, rewritten}
pub use Rattle.linker_elf.specs.Applied.{IsApplied}
pub use Rattle.linker_elf.specs.LoongArch.{loongarch_form, page, pcalau12i, reach, upper_and_lower_value}
pub use Rattle.linker_elf.specs.LoongArchRelocations.{loongarch_row}
pub use Rattle.linker_elf.specs.Ppc64.{ppc64_form}
pub use Rattle.linker_elf.specs.Relocate.{is_jirl, is_movk, number_of_bytes, ppc64_reads}
pub use Rattle.linker_elf.specs.RiscV.{riscv_form}
pub use Rattle.linker_elf.specs.RiscVRelocations.{clui_row, riscv_relocation, riscv_row}
pub use Rattle.linker_elf.specs.Value.{difference_64, sum_64}
pub use Rattle.linker_elf.specs.X86Relocations.{x86_64_row}
pub use Rattle.linker_elf.specs.declared.aarch64.forms.AArch64Instruction.TheVariants.{Add, Adr, Bcond, JumpCall, LdSt, Ldr, LdrRegister, Movkz, Movnz, TstBr}
pub use Rattle.linker_elf.specs.declared.elf.RowInfo.{RowInfo}
pub use Rattle.linker_elf.specs.declared.elf.value.Operands.{Operands}
pub use Rattle.linker_elf.specs.declared.loongarch64.forms.LoongArch64Instruction.TheVariants.{Branch21, Branch26, Shift10, Shift5}
pub use Rattle.linker_elf.specs.declared.ppc64.forms.Ppc64Form.{Ppc64Form}
pub use Rattle.linker_elf.specs.declared.ppc64.forms.Ppc64Form.TheVariants.{Branch14, Branch24, D, Ds, Prefixed}
pub use Rattle.linker_elf.specs.declared.ppc64.relocations.Ppc64Relocation.{Ppc64Relocation}
pub use Rattle.linker_elf.specs.declared.riscv64.forms.RiscVInstruction.TheVariants.{BType, CbType, CjType, CluiType, IType, JType, SType, UType, UiType}
pub use Rattle.linker_elf.specs.declared.riscv64.relocations.RiscVRelocation.{RiscVRelocation}
pub use Rattle.linker_elf.specs.declared.x86_64.relocations.X86_64Relocation.{X86_64Relocation}
pub use Rattle.std.specs.Int.{bit_at, byte_at, cast_signed, cast_unsigned, from_le_bytes, int_rem_euclid, w16, w32, w64}
pub use Rattle.std.specs.Option.{unwrap_or}
