-- The names of other crates and of types that several files of definitions here use.
pub use Rattle.linker_base.specs.Bits.{field, signed}
pub use Rattle.linker_base.specs.Form.{Form, Written}
pub use Rattle.linker_base.specs.Rewrite.{CanRewrite, Rewrite, replaces}
pub use Rattle.linker_base.specs.declared.relaxation.RelocationModifier.{RelocationModifier}
pub use Rattle.linker_base.specs.declared.relaxation.RelocationModifier.TheVariants.{Normal, SkipNextRelocation}
pub use Rattle.linker_base.specs.declared.rewrite.DeletedBytes.{DeletedBytes}
pub use Rattle.linker_elf.specs.Choices.{Applies, Condition, ConditionHolds, Entry, Fits, IsFirst, addend, bound, changed_toc, choice, class32, compressible, entry, executable, facts_on, fixed_address, fixed_distance, got_high_part, group_fits, in_reach, in_reach_if_known, label_marked, local_exec_base, low_12, low_12_bounds, marked, operands_after, private_base, weak_zero, with_group, within, within_if_known, without_plt}
pub use Rattle.linker_elf.specs.Inner.ChoiceTables.{Tables}
pub use Rattle.linker_elf.specs.LoongArchRelocations.{loongarch_name, loongarch_row}
pub use Rattle.linker_elf.specs.Originals.{HasWord}
pub use Rattle.linker_elf.specs.Ppc64Relocations.{ppc64_name, ppc64_row}
pub use Rattle.linker_elf.specs.RiscVRelocations.{riscv_name, riscv_relocation}
pub use Rattle.linker_elf.specs.X86Relocations.{x86_64_name, x86_64_row}
pub use Rattle.linker_elf.specs.declared.aarch64.relocations.AArch64Relocation.{AArch64Relocation}
pub use Rattle.linker_elf.specs.declared.elf.RowInfo.{RowInfo}
pub use Rattle.linker_elf.specs.declared.elf.architecture.Architecture.TheVariants.{AArch64, LoongArch64, Ppc64, RiscV, X86_64}
pub use Rattle.linker_elf.specs.declared.elf.choice.Choice.{Choice}
pub use Rattle.linker_elf.specs.declared.elf.choice.LinkFacts.{LinkFacts}
pub use Rattle.linker_elf.specs.declared.elf.choice.OtherRelocation.{OtherRelocation}
pub use Rattle.linker_elf.specs.declared.loongarch64.relocations.LoongArch64Relocation.{LoongArch64Relocation}
pub use Rattle.linker_elf.specs.declared.ppc64.relocations.Ppc64Relocation.{Ppc64Relocation}
pub use Rattle.linker_elf.specs.declared.riscv64.relocations.RiscVRelocation.{RiscVRelocation}
pub use Rattle.linker_elf.specs.declared.x86_64.relocations.X86_64Relocation.{X86_64Relocation}
pub use Rattle.linker_utils.specs.declared.architecture.Relaxation.{Relaxation}
pub use Rattle.linker_utils.specs.declared.ppc64.instruction.Ppc64Instruction.TheVariants.{Branch14, Branch24, D, Ds}
pub use Rattle.linker_utils.specs.declared.x86_64.rewrites.RewriteKind.{RewriteKind}
pub use Rattle.std.specs.Int.{bit_at, cast_signed, from_le_bytes, int_div_euclid, to_le_bytes, w16, w32, w64}
pub use Rattle.std.specs.Prelude.{Bool, IfSome, IsTrue, List, None, Option, Some, [], bit_and, bit_or, drop, false, length, nat_le, nat_lt, neg_ℤ, negsuc, not, pos, slice_get, slice_index, suc, true, zero, ℕ, ℤ, ⊤}
