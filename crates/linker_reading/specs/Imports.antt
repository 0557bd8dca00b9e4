-- The names of other crates and of types that several files of definitions here use.
pub use Rattle.linker_base.specs.Bits.{field, signed}
pub use Rattle.linker_base.specs.Form.{is_placed, window_of}
pub use Rattle.linker_base.specs.Rewrite.{CanRewrite, addend_after, offset_after, rewritten}
pub use Rattle.linker_elf.specs.Choices.{Applies, Entry, IsFirst, choice}
pub use Rattle.linker_elf.specs.Elf.{bit_bounds, relocation_form}
pub use Rattle.linker_elf.specs.ElfNames.{ElfName, IsNameOf, r_type_of}
pub use Rattle.linker_elf.specs.Relocate.{WritesRow, bits_at, insn_at, is_dq_form, is_low_jump, number_of_bytes, ppc64_reads, window_len}
pub use Rattle.linker_elf.specs.Value.{bias_number, difference_64, entry_addend, got_term, masks_entry, masks_symbol, page_if, place_term, sum_64, value_of}
pub use Rattle.linker_elf.specs.declared.aarch64.forms.AArch64Instruction.TheVariants.{MachOLow12, Movnz}
pub use Rattle.linker_elf.specs.declared.elf.AnyForm.{AnyForm}
pub use Rattle.linker_elf.specs.declared.elf.AnyForm.TheVariants.{AArch64, LoongArch64, Ppc64, RiscV}
pub use Rattle.linker_elf.specs.declared.elf.RelocationKind.{RelocationKind}
pub use Rattle.linker_elf.specs.declared.elf.RelocationKind.TheVariants.{AbsoluteAdditionWord6, AbsoluteSetWord6, AbsoluteSubtractionWord6}
pub use Rattle.linker_elf.specs.declared.elf.RowInfo.{RowInfo}
pub use Rattle.linker_elf.specs.declared.elf.RowSize.{RowSize}
pub use Rattle.linker_elf.specs.declared.elf.RowSize.TheVariants.{BitMasking, ByteSize}
pub use Rattle.linker_elf.specs.declared.elf.architecture.Architecture.{Architecture}
pub use Rattle.linker_elf.specs.declared.elf.choice.Choice.{Choice}
pub use Rattle.linker_elf.specs.declared.loongarch64.forms.LoongArch64Instruction.TheVariants.{Call30, Shift10}
pub use Rattle.linker_elf.specs.declared.ppc64.forms.Ppc64Form.TheVariants.{Ds}
pub use Rattle.linker_elf.specs.declared.x86_64.relocations.X86_64Relocation.{X86_64Relocation}
pub use Rattle.linker_reading.specs.declared.fields.FieldValue.{FieldValue}
pub use Rattle.linker_reading.specs.declared.recognise.engine.Recognised.{Recognised}
pub use Rattle.linker_reading.specs.declared.recognise.fields.FieldBits.{FieldBits}
pub use Rattle.linker_reading.specs.declared.solving.Reference.{Reference}
pub use Rattle.linker_utils.specs.Relaxations.{relaxation_deleted, relaxation_matches, relaxation_rewrite}
pub use Rattle.linker_utils.specs.declared.architecture.Relaxation.{Relaxation}
pub use Rattle.linker_utils.specs.declared.x86_64.rewrites.RewriteKind.{RewriteKind}
pub use Rattle.std.specs.Int.{bit_at, byte_len, cast_signed, cast_unsigned, w64}
pub use Rattle.std.specs.Prelude.{Bool, IfNone, IfSome, IsTrue, List, None, Option, Some, [], bit_and, drop, false, length, map, min, nat_le, nat_lt, not, pos, slice_get, slice_index, slice_index_or, take, true, ℕ, ℤ, ⊤}
