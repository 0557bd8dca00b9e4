-- The names of other crates and of types that several files of definitions here use.
pub use Rattle.linker_base.specs.Uleb.{IsUlebCause, IsUlebWritten, Uleb, uleb_number}
pub use Rattle.linker_base.specs.declared.utils.Uleb128Error.{Uleb128Error}
pub use Rattle.linker_elf.specs.Architectures.{IsRow}
pub use Rattle.linker_elf.specs.Entries.{is_branch, is_of_high_part}
pub use Rattle.linker_elf.specs.Relocate.{IsAccepted, IsCause, WritesRow, number_of_bytes, window_len}
pub use Rattle.linker_elf.specs.Value.{difference_64, is_offset, loads_plt_word, names_plt_entry, sum_64, value_of}
pub use Rattle.linker_elf.specs.declared.elf.AnyForm.TheVariants.{AArch64, LoongArch64, Ppc64, RiscV}
pub use Rattle.linker_elf.specs.declared.elf.RelocationKind.{RelocationKind}
pub use Rattle.linker_elf.specs.declared.elf.RelocationKind.TheVariants.{AbsoluteAddition, AbsoluteAdditionWord6, AbsoluteSetWord6, AbsoluteSubtraction, AbsoluteSubtractionWord6, PairSubtractionULEB128LoongArch, RelativeRiscVLow12, TpOff}
pub use Rattle.linker_elf.specs.declared.elf.RowInfo.{RowInfo}
pub use Rattle.linker_elf.specs.declared.elf.RowSize.{RowSize}
pub use Rattle.linker_elf.specs.declared.elf.RowSize.TheVariants.{BitMasking, ByteSize}
pub use Rattle.linker_elf.specs.declared.elf.architecture.Architecture.{Architecture}
pub use Rattle.linker_elf.specs.declared.elf.facts.Length.{Length}
pub use Rattle.linker_elf.specs.declared.elf.relocate.RelocateError.TheVariants.{OutOfReach, TooShort}
pub use Rattle.linker_elf.specs.declared.elf.value.Operands.{Operands}
pub use Rattle.linker_elf.specs.declared.riscv64.forms.RiscVInstruction.TheVariants.{BType, CbType, CjType, IType, JType, SType, UType}
pub use Rattle.linker_section.specs.declared.facts.Addresses.{Addresses}
pub use Rattle.linker_section.specs.declared.facts.Symbol.{Symbol}
pub use Rattle.linker_section.specs.declared.fields.Field.{Field}
pub use Rattle.linker_section.specs.declared.needed.Entry.{Entry}
pub use Rattle.linker_section.specs.declared.needed.EntryClass.{EntryClass}
pub use Rattle.linker_section.specs.declared.needed.EntryClass.TheVariants.{Address, Descriptor, Module, ModuleOffset, ThreadOffset}
pub use Rattle.linker_section.specs.declared.needed.Requirements.{Requirements}
pub use Rattle.linker_section.specs.declared.relocations.Rela.{Rela}
pub use Rattle.linker_section.specs.declared.sections.RelocationError.TheVariants.{OtherLength, Overlaps, Uleb128, Value, Write}
pub use Rattle.linker_section.specs.declared.sections.SectionError.{SectionError}
pub use Rattle.linker_section.specs.declared.values.ValueError.{ValueError}
pub use Rattle.linker_section.specs.declared.values.ValueError.TheVariants.{NeedsStub, NoEntry, NoHighPart, NoSymbol, NoTlsBase, NotAligned, UnknownType}
pub use Rattle.std.specs.Int.{cast_signed, cast_unsigned, from_le_bytes, int_rem_euclid, leading_zeros, to_le_bytes, w32, w64}
pub use Rattle.std.specs.Ordering.{int_eq}
