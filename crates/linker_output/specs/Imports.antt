-- The names of other crates and of types that several files of definitions here use.
pub use Rattle.linker_base.specs.Bits.{field, signed}
pub use Rattle.linker_elf.specs.Architectures.{IsRow}
pub use Rattle.linker_elf.specs.Elf.{IsAllowed, bit_bounds}
pub use Rattle.linker_elf.specs.ElfNames.{ElfName, r_type_of, text_of}
pub use Rattle.linker_elf.specs.LoongArchRelocations.{loongarch_name}
pub use Rattle.linker_elf.specs.Ppc64Relocations.{ppc64_name}
pub use Rattle.linker_elf.specs.Relocate.{IsAccepted, IsCause, number_of_bytes}
pub use Rattle.linker_elf.specs.Value.{difference_64, sum_64, value_of}
pub use Rattle.linker_elf.specs.X86Relocations.{x86_64_name}
pub use Rattle.linker_elf.specs.declared.aarch64.forms.AArch64Instruction.TheVariants.{JumpCall, Ldr}
pub use Rattle.linker_elf.specs.declared.elf.RowInfo.{RowInfo}
pub use Rattle.linker_elf.specs.declared.elf.architecture.Architecture.{Architecture}
pub use Rattle.linker_elf.specs.declared.elf.architecture.Architecture.TheVariants.{AArch64, LoongArch64, Ppc64, RiscV, X86_64}
pub use Rattle.linker_elf.specs.declared.elf.relocate.RelocateError.{RelocateError}
pub use Rattle.linker_elf.specs.declared.elf.relocate.RelocateError.TheVariants.{OutOfReach, Unsupported}
pub use Rattle.linker_elf.specs.declared.elf.value.Operands.{Operands}
pub use Rattle.linker_elf.specs.declared.ppc64.forms.Ppc64Form.TheVariants.{Branch24}
pub use Rattle.linker_laws.specs.Machine.{AreBytes, Memory, loaded, moved, stored, word_of, wrapped}
pub use Rattle.linker_laws.specs.Ppc64Machine.{Formats, State, base, go_on, go_to, indexed_address, next_pc, step, step_prefixed, store, with_number, write}
pub use Rattle.linker_output.specs.declared.flags.FlagRules.{FlagRules}
pub use Rattle.linker_output.specs.declared.got.GotHeader.TheVariants.{Base, Dynamic}
pub use Rattle.linker_output.specs.declared.got.ThreadPointer.TheVariants.{AboveImage, BelowImage}
pub use Rattle.linker_output.specs.declared.layout.CodeUnit.{CodeUnit}
pub use Rattle.linker_output.specs.declared.layout.SymbolPlace.TheVariants.{Got, SmallData, ThreadLocal}
pub use Rattle.linker_output.specs.declared.lazy_plt.LazyEntry.{LazyEntry}
pub use Rattle.linker_output.specs.declared.lazy_plt.LazyPiece.{LazyPiece}
pub use Rattle.linker_output.specs.declared.lazy_plt.LazyTarget.TheVariants.{Header, Index, Word}
pub use Rattle.linker_output.specs.declared.lazy_plt.LazyWord.{LazyWord}
pub use Rattle.linker_output.specs.declared.placement.Branch.{Branch}
pub use Rattle.linker_output.specs.declared.placement.Code.{Code}
pub use Rattle.linker_output.specs.declared.placement.Group.{Group}
pub use Rattle.linker_output.specs.declared.placement.Part.{Part}
pub use Rattle.linker_output.specs.declared.placement.StubShape.{StubShape}
pub use Rattle.linker_output.specs.declared.properties.Property.{Property}
pub use Rattle.linker_output.specs.declared.properties.PropertyError.{PropertyError}
pub use Rattle.linker_output.specs.declared.properties.PropertyError.TheVariants.{CutOff, Differs, NotAscending, NotProperties, TooLarge, TooMany, TooShort, Unknown, WrongSize}
pub use Rattle.linker_output.specs.declared.properties.PropertyRule.{PropertyRule}
pub use Rattle.linker_output.specs.declared.stubs.StubError.{StubError}
pub use Rattle.linker_output.specs.declared.stubs.StubField.{StubField}
pub use Rattle.linker_output.specs.declared.stubs.StubKind.{StubKind}
pub use Rattle.linker_output.specs.declared.stubs.StubKind.TheVariants.{FarRelative, Jump, LandingLoad, Load, PrefixedJump, PrefixedLoad, TocFar, TocLoad}
pub use Rattle.linker_output.specs.declared.tags.DynamicTag.{DynamicTag}
pub use Rattle.linker_output.specs.declared.tags.TagRule.{TagRule}
pub use Rattle.linker_output.specs.declared.tags.TagRule.TheVariants.{LandingPlt, LazyPlt, Options, SignedPlt, VariantCalls}
pub use Rattle.linker_section.specs.declared.needed.EntryClass.TheVariants.{Address, Descriptor, Module, ModuleOffset, ThreadOffset}
pub use Rattle.linker_utils.specs.Ppc64Rewrites.{HasTwo, opcode_of, ra_of, rb_of, rt_of}
pub use Rattle.std.specs.Int.{bit_at, cast_unsigned, from_le_bytes, to_le_bytes, w32, w64}
pub use Rattle.std.specs.List.{list_all, prefix_len, sum_by}
