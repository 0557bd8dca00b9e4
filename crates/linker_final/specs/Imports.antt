-- The names of other crates that several files of definitions here use.
pub use Rattle.linker_base.specs.Bits.{field}
pub use Rattle.linker_elf.specs.Architectures.{IsRow}
pub use Rattle.linker_elf.specs.ElfNames.{IsNameOf, IsNamed, r_type_of}
pub use Rattle.linker_elf.specs.LoongArch.{five_instructions, loongarch_form, page, upper_and_lower_value}
pub use Rattle.linker_elf.specs.Relocate.{number_of_bytes, window_len}
pub use Rattle.linker_elf.specs.RiscV.{riscv_form}
pub use Rattle.linker_elf.specs.RiscVRelocations.{pair_row, riscv_name, riscv_row}
pub use Rattle.linker_elf.specs.Value.{difference_64, sum_64, value_of}
pub use Rattle.linker_elf.specs.declared.elf.RowInfo.{RowInfo}
pub use Rattle.linker_elf.specs.declared.elf.architecture.Architecture.{Architecture}
pub use Rattle.linker_elf.specs.declared.elf.architecture.Architecture.TheVariants.{AArch64, Ppc64, RiscV, X86_64}
pub use Rattle.linker_elf.specs.declared.elf.choice.Choice.{Choice}
pub use Rattle.linker_elf.specs.declared.elf.value.Operands.{Operands}
pub use Rattle.linker_elf.specs.declared.loongarch64.forms.LoongArch64Instruction.TheVariants.{Branch21, Branch26, Shift10, Shift5}
pub use Rattle.linker_elf.specs.declared.riscv64.forms.RiscVInstruction.TheVariants.{BType, CbType, CjType, JType, UType, UiType}
pub use Rattle.linker_elf.specs.declared.riscv64.relocations.RiscVRelocation.{RiscVRelocation}
pub use Rattle.linker_laws.specs.Changes.{go_to, put, with_register}
pub use Rattle.linker_laws.specs.Machine.{Relocated, loaded, moved}
pub use Rattle.linker_laws.specs.RiscVGroups.{AreBefore, AreDeleted, CallBecomes, IsLeftOut, IsLoadFromGot, IsLow12, IsLowOffset, LoadBecomes, LowPartBy, OffsetBecomes, ZeroLuiGoes, action_at, after_rewrite, low_row, offset_row, seen, upper, upper_from, uses, word_of}
pub use Rattle.linker_laws.specs.RiscVMachine.{Action, Hart, Instruction, adds, executed, fetched, jal, jumps, register, step, stores, stores_float, sums}
pub use Rattle.linker_laws.specs.RiscVRelocationLaws.{Call, EntryAddresses, Jump, Pairs, even, low_load, low_store, without_bit_0}
pub use Rattle.linker_laws.specs.Simulation.{Agree, Comparison, Covered, Group, Kinds, Link, Next, State, Stops, anything, half, of_link, run, same, uncovered}
pub use Rattle.linker_rewriting.specs.Decisions.{AreDecidedIn, IsRejectedIn, IsRejectedPlaced, decision_at, deleted_of, deletions_by, pairs_in, start_at, written_end_at}
pub use Rattle.linker_rewriting.specs.Facts.{RelaxContext, pre_layout}
pub use Rattle.linker_rewriting.specs.Groups.{loongarch_scope_in, ppc64_scope_in, riscv_scope_in}
pub use Rattle.linker_rewriting.specs.Rewritten.{AreDone, AreRelocationsAfter, IsAddressRewritten, IsDescriptorRewritten, IsLoadRewritten, OthersStay}
pub use Rattle.linker_rewriting.specs.declared.decisions.Decision.{Decision}
pub use Rattle.linker_rewriting.specs.declared.decisions.Decision.TheVariants.{Kept, Rewritten, RewrittenWithSymbol}
pub use Rattle.linker_rewriting.specs.declared.groups.Scope.TheVariants.{Grouped, NotRelaxable}
pub use Rattle.linker_rewriting.specs.declared.groups.UnrelaxableGroups.{UnrelaxableGroups}
pub use Rattle.linker_runs.specs.Choosing.{AreItems, IsRelaxation}
pub use Rattle.linker_runs.specs.Deleting.{deletions_of_run}
pub use Rattle.linker_runs.specs.Machines.{RiscV64}
pub use Rattle.linker_runs.specs.Moved.{AreMoved, IsMoved}
pub use Rattle.linker_runs.specs.Packing.{IsFirstRejected, IsInside, IsNotIn, IsPackedRun, Section, SiteBecomes, address_of, is_fixed, kept_len, nops, packed_offset, section_of}
pub use Rattle.linker_runs.specs.declared.relaxation.Item.{Item}
pub use Rattle.linker_runs.specs.declared.relaxation.Site.{Site}
pub use Rattle.linker_section.specs.Relocations.{relocation_in}
pub use Rattle.linker_section.specs.Values.{IsValue, has_value, is_there, names_label, offset_at, operands_with}
pub use Rattle.linker_section.specs.WrittenFields.{AreWritten, IsFirstFault, IsHeld}
pub use Rattle.linker_section.specs.declared.facts.Addresses.{Addresses}
pub use Rattle.linker_section.specs.declared.facts.Symbol.{Symbol}
pub use Rattle.linker_section.specs.declared.relocations.Rela.{Rela}
pub use Rattle.linker_utils.specs.declared.architecture.Relaxation.{Relaxation}
pub use Rattle.std.specs.Int.{bit_at, byte_at, cast_unsigned, from_le_bytes, int_rem_euclid, leading_zeros, to_le_bytes, w16, w32, w64}
pub use Rattle.std.specs.List.{All, list_all}
pub use Rattle.std.specs.Option.{option_map_or}
