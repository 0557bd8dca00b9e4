-- The names of the library, of other crates and of `specs/` that several files of proofs here use.
pub use Rattle.linker_base.proofs.Words.{word_of_front}
pub use Rattle.linker_base.specs.Bits.{field, signed}
pub use Rattle.linker_base.specs.Deltas.{RecordsDeletions, deletions_of}
unfoldable pub use Rattle.linker_base.specs.Form.{place_sum}
pub use Rattle.linker_base.specs.Rewrite.{CanRewrite, IsRewritable, Rewrite, addend_after, offset_after, replaces, rewrite_window, rewritten}
pub use Rattle.linker_base.specs.RewriteWindow.{window_of_rewrite}
pub use Rattle.linker_base.specs.declared.bit_misc.BitRange.{BitRange}
pub use Rattle.linker_elf.specs.AArch64Relocations.{aarch64_name, aarch64_row, insn_row}
pub use Rattle.linker_elf.specs.Applied.{IsApplied}
pub use Rattle.linker_elf.specs.Architectures.{IsNamedValue, IsRow}
pub use Rattle.linker_elf.specs.Choices.{AllHold, Applies, Condition, HasAddresses, IsFirst, ValueIsWithin, changed_toc, choice, entry, got_high_part, low_12_bounds, operands_after, operands_before, weak_zero}
pub use Rattle.linker_elf.specs.Elf.{IsWithin, bit_bounds}
pub use Rattle.linker_elf.specs.ElfNames.{ElfName, IsNameOf, IsNamed, r_type_of}
pub use Rattle.linker_elf.specs.LoongArch.{loongarch_form, page, pcalau12i}
pub use Rattle.linker_elf.specs.LoongArchRelocations.{high_row, loongarch_name, loongarch_row, low_row, rounded_row}
pub use Rattle.linker_elf.specs.Originals.{HasWord}
pub use Rattle.linker_elf.specs.Reach.{reach_of, riscv_pair_bounds}
pub use Rattle.linker_elf.specs.Relocate.{InstructionWritten, IsAccepted, IsWritten, Reaches, WritesRow, is_jirl, low_bytes, number_of_bytes, number_written, size_len, window_len}
pub use Rattle.linker_elf.specs.RiscV.{riscv_form}
pub use Rattle.linker_elf.specs.RiscVRelocations.{clui_row, jump_row, pair_row, riscv_name, riscv_relocation, riscv_row}
pub use Rattle.linker_elf.specs.Rows.{Bounds, aligned_row, bytes_row, entry_pages, paged_row, place_pages, signed_row, unsigned_row}
pub use Rattle.linker_elf.specs.Value.{difference_64, formula, is_offset, loads_plt_word, sum_64, symbol_term, value_of}
pub use Rattle.linker_elf.specs.declared.aarch64.relocations.AArch64Relocation.{AArch64Relocation}
pub use Rattle.linker_elf.specs.declared.elf.AnyForm.{AnyForm}
pub use Rattle.linker_elf.specs.declared.elf.RelocationKind.{RelocationKind}
pub use Rattle.linker_elf.specs.declared.elf.RelocationKind.TheVariants.{Absolute, AbsoluteLowPart, GotRelative, GotTpOff, GotTpOffGot, GotTpOffGotBase, PltRelative, Relative, RelativeRiscVLow12, SymRelGotBase, TpOff}
pub use Rattle.linker_elf.specs.declared.elf.RowInfo.{RowInfo}
pub use Rattle.linker_elf.specs.declared.elf.RowSize.{RowSize}
pub use Rattle.linker_elf.specs.declared.elf.RowSize.TheVariants.{BitMasking, ByteSize}
pub use Rattle.linker_elf.specs.declared.elf.architecture.Architecture.{Architecture}
pub use Rattle.linker_elf.specs.declared.elf.architecture.Architecture.TheVariants.{AArch64, Ppc64, RiscV, X86_64}
pub use Rattle.linker_elf.specs.declared.elf.choice.Choice.{Choice}
pub use Rattle.linker_elf.specs.declared.elf.choice.LinkFacts.{LinkFacts}
pub use Rattle.linker_elf.specs.declared.elf.value.Operands.{Operands}
pub use Rattle.linker_elf.specs.declared.loongarch64.forms.LoongArch64Instruction.TheVariants.{Branch21, Branch26, Shift10, Shift5}
pub use Rattle.linker_elf.specs.declared.loongarch64.relocations.LoongArch64Relocation.{LoongArch64Relocation}
pub use Rattle.linker_elf.specs.declared.riscv64.forms.RiscVInstruction.TheVariants.{BType, CbType, CjType, CluiType, IType, JType, SType, UType, UiType}
pub use Rattle.linker_elf.specs.declared.riscv64.relocations.RiscVRelocation.{RiscVRelocation}
pub use Rattle.linker_final.specs.AArch64Section.{Begins, ComesTo, HasFinal, IsDescriptorLeft, IsRewrittenAgain, IsRewrittenOf, Rewrites, address, at_address, at_call, at_high, at_initial, at_jump, at_load, at_local, at_low, high, load, low, object, register, rewriting, span, to_initial, to_local}
pub use Rattle.linker_final.specs.Final.{AreBytes, AreCalled, AreInTurn, AreLeft, AreLinked, AreListed, ArePhases, AreRewritten, EachPlace, HasRewritten, IsBesideAll, IsFollowed, IsLinked, IsOutside, IsPhase, IsPhaseIn, IsRewrittenByNoOther, IsWrittenByNoOther, Keeps, Known, Knows, Linked, OtherBytes, OtherFields, Place, RewritesAreGroups, RewritesNone, Rewriting, RewritingPhase, RunsAreFollowed, Section, UntouchedByOthers, UntouchedBytes, UntouchedBytesAreTheSame, UntouchedInPhase, UntouchedInstruction, UntouchedInstructions, begins, comparison, count, count_of, elsewhere, instruction_at, linked_by, offset_of, rewriting_phase, two_at, unchanged, within}
pub use Rattle.linker_final.specs.Packed.{AlignmentsHold, AreDeleted, AreRelaxedAndPacked, DeletedBytesAreGone, Goes, HasValue, HoldsIn, InstructionsAreRelocated, IsAligned, IsBefore, IsKeptInstruction, IsOfRun, IsPackCause, IsPacked, IsRewrittenAndPacked, IsSiteOf, IsSkipped, IsUnwritten, ItemsAreDeleted, KeptBytesStay, LoongArchBranchesGo, Packed, PaddingIsNops, PlacesAreRelocated, PlacesHaveAddresses, RiscVBranchesGo, Run, SectionsAreAligned, StayTogether, Stays, address_at, architecture_of, final_instruction, final_number, packed_of, padding_at, padding_len, place_of, site_after, site_bytes, site_len, site_offset, site_place, site_target}
pub use Rattle.linker_final.specs.Steps.{AllPass, made_high, made_low}
pub use Rattle.linker_final.specs.Worked.{HasGroups, IsGroupOf, IsLinkedAs, IsOfCalls, IsPhaseOf, code_at, halves, none_stays}
pub use Rattle.linker_final.specs.declared.worked.TheConstants.{AARCH64_OBJECT, AARCH64_RELOCATIONS, OUTPUT}
pub use Rattle.linker_laws.proofs.RiscVGroups.{absolute_rows, based_group, below_32, cj_goes, jal_goes, jump_group, nothing_left, puts, row_of, word_goes}
pub use Rattle.linker_laws.proofs.RiscVMachine.{address_is, fetched_word, moved_twice, written}
pub use Rattle.linker_laws.proofs.Relocated.{addresses, relocated}
pub use Rattle.linker_laws.proofs.Sums.{cast_is, difference_below, lift, sum_zero, wrapped_is}
pub use Rattle.linker_laws.proofs.Words.{put_there, same_low_two, word_below}
pub use Rattle.linker_laws.specs.Changes.{go_to, put, with_register}
pub use Rattle.linker_laws.specs.Machine.{BeginsRewritten, Relocated, loaded, moved, wrapped}
pub use Rattle.linker_laws.specs.RiscVGroups.{CallStays, DeletedLui, IsLoadFromGot, IsLow12, IsLowOffset, action_at, after_rewrite, machine, offset_row, word_of}
pub use Rattle.linker_laws.specs.RiscVRelocationLaws.{AbsoluteAddresses, even, low_load, upper_and_low, without_bit_0}
pub use Rattle.linker_laws.specs.Schemes.{Adds, AreAddresses, Computed, HoldsDistance, IsAddress, Law, Step, entry_and_addend, following, here, number_at, place, plt_address, symbol_address, thread_offset, tls_base}
pub use Rattle.linker_laws.specs.Simulation.{Agree, Comparison, Kinds, Next, Simulates, State, anything, by_group, half, of_link, same, uncovered}
pub use Rattle.linker_rewriting.proofs.AArch64Sequences.{in_phase, named_at, of_group, of_option, scope_there, sequences_are_whole, unlabelled}
pub use Rattle.linker_rewriting.proofs.Chosen.{IsChosen, choice_of, chosen_at, chosen_or_labelled}
pub use Rattle.linker_rewriting.proofs.Entries.{IsOfApplied, IsOfEntry, IsOfOne, of_entry, of_first, of_one}
pub use Rattle.linker_rewriting.proofs.LabelGroups.{one_index, ppc64_none, x86_64_none}
pub use Rattle.linker_rewriting.specs.Candidates.{IsCandidate, IsCandidateWith}
pub use Rattle.linker_rewriting.specs.Decisions.{AreDecidedIn, IsDecidedAfter, IsDecidedAlone, IsGroupDecision, IsLabelDecision, IsScopeDecision, decision_at, decision_of, deleted_of, deletions_by, is_taken, label_decision, pairs_in, rewritten_by, takes_next, takes_symbol, window_of, written_end_at, written_end_by}
pub use Rattle.linker_rewriting.specs.Facts.{RelaxContext, address_in, context, facts_at, facts_by, facts_with, link_facts, no_addresses, placed_facts, pre_layout}
pub use Rattle.linker_rewriting.specs.Groups.{IsScopeIn, aarch64_scope_in, group_stays, loongarch_scope_in, ppc64_scope_in, riscv_scope_in}
pub use Rattle.linker_rewriting.specs.Numbers.{decisions_in}
pub use Rattle.linker_rewriting.specs.Rewritten.{IsAddressRewritten, IsDescriptorRewritten, IsDone, IsLoadAt, IsLoadRewritten, IsMade, IsPartAt, IsRewrittenAs, IsRewrittenBy, IsWholeBy, relocation_after}
pub use Rattle.linker_rewriting.specs.RiscVPcrelGroups.{IsHighIn, IsLabelCandidate, far_entry, is_label_marked, is_labelled, label_facts, without_entry}
pub use Rattle.linker_rewriting.specs.declared.decisions.Decision.{Decision}
pub use Rattle.linker_rewriting.specs.declared.decisions.Decision.TheVariants.{Consumed, Kept, Rewritten, RewrittenWithSymbol}
pub use Rattle.linker_rewriting.specs.declared.decisions.Subject.{Subject}
pub use Rattle.linker_rewriting.specs.declared.groups.Scope.{Scope}
pub use Rattle.linker_rewriting.specs.declared.groups.Scope.TheVariants.{Grouped, Independent, Labelled, NotRelaxable}
pub use Rattle.linker_rewriting.specs.declared.groups.UnrelaxableGroups.{UnrelaxableGroups}
pub use Rattle.linker_rewriting.specs.declared.phases.Phase.{Phase}
pub use Rattle.linker_riscv64.specs.RiscVCalls.{IsCallPair, link_register, word_at}
pub use Rattle.linker_riscv64.specs.RiscVFields.{funct3_of, opcode_of, rd_of}
pub use Rattle.linker_runs.proofs.Sites.{operands_small}
pub use Rattle.linker_runs.specs.Deleting.{deletions_of_run}
pub use Rattle.linker_runs.specs.Packing.{IsInside, IsPackedRun, ItemBecomes, SiteBecomes, address_of, is_fixed, kept_len, nops, packed_offset, section_of}
pub use Rattle.linker_runs.specs.RiscVSites.RiscVBecomes.{call, jump, short_jump}
pub use Rattle.linker_runs.specs.declared.packing.Machine.{Machine}
pub use Rattle.linker_runs.specs.declared.packing.Machine.TheVariants.{LoongArch64}
pub use Rattle.linker_runs.specs.declared.relaxation.Item.{Item}
pub use Rattle.linker_runs.specs.declared.relaxation.Item.TheVariants.{Aligned, Site}
pub use Rattle.linker_section.proofs.Fronts.{HaveSameWindow, accepted_same, some_window}
pub use Rattle.linker_section.proofs.Rows.{one_info, one_row}
pub use Rattle.linker_section.specs.Fields.{AreApart, Composes, IsField, begins_pair, continues, ends_pair, field_end, field_len, is_of_pair, of_number, of_pair}
pub use Rattle.linker_section.specs.Needed.{entry_of}
pub use Rattle.linker_section.specs.Relocations.{relocation_at, relocation_in}
pub use Rattle.linker_section.specs.Values.{IsHighPartAt, IsLowValue, IsNoHighPart, IsValue, IsValueBy, IsValueIn, entry_address, has_value, is_auipc, is_high_kind, is_high_part, is_of_got, is_there, lacks_origin, low_by, low_operands, low_value, names_label, offset_at, operands_by, operands_in, operands_of, operands_with, own_value, target_of, value_by}
pub use Rattle.linker_section.specs.WrittenFields.{AreWritten, Found, HoldsNumber, HoldsValue, IsHeld, composed, composed_by, composed_with, field_bytes}
pub use Rattle.linker_section.specs.declared.facts.Addresses.{Addresses}
pub use Rattle.linker_section.specs.declared.facts.Symbol.{Symbol}
pub use Rattle.linker_section.specs.declared.needed.Entry.{Entry}
pub use Rattle.linker_section.specs.declared.needed.EntryClass.TheVariants.{ThreadOffset}
pub use Rattle.linker_section.specs.declared.relocations.Rela.{Rela}
pub use Rattle.linker_section.specs.declared.values.ValueError.{ValueError}
pub use Rattle.linker_section.specs.declared.values.ValueError.TheVariants.{NoEntry, NoHighPart, NoSymbol, NoTlsBase}
pub use Rattle.linker_utils.specs.Relaxations.{IsArchitectureChoice, IsUnchanged, relaxation_deleted, relaxation_no_op, relaxation_rewrite, relaxation_skipped}
pub use Rattle.linker_utils.specs.RiscVRewrites.{AppliesToRiscV, IsAuipc, IsLui, RiscVEntry, adds_low12, by_low_offset, call_to_cjal, lo12, load_to_addi, of_destination, riscv_entries, riscv_matches, riscv_rewrite, riscv_row_of, riscv_skipped, with_rs1, without_got}
pub use Rattle.linker_utils.specs.declared.aarch64.rewrites.RewriteKind.{RewriteKind}
pub use Rattle.linker_utils.specs.declared.architecture.Relaxation.{Relaxation}
pub use Rattle.std.proofs.Common.{Bool, Err, FitsSigned, IsSomeAnd, List, Ok, Result, Some, [], ap, append_assoc, ap₂, arith, cond, drop, drop-cons, eq-eqb, eqb, false, get_or, if◌then◌else◌, inl, inr, le-leb, leb, length, lit<, lit≤, ltb, nat_le, nat_lt, ne_eqb, neg_ℤ, negsuc, not, pos, refl, rules, subst, suc, sym, true, true≢false, zero, ℕ, ℤ, ◌%◌, ◌&&◌, ◌*◌, ◌++◌, ◌+ℤ◌, ◌+◌, ◌-◌, ◌/◌, ◌<ℤ◌, ◌<◌, ◌==◌, ◌^◌, ◌∙◌, ◌∷◌, ◌≡◌, ◌≢◌, ◌≤ℤ◌, ◌≤◌}
pub use Rattle.std.proofs.lemmas.Bool.{and_from, and_parts, cases_Bool, cases_eq, cases_lt, cond-false, eqb-true, le-ltb, leb-true, lt-ltb, ltb-true, or_cases, or_from, or_left, or_parts, or_right}
pub use Rattle.std.proofs.lemmas.Int.{ints, of_z-to_z, to_z-of_z}
pub use Rattle.std.proofs.lemmas.List.{drop-drop, drop-take, drop_at, ext_get_or, get_or-drop, get_or-take, get_or_past, length-append, length-drop, length-take, length-take-le, take-append-drop, take-take, take_all, take_more}
pub use Rattle.std.proofs.lemmas.List.Elements.{All-append, All-cons, All-drop, All-from_get_or, All-get_or, All-head, All-nil, All-tail, All-take, All-weaker}
pub use Rattle.std.proofs.lemmas.Nat.{div-add-mod', le_bytes_4, mod-mul-add}
pub use Rattle.std.specs.Int.{byte_at, cast_signed, cast_unsigned, from_le_bytes, int_rem_euclid, to_le_bytes, w16, w32, w64}
pub use Rattle.std.specs.List.{All, list_any}
pub use Rattle.std.specs.Option.{unwrap_or}
pub use Rattle.std.specs.Prelude.{IfErr, IsTrue, MatchOption, None, Option, bit_and, is_some, replicate, slice_get, slice_index, take, unsigned_abs, ⊤, ◌*ℤ◌, ◌||◌, ◌⊎◌}
