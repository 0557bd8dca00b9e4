-- The names of definitions and of other crates that several files of proofs here use.
pub use Rattle.linker_base.specs.Bits.{field, signed}
pub use Rattle.linker_base.specs.Form.{bits_to}
unfoldable pub use Rattle.linker_base.specs.Form.{place_sum}
pub use Rattle.linker_elf.specs.AArch64Relocations.{aarch64_name, aarch64_row}
pub use Rattle.linker_elf.specs.Architectures.{IsNamedValue, IsRow}
pub use Rattle.linker_elf.specs.LoongArchRelocations.{loongarch_name, loongarch_row}
pub use Rattle.linker_elf.specs.Ppc64.{ppc64_form}
pub use Rattle.linker_elf.specs.Ppc64Relocations.{ppc64_name, ppc64_row}
pub use Rattle.linker_elf.specs.Relocate.{InstructionWritten, IsAccepted, IsCause, RejectsValue, WritesRow, is_supported, low_bytes, number_of_bytes, size_len, window_len}
pub use Rattle.linker_elf.specs.RiscV.{riscv_form}
pub use Rattle.linker_elf.specs.RiscVRelocations.{riscv_name, riscv_relocation}
pub use Rattle.linker_elf.specs.Value.{difference_64, sum_64, value_of}
pub use Rattle.linker_elf.specs.X86Relocations.{x86_64_name, x86_64_row}
pub use Rattle.linker_elf.specs.declared.elf.RelocationKind.TheVariants.{Relative, RelativeRiscVLow12}
pub use Rattle.linker_elf.specs.declared.elf.RowInfo.{RowInfo}
pub use Rattle.linker_elf.specs.declared.elf.architecture.Architecture.{Architecture}
pub use Rattle.linker_elf.specs.declared.elf.architecture.Architecture.TheVariants.{AArch64, LoongArch64, RiscV, X86_64}
pub use Rattle.linker_elf.specs.declared.elf.relocate.RelocateError.{RelocateError}
pub use Rattle.linker_elf.specs.declared.elf.value.Operands.{Operands}
pub use Rattle.linker_elf.specs.declared.ppc64.forms.Ppc64Form.TheVariants.{Branch24, D, Ds, Prefixed}
pub use Rattle.linker_elf.specs.declared.riscv64.forms.RiscVInstruction.TheVariants.{IType, UType}
pub use Rattle.linker_laws.proofs.AArch64Pairs.{adds_pair, adds_up, loads}
pub use Rattle.linker_laws.proofs.AArch64Words.{IsAdrOf, IsInstructionOf, add_after, adrp_after, field_kept, ldr_after, of_registers}
pub use Rattle.linker_laws.proofs.LoongArchWords.{IsHigh, IsLow, decodes_load, decodes_sum, high_after, low_after}
pub use Rattle.linker_laws.proofs.Ppc64Addresses.{reads_ds, same_parts}
pub use Rattle.linker_laws.proofs.RiscVDescriptors.{load_word, low_long, sum_word, upper_long, upper_word, whole_number}
pub use Rattle.linker_laws.proofs.RiscVMachine.{address_is, at_second, at_start, fetched_word, moved_twice, other, steps, times_one, unwritten, wrapped_is}
pub use Rattle.linker_laws.proofs.Sums.{sum_zero, three_words}
pub use Rattle.linker_laws.proofs.X86Fields.{place_field, signed_field}
pub use Rattle.linker_laws.specs.AArch64RelocationLaws.{Fields, RelativeAddresses, page_and_offset}
pub use Rattle.linker_laws.specs.Machine.{AreBytes, Memory, Relocated, loaded, moved, stored, wrapped}
pub use Rattle.linker_laws.specs.Ppc64RelocationLaws.{Branches, Prefixes, TocAddresses}
pub use Rattle.linker_laws.specs.Ppc64Groups.{prefixed_of, word_of}
pub use Rattle.linker_laws.specs.Schemes.{AreAddresses, IsAddress, entry_and_addend, symbol_address}
pub use Rattle.linker_output.specs.AArch64Output.{aarch64_output}
pub use Rattle.linker_output.specs.Inner.Placement.{AreLists, ArePlaces, AreServed, AreStubsOf, HasNoneAt, HasOwner, IsAt, IsLostBy, IsNear, IsNearIn, IsNew, IsNewNear, IsOutAfter, IsOutAhead, IsOutThere, IsServedBy, IsState, IsStubAt, IsStubOf, IsStuckIn, IsWay, SameStubs, StaysUnshared, Visited, level, level_of, list_at, new_stub, new_way, way_at, with_one}
unfoldable pub use Rattle.linker_output.specs.Inner.Placement.{bytes_before, list_of}
pub use Rattle.linker_output.specs.Inner.Properties.{AreSlim, IsSlim, IsWritable, Puts, put_all}
pub use Rattle.linker_output.specs.Inner.Relr.{Leaves, capped, is_past, words_from, words_of}
pub use Rattle.linker_output.specs.Layout.{Run, own_word, path_in, run_word, spacing_with}
pub use Rattle.linker_output.specs.LazyPlt.{IsPiece, WritesPieces, header_places, operands_at, piece_len, pieces_len, target_at}
pub use Rattle.linker_output.specs.LazyPlts.{aarch64_entry, aarch64_header, aarch64_landing_entry, aarch64_landing_header, aarch64_loads, aarch64_wide_entry, fixed, loongarch_entry, padded, riscv_entry, x86_64_entry, x86_64_landing_entry, x86_64_onward}
pub use Rattle.linker_output.specs.LazyRuns.{continue_by, or_else, run_by, words}
pub use Rattle.linker_output.specs.Placement.{AllGo, AreOfTwo, AreTwo, AreUsed, Goes, HasNoFar, HasPart, HasSpare, HasTarget, IsCode, IsFar, IsFarFrom, IsFirst, IsLaidOut, IsLayout, IsNextTo, IsShared, IsStuck, Reaches, ReachesAt, StubReaches, at, branch_at, end_of, group_at, most_bytes, part_of, passed, place_in, place_of, start_of, stub_at, stubs_in, target_place}
pub use Rattle.linker_output.specs.Ppc64Output.{blr, by_prefixed, by_toc, jump_to_r12, load_link, mtlr_0, of_vectors, ppc64_output, save_link}
pub use Rattle.linker_output.specs.Ppc64Stubs.{Counted, at_count, is_mflr, is_mtctr, is_mtlr, lifted, linked, moved_from_link, moved_to_link, run, run_prefixed, step_counted, stepped, with_state}
pub use Rattle.linker_output.specs.Properties.{Merges, MergesAlike, WritesMerged, WritesNote, WritesRead, are_ascending, before, fits, followed, is_header, list_words, merged, merged_by, merged_kind, merged_to, merged_with, note_words, of_kind, of_value, properties_of, property_at, property_words, rule_of, same_value, size_of, start, unless_zero, value_words, visit, visit_by, visit_note, visit_property, with_words, word_at, words_by}
unfoldable pub use Rattle.linker_output.specs.Properties.{bytes_of, read}
pub use Rattle.linker_output.specs.Relr.{Packs, RejectsAddresses, RejectsWords, Unpacks, WritesPacked, address_fault, are_addresses, relocated, relr_fault, word_fault}
unfoldable pub use Rattle.linker_output.specs.Relr.{marked}
pub use Rattle.linker_output.specs.Routes.{IsObstacle, by_jump, by_reach, has_no_toc, has_toc, loses_toc, stub_target}
pub use Rattle.linker_output.specs.Stubs.{AppliesAt, IsValueCause, RejectsField, StubCode, WritesField, WritesPair, WritesStub, offset_in, operands_of}
pub use Rattle.linker_output.specs.Tables.{code_of_words, field_of, field_of_32}
pub use Rattle.linker_output.specs.View.{view_list, view_paths, view_stub}
pub use Rattle.linker_output.specs.declared.lazy_plt.LazyEntry.{LazyEntry}
pub use Rattle.linker_output.specs.declared.lazy_plt.LazyField.{LazyField}
pub use Rattle.linker_output.specs.declared.lazy_plt.LazyPiece.{LazyPiece}
pub use Rattle.linker_output.specs.declared.lazy_plt.LazyTarget.TheVariants.{Header, Index, Word}
pub use Rattle.linker_output.specs.declared.placement.Branch.{Branch}
pub use Rattle.linker_output.specs.declared.placement.Code.{Code}
pub use Rattle.linker_output.specs.declared.placement.Group.{Group}
pub use Rattle.linker_output.specs.declared.placement.Layout.{Layout}
pub use Rattle.linker_output.specs.declared.placement.Part.{Part}
pub use Rattle.linker_output.specs.declared.placement.Part.TheVariants.{Back, Front, Middle}
pub use Rattle.linker_output.specs.declared.placement.Placement.{Placement}
pub use Rattle.linker_output.specs.declared.placement.State.{State}
pub use Rattle.linker_output.specs.declared.placement.StubAt.{StubAt}
pub use Rattle.linker_output.specs.declared.placement.StubShape.{StubShape}
pub use Rattle.linker_output.specs.declared.placement.Way.{Way}
pub use Rattle.linker_output.specs.declared.placement.Way.TheVariants.{Direct, Far, Near}
pub use Rattle.linker_output.specs.declared.properties.Property.{Property}
pub use Rattle.linker_output.specs.declared.properties.PropertyError.{PropertyError}
pub use Rattle.linker_output.specs.declared.properties.PropertyRule.{PropertyRule}
pub use Rattle.linker_output.specs.declared.properties.PropertyRule.TheVariants.{All, Any, AnyOfAll, Largest, Present, Same}
pub use Rattle.linker_output.specs.declared.properties.Reading.{Reading}
pub use Rattle.linker_output.specs.declared.relr.RelrError.{RelrError}
pub use Rattle.linker_output.specs.declared.relr.RelrError.TheVariants.{TooShort}
pub use Rattle.linker_output.specs.declared.stubs.StubField.{StubField}
pub use Rattle.linker_utils.specs.LoongArchRewrites.{IsCall, rd_of, rj_of}
pub use Rattle.linker_utils.specs.Ppc64Rewrites.{opcode_of, ra_of, rt_of}
pub use Rattle.std.proofs.Common.{Bool, Err, IfErr, IfNone, IfOk, IfSome, IsSomeAnd, IsTrue, List, None, Ok, OnOk, Option, Result, Some, [], add-one, ap, append_assoc, arith, below_more, bit_and, bit_or, codes, cond, drop, eqb, false, get_or, get_or-set_other, get_or-set_same, if◌then◌else◌, inl, inr, length, max, min, nat_eq, nat_le, nat_lt, negsuc, not, pos, refl, replicate, rules, set, slice_get, slice_index_or, subst, suc, sym, take, true, zero, ℕ, ℤ, ⊎_elim, ◌%◌, ◌&&◌, ◌*ℤ◌, ◌*◌, ◌++◌, ◌+ℤ◌, ◌+◌, ◌-◌, ◌/◌, ◌<◌, ◌==◌, ◌^◌, ◌||◌, ◌↔◌, ◌∙◌, ◌∷◌, ◌≡◌, ◌≢◌, ◌≤◌, ◌⊎◌}
pub use Rattle.std.proofs.Math.Facts.{Fits-lt-pow}
pub use Rattle.std.proofs.Math.Nat.{mul-le-mul_left}
pub use Rattle.std.proofs.Math.Seq.{drop-append-add, take-append_seam}
pub use Rattle.std.proofs.lemmas.Bool.{both_ways, cases_Bool, cases_lt, cases_order, cond-false, cond-true, eq-eqb, eqb-true, false≢true, le-leb, le-ltb, leb-false, leb-true, lt-leb, lt-ltb, ne_eqb, or_parts}
pub use Rattle.std.proofs.lemmas.Bool.Decides.{nat_tests}
pub use Rattle.std.proofs.lemmas.Int.{ints}
pub use Rattle.std.proofs.lemmas.List.{append-nil, at_drop_all, at_drop_more, drop-drop, drop-set-lt, drop_all, drop_at, drop_more, get_or_append_left, get_or_past, get_or_push, get_or_read, length-append, length-drop, length-set, length-take, length-take-le, length_push, take-append-drop, take-append-le, take-take, take_all, take_at, take_more_set, take_rest, with_items_is}
pub use Rattle.std.proofs.lemmas.List.Sums.{get_or-le-sum_by, prefix_len-le-length, prefix_len_is, prefix_len_passes, prefix_len_stops, sum_by-cons, sum_by-set, sum_by-take-le, sum_by_more}
pub use Rattle.std.proofs.lemmas.Nat.{and_assoc, and_comm, from_le_bytes-to_le_bytes_8, or_comm}
pub use Rattle.std.proofs.lemmas.Nat.Bits.{bit_at-zero, bit_at_above, bit_at_and, bit_at_lowest, bit_at_or, bit_at_set_other, bit_at_set_same, same_from_bits, shr_and_one}
pub use Rattle.std.proofs.lemmas.Result.{IfOk-weaker, err_from_is_err_and}
pub use Rattle.std.specs.Global.{Vec}
pub use Rattle.std.specs.Int.{bit_at, byte_at, cast_signed, cast_unsigned, from_le_bytes, to_le_bytes, w32, w64}
pub use Rattle.std.specs.List.{list_all, sum_by}
pub use Rattle.std.specs.Prelude.{option_and_then, ⊤}
