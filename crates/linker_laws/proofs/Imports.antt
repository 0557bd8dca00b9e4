-- The names of definitions here and of other crates that several files of proofs use.
pub use Rattle.linker_base.proofs.Bits.{cast_negative}
pub use Rattle.linker_base.proofs.ConsecutiveBits.{consecutive_bits_sum}
pub use Rattle.linker_base.proofs.Fields.{bit_at_run, cast_rem, mod_mod, same_fields}
pub use Rattle.linker_base.proofs.Immediates.{always_clear, high_of, is_sound_layout, layout_laid, low_of, subst_below}
pub use Rattle.linker_base.proofs.Pairs.{signed_cases}
pub use Rattle.linker_base.proofs.Words.{word_of_front}
pub use Rattle.linker_base.specs.Bits.{field, signed}
pub use Rattle.linker_base.specs.Form.{BitsWritten, ImmediateBit, IsClear, IsSameModulo, Sign, Written, bit_for, bits_to, is_placed, number_of, or_bits_to, ored, placed_bit, replaced, twos_complement, unsigned, window_of}
unfoldable pub use Rattle.linker_base.specs.Form.{place_sum}
pub use Rattle.linker_base.specs.Rewrite.{IsRewritable, Rewrite, offset_after, replaces, rewrite_window, rewritten}
pub use Rattle.linker_base.specs.declared.bit_misc.BitRange.{BitRange}
pub use Rattle.linker_elf.proofs.AArch64Forms.{high_kept}
pub use Rattle.linker_elf.proofs.Agreement.{from_zero, layout_agrees, layout_check, le_yes, number_agrees, reaches, rem_below, rem_rem}
pub use Rattle.linker_elf.proofs.Clearing.{clear_after, same_window}
pub use Rattle.linker_elf.proofs.LoongArch.{shift10_field, shift10_low_field, shift10_low_sum, shift10_places, shift5_places}
pub use Rattle.linker_elf.proofs.LoongArchAddresses.{first_of_five, five_from, high_of_five, made, page_and_distance}
pub use Rattle.linker_elf.proofs.Relocated.{plain_written, row_reads_in_reach}
pub use Rattle.linker_elf.proofs.RowsAgree.{aarch64_rows, loongarch_rows, shift5_sum}
pub use Rattle.linker_elf.proofs.Taken.{taken_below, taken_in_units, taken_is_field}
pub use Rattle.linker_elf.specs.AArch64.{aarch64_form, aarch64_layout, imm16_places, move_opcode, moved_bits, movk_opcode, movn_opcode, movz_opcode, shift_of}
pub use Rattle.linker_elf.specs.Agrees.{AgreesInReach, IsSameIn, aarch64_reads, bits_from}
pub use Rattle.linker_elf.specs.Applied.{IsApplied}
pub use Rattle.linker_elf.specs.Choices.{RowIsWithin, ValueIsWithin, low_12_bounds, operands_after}
pub use Rattle.linker_elf.specs.Elf.{IsWithin, bit_bounds, relocation_form, relocation_layout}
pub use Rattle.linker_elf.specs.LoongArch.{call36_high, call36_low, high_distance, loongarch_form, page, pcalau12i, reach}
pub use Rattle.linker_elf.specs.LoongArchRelocations.{loongarch_row}
pub use Rattle.linker_elf.specs.Ppc64.{ppc64_form}
pub use Rattle.linker_elf.specs.Reach.{clui_bounds, reach_of}
pub use Rattle.linker_elf.specs.Relocate.{HoldsBits, InstructionWritten, IsAccepted, IsAligned, IsCompletedBy, IsEncoded, IsInUnits, IsMultiple, IsReached, IsWritten, MoveReads, RiscVHolds, SizeHolds, SizeNumber, SizeReads, bits_at, bits_taken, insn_at, is_32_bit_move, is_jirl, is_low_jump, is_movk, is_supported, low_bytes, number_of_bytes, number_placed, ored_cleared, places_cleared, ppc64_reads, stays_movk, value_at, whole_number, window_len, with_bit_31_if}
pub use Rattle.linker_elf.specs.RiscV.{riscv_form, riscv_layout, riscv_places, ui_high, ui_low}
pub use Rattle.linker_elf.specs.RiscVRelocations.{jump_row, pair_row}
pub use Rattle.linker_elf.specs.Value.{difference_64, sum_64, value_of}
pub use Rattle.linker_elf.specs.declared.aarch64.forms.AArch64Instruction.{AArch64Instruction}
pub use Rattle.linker_elf.specs.declared.aarch64.forms.AArch64Instruction.TheVariants.{Add, Adr, JumpCall, LdSt, LdrRegister, MachOLow12, Movkz, Movnz}
pub use Rattle.linker_elf.specs.declared.elf.AllowedRange.{AllowedRange}
pub use Rattle.linker_elf.specs.declared.elf.AnyForm.{AnyForm}
pub use Rattle.linker_elf.specs.declared.elf.AnyForm.TheVariants.{AArch64, LoongArch64, Ppc64, RiscV}
pub use Rattle.linker_elf.specs.declared.elf.PageMask.{PageMask}
pub use Rattle.linker_elf.specs.declared.elf.RelocationKind.{RelocationKind}
pub use Rattle.linker_elf.specs.declared.elf.RelocationKind.TheVariants.{Absolute, AbsoluteAddition, AbsoluteAdditionWord6, AbsoluteLowPart, AbsoluteSet, AbsoluteSetWord6, AbsoluteSubtraction, AbsoluteSubtractionWord6, GotRelative, GotTpOff, PltRelative, Relative, RelativeRiscVLow12, TlsDesc, TpOff}
pub use Rattle.linker_elf.specs.declared.elf.RowInfo.{RowInfo}
pub use Rattle.linker_elf.specs.declared.elf.RowSize.TheVariants.{BitMasking, ByteSize}
pub use Rattle.linker_elf.specs.declared.elf.Sign.TheVariants.{Signed}
pub use Rattle.linker_elf.specs.declared.elf.value.Operands.{Operands}
pub use Rattle.linker_elf.specs.declared.loongarch64.forms.LoongArch64Instruction.TheVariants.{Branch26, Call36, Shift10, Shift5}
pub use Rattle.linker_elf.specs.declared.loongarch64.relocations.LoongArch64Relocation.{LoongArch64Relocation}
pub use Rattle.linker_elf.specs.declared.ppc64.forms.Ppc64Form.{Ppc64Form}
pub use Rattle.linker_elf.specs.declared.ppc64.forms.Ppc64Form.TheVariants.{Branch24, D, DUnsigned, Ds, Prefixed}
pub use Rattle.linker_elf.specs.declared.ppc64.relocations.Ppc64Relocation.{Ppc64Relocation}
pub use Rattle.linker_elf.specs.declared.riscv64.forms.RiscVInstruction.{RiscVInstruction}
pub use Rattle.linker_elf.specs.declared.riscv64.forms.RiscVInstruction.TheVariants.{CjType, CluiType, IType, JType, SType, UType, UiType}
pub use Rattle.linker_elf.specs.declared.x86_64.relocations.X86_64Relocation.{X86_64Relocation}
pub use Rattle.linker_laws.specs.AArch64Groups.{BeginsRewrittenAt, Code, Descriptor, EndsInNops, Groups, Has, IsPair, OfPages, Stands, called, executed, following, link, machine, seen, with_entry}
pub use Rattle.linker_laws.specs.AArch64Machine.{add, added, adr, adr_address, adrp, adrp_address, b, bl, blr, branch_target, in_64_bits, is_adr, ldr, load_64, movk_64, next_pc, read_x, step, with_moved, write_x, write_x_or_sp}
pub use Rattle.linker_laws.specs.AArch64RelocationLaws.{got_page, movk, movn_or_movz, movz, page_and_offset}
pub use Rattle.linker_laws.specs.Chains.{Compose, both, of_chain}
pub use Rattle.linker_laws.specs.Changes.{ChangesOpen, IsKept, OthersAgree, go_to, put, with_register}
pub use Rattle.linker_laws.specs.Machine.{AreBytes, Memory, Relocated, loaded, moved, stored, wrapped}
pub use Rattle.linker_laws.specs.Ppc64RelocationLaws.{adjusted, by_quarters, unadjusted, low_half, upper_parts}
pub use Rattle.linker_laws.specs.Ppc64Groups.{IsRelocated, IsRewritten, LowHalfLeads, Use, access_number, accesses, at_place, ds_access, entry_from_toc, four_on, from_thread, from_toc, is_d_over, is_over_base, prefixed_of, prefixed_target, thread_offset, word_of}
pub use Rattle.linker_laws.specs.RiscVGroups.{AreApart, BeginsAt, HasRoom, IsLoadFromGot, IsLow12, LoadFromGot, LowPartOf, action_at, after_rewrite, continued, left, low_row, of_entry, of_place, offset_row, t0, upper, upper_from, uses, with_stored}
pub use Rattle.linker_laws.specs.RiscVGroups.AreUsed.{as_loaded, as_loaded_float, as_stored, as_stored_float, as_sum, as_target, as_whole, as_word}
pub use Rattle.linker_laws.specs.RiscVMachine.{Action, Hart, Instruction, Steps, action_of, adds, adds_word, auipc, boxed, bytes_of, cli_immediate, fetched, goes_to, i_type, jal, jumps, load_number, loads, loads_float, lui, of_clui, of_half, of_word, rs1_of, rs2_of, s_type, stores, stores_float, sums, with_action, with_float, with_integer}
pub use Rattle.linker_laws.specs.RiscVRelocationLaws.{AbsoluteAddresses, DescriptorAddresses, EntryAddresses, RelativeAddresses, ThreadAddresses, even, upper_and_low, without_bit_0}
pub use Rattle.linker_laws.specs.Schemes.{AreAddresses, IsAddress, Law, Premise, PremiseHolds, Step, entry_address, entry_and_addend, got_base, none, number_at, of_values, of_words, place, plt_address, size_and_addend, symbol_address, tls_base, without_low}
pub use Rattle.linker_laws.specs.Simulation.{Agree, AreOf, AreStored, Comparison, Covered, CoversRuns, Following, Follows, GoesOnToo, Group, IsCovered, Kind, Kinds, Link, Next, Other, Program, Simulates, State, Stops, StopsToo, anything, by_group, by_other, code, ends, group, half, of_link, other, run, same, stopping, uncovered}
pub use Rattle.linker_laws.specs.SimulationWorked.{AreRuns, IsChainWorked, all_same, case_less_base, chain, first_known, first_new, first_old, new_address, of_byte, packed, put_byte, put_out, with_byte, words}
pub use Rattle.linker_laws.specs.X86Groups.{AddsOffset, BlockOffsets, CallOfDescriptor, GeneralDynamic, HasPointer, HasThreadPointer, IsApart, IsJump, IsKnownAfter, IsLea, IsLoad, KeepsRegisters, LeaOfDescriptor, LeaToEntry, LeaToOffset, LoadsNumber, LocalDynamic, MakesOffset, ModuleCall, Reads, TakesImmediate, TakesImmediateByEvex, ThreadCall, bytes_at, does, flag, is_arithmetic, is_flag, reg_after_rex, reg_after_rex2, sets_flags, IsBefore, IsRelocatedBy, address}
pub use Rattle.linker_laws.specs.X86Machine.{ADC, ADD, AND, CMP, Decoded, MOV, OR, Operand, Operation, Prefix, SBB, SUB, TEST, Target, XOR, bit_of, call, decode, decode_modrm, decode_opcode, decode_relative, destination_of, direct, evex_modrm, evex_prefix, evex_reg, evex_rm, execute, extended, has_no_index, has_zeros, immediate, immediate_operation, indirect, into, is_evex, is_in_map_4, is_map_4, is_register, is_relative, is_rex, is_without_flags, jump, lea, lea_from, load, load_thread, logical, no_prefix, on_evex, on_immediate, operand_value, operate, operate_into, operation_of, perform, reg_of, register, relative, result, rex2_prefix, rex_prefix, rm_of, sized, store_8, through, v_register}
pub use Rattle.linker_riscv64.specs.RiscVCalls.{IsCallPair, word_at}
pub use Rattle.linker_utils.specs.AArch64Rewrites.{AreOfOneRegister, IsAdd64, IsAdrp, IsIntoOwnSource, IsLdr64, nop, rd_of, rn_of}
pub use Rattle.linker_utils.specs.Ppc64Rewrites.{access_of, addi_of_thread, addis_of_thread, by_displacement, by_word_displacement, is_access, is_add_of_thread, is_addi, is_addi_of_toc, is_addis_of_entry, is_addis_over, is_call, is_d_access, is_ds_access, is_indexed, is_indexed_any, is_indexed_word, is_ld, is_over_thread, is_pla, is_pld, is_store, is_vector_access, is_word_access, keeps_base, ld_of, li_of, move_of, opcode_of, over_base, ra_of, rb_of, registers_of, rt_of, to_move, two_words}
pub use Rattle.linker_utils.specs.X86RelocationsAfter.{x86_64_relocation_after}
pub use Rattle.linker_utils.specs.X86Rewrites.{Original, absolute, begins, byte, evex_any_v, evex_new_destination, evex_no_v, evex_operand, evex_registers, evex_same_destination, field4, general_dynamic, is_at, is_one_at, large, large_call, lea_of_descriptor, lea_rdi, legacy, legacy_or_evex, operand, original, plain, prefixed_operand, puts, rex, rex2, rex2_w, rex_w, rip_operand, with_evex, with_rex, with_rex2, x86_64_matches, x86_64_originals, x86_64_rewrite}
pub use Rattle.linker_utils.specs.declared.aarch64.rewrites.RewriteKind.TheVariants.{AddToAdr, AdrpAddToNopAdr, AdrpToAdr, AdrpX0, LdrToAdd, LdrToAdr, LdrX0, MovkX0, MovkXn, MovzX0Lsl16, MovzXnLsl16, NoOp, ReplaceWithNop}
pub use Rattle.linker_utils.specs.declared.ppc64.rewrites.RewriteKind.{RewriteKind}
pub use Rattle.linker_utils.specs.declared.x86_64.rewrites.RewriteKind.TheVariants.{JmpIndirectToRelative, SkipTlsDescCall, TlsDescToInitialExec, TlsDescToLocalExec}
pub use Rattle.std.proofs.Common.{Bool, FitsSigned, List, None, Some, add-one, add-zero, add_assoc, ap, ap₂, arith, bit_or, cond, drop, drop-cons, eqb, get_or, inl, inr, le_refl, leb, leb-false, length, lit<, lit≤, ltb, ltb-false, map, max, negsuc, pos, pred, refl, subst, subst₂, suc, suc-add, suc-le-suc, sym, take, true≢false, zero, zero-add, ℕ, ◌*ℤ◌, ◌++◌, ◌+ℤ◌, ◌+◌, ◌-ℤ◌, ◌-◌, ◌/◌, ◌<ℤ◌, ◌<◌, ◌^◌, ◌∙◌, ◌≡◌, ◌≢◌, ◌≤ℤ◌, ◌≤◌}
pub use Rattle.std.proofs.Math.Bool.{or-false}
pub use Rattle.std.proofs.Math.Nat.{mod-eq_of_lt, mul-add-mod_self_right}
pub use Rattle.std.proofs.Math.Seq.{drop-append-add, drop-append_seam, take-append-add, take-append_seam}
pub use Rattle.std.proofs.lemmas.Bool.{agree_below, agree_below_at, and_parts, cases_Bool, cases_lt, cond-false, cond-true, cond_both, eq-eqb, eqb-true, false≢true, le-leb, le-ltb, leb-true, lt-ltb, ltb-true, ne_eqb, or_cases, or_from}
pub use Rattle.std.proofs.lemmas.Bool.Decides.{eqb_tells, nat_tests}
pub use Rattle.std.proofs.lemmas.Int.{int_rem_euclid_is, ints, of_z-to_z, to_z_pos}
pub use Rattle.std.proofs.lemmas.List.{append_assoc, drop-drop, drop-take, drop_at, length-drop, length-take, length-take-le, take-append-drop, take-take}
pub use Rattle.std.proofs.lemmas.List.Elements.{All-cons, All-drop, All-head, All-nil, All-tail}
pub use Rattle.std.proofs.lemmas.Nat.{and_comm, and_le_r, div-add-mod', div-mul-add, from_le_bytes-to_le_bytes_2, from_le_bytes-to_le_bytes_4, mod_below, or_shifted, pow-add, pow_pos}
pub use Rattle.std.proofs.lemmas.Nat.Bits.{bit_at-lt, bit_at_above, bit_at_and, bit_at_ones}
pub use Rattle.std.specs.Int.{bit_at, byte_at, byte_len, cast_signed, cast_unsigned, from_le_bytes, int_rem_euclid, to_le_bytes, w16, w32, w64}
pub use Rattle.std.specs.Prelude.{All, IsSome, IsSomeAnd, IsTrue, Option, [], bit_and, false, if◌then◌else◌, int_lt, is_some, min, nat_le, nat_lt, neg_ℤ, not, option_and_then, option_map, replicate, sum, true, unsigned_abs, unwrap_or, ℤ, ⊤, ◌%◌, ◌&&◌, ◌*◌, ◌==◌, ◌||◌, ◌∷◌, ◌⊎◌}
