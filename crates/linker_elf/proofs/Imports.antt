-- The names of other crates that several files of proofs here use.
pub use Rattle.linker_base.proofs.Bits.{high_mask_keeps, low_mask_keeps, signed_bits}
pub use Rattle.linker_base.proofs.ConsecutiveBits.{consecutive_bits_all, consecutive_bits_sum}
pub use Rattle.linker_base.proofs.Fields.{bit_at_mod, bit_at_mod_above, bit_at_shl, bit_at_shl_below, bit_at_shr, mod_mod, same_fields, signed_rem}
pub use Rattle.linker_base.proofs.Immediates.{always_clear, bit_looked_up, field_machine, fills, high_of, is_sound_layout, laid_field, layout_laid, layout_machine, none_ored, number_rem, place_sum_below, place_sum_laid, place_sum_placed, sound_field, subst_below, values_apart_fills}
pub use Rattle.linker_base.proofs.Pairs.{added, part_aligned, signed_cases}
pub use Rattle.linker_base.proofs.Parts.{ArePlaced, all_replaced, ored_kept, part_laid}
pub use Rattle.linker_base.proofs.Places.{adds, bit_at-place_sum, sums, value_bit}
pub use Rattle.linker_base.specs.Bits.{field, signed}
pub use Rattle.linker_base.specs.Form.{BitsWritten, Field, Fits, ImmediateBit, IsClear, IsReadBack, IsSameModulo, Layout, MachineReads, Mark, Sign, Written, bit_for, bits_to, cleared, consecutive_bits, form_of, is_clear_at, is_of, is_placed, number_of, one_field, or_bits_to, ored, own_form, place_sum, placed_bit, replaced, twos_complement, unsigned, values_apart, values_below, window_of}
pub use Rattle.linker_base.specs.declared.bit_misc.BitRange.{BitRange}
pub use Rattle.linker_elf.specs.AArch64.{aarch64_form, aarch64_layout, access_scale, imm16_places, low12_places, macho_low12, move_opcode, moved_bits, moved_value, movn_opcode, movnz, movz_opcode, opcode_of, shift_of}
pub use Rattle.linker_elf.specs.AArch64Relocations.{aarch64_name, aarch64_row}
pub use Rattle.linker_elf.specs.Agrees.{AgreesBy, AgreesInReach, InstructionAgrees, IsFieldOf, IsSameIn, LoongArchRowAgrees, RowAgrees, RowFits, SizeAgrees, SizeFits, TakesBits, aarch64_reads, bits_from, is_of_halves, is_of_words, reads_signed}
pub use Rattle.linker_elf.specs.Architectures.{IsNamedValue, IsRow}
pub use Rattle.linker_elf.specs.Bounds.{last_within, least_within}
pub use Rattle.linker_elf.specs.Choices.{AllHold, Applies, Condition, ConditionHolds, Entry, IsFirst, bound, changed_toc, choice, class32, compressible, executable, facts_on, fixed_address, fixed_distance, got_high_part, group_fits, label_marked, local_exec_base, marked, operands_before, private_base, weak_zero, with_group, without_plt}
pub use Rattle.linker_elf.specs.Elf.{IsWithin, bit_bounds, relocation_form, relocation_layout}
pub use Rattle.linker_elf.specs.ElfNames.{ElfName, IsNameOf, IsNamed, named, r_type_of, text_of, unnamed}
pub use Rattle.linker_elf.specs.Entries.{DependsOn, Ignores, IsGotAnswer, IsPltAnswer, is_branch, is_of_high_part, with_got_entry, with_plt_entry}
pub use Rattle.linker_elf.specs.Inner.ChoiceTables.{AreEqualities, AreSampled, EntryApplies, IsChoiceAt, IsFirstOf, IsTableOf, ValuesHold, addend_condition, conditions_of, fact_conditions, facts_hold, is_held, seldom_facts_hold, value_conditions, with_fact}
pub use Rattle.linker_elf.specs.Inner.FormLaws.{aarch64_restored, loongarch_restored, low12_field, low12_sound, ppc64_restored, riscv_restored, scale_small}
pub use Rattle.linker_elf.specs.Inner.RowTables.{IsEntryOf, IsSound, addend_bits, bytes_of, cleared_by, entry_of_terms, formula_of, has_plan, info_of, is_over, is_plain, is_set, is_unit, is_word, of_entry, plan_for, plan_of, plan_window, plt_of, raw_info_in, signed_in, symbol_of, takes_all, terms_of, tests_of, with_raw_kind}
pub use Rattle.linker_elf.specs.Inner.Runs.{bits_of, code_of, comes_from, is_laid, laid, moved, moves_places, none_from, none_to, one_from, one_to, reads, steps_fit, width_of, words_below, writes}
pub use Rattle.linker_elf.specs.LoongArch.{IsCallBy, IsDistanceModulo, IsKeptOutside, IsSetAt, MakesAddress, Reaches, ReadsLow, call30_field, call36_high, call36_low, has_16_bits, high_correction, high_distance, instruction, jirl_imm, loongarch_form, loongarch_layout, page, pcaddu18i_imm, reach, shift10_imm16, shift10_low}
pub use Rattle.linker_elf.specs.LoongArchRelocations.{loongarch_name, loongarch_raw_row, loongarch_relocation, loongarch_row}
pub use Rattle.linker_elf.specs.Ppc64.{IsPairDistance, KeepsHigh, PairHolds, pair, ppc64_form, ppc64_layout}
pub use Rattle.linker_elf.specs.Ppc64Relocations.{ppc64_name, ppc64_relocation, ppc64_row}
pub use Rattle.linker_elf.specs.Reach.{aarch64_reach, call36_bounds, clui_bounds, loongarch_reach, ppc64_reach, reach_of, reach_of_size, riscv_pair_bounds, riscv_reach}
pub use Rattle.linker_elf.specs.Readings.{InstructionReadsAs, LoongArchReads, LoongArchRowReadsNoOther, ReadsNoOther, RiscVReads, RowReadsNoOther, SizeReadsNoOther, reads_more}
pub use Rattle.linker_elf.specs.Relocate.{CompletesHigh, HoldsBits, InstructionHolds, InstructionReads, InstructionWritten, IsAccepted, IsAligned, IsEncoded, IsInReach, IsInUnits, IsInWords, IsMultiple, IsReached, IsWritten, LoongArchHolds, MoveReads, Ppc64Holds, ReachesValue, RiscVHolds, SizeHolds, SizeNumber, SizeReads, WritesRow, bits_at, bits_taken, clearing, insn_at, is_32_bit_move, is_call30, is_dq_form, is_low_jump, is_movk, is_of_uleb128, is_supported, low_bytes, low_part, number_of_bytes, number_placed, number_written, ored_cleared, places_cleared, ppc64_reads, stays_movk, takes_size, value_at, whole_number, window_len, with_bit_31_if, with_low_4}
pub use Rattle.linker_elf.specs.RiscV.{IsPairOf, IsPairRange, PairReads, riscv_form, riscv_layout, riscv_places, ui_high, ui_low, ui_sum}
pub use Rattle.linker_elf.specs.RiscVRelocations.{clui_row, riscv_name, riscv_relocation, riscv_row}
pub use Rattle.linker_elf.specs.Rows.{Bounds, raw_row}
pub use Rattle.linker_elf.specs.Value.{bias_number, completed, difference_64, entry_addend, entry_term, formula, got_term, is_offset, lacks, lacks_entry, lacks_tls_base, loads_plt_word, masks_entry, masks_got, masks_place, masks_symbol, names_got_entry, names_plt_entry, or_no_value, page_if, place_term, plt_term, read_signed, relative_term, sequence_pc, size_term, sum_64, symbol_term, value_given, value_of}
pub use Rattle.linker_elf.specs.X86Relocations.{x86_64_name, x86_64_relocation, x86_64_row}
pub use Rattle.linker_elf.specs.declared.aarch64.forms.AArch64Instruction.{AArch64Instruction}
pub use Rattle.linker_elf.specs.declared.aarch64.forms.AArch64Instruction.TheVariants.{Adr, MachOLow12, Movkz, Movnz}
pub use Rattle.linker_elf.specs.declared.aarch64.relocations.AArch64Relocation.{AArch64Relocation}
pub use Rattle.linker_elf.specs.declared.aarch64.relocations.AArch64Relocation.TheVariants.{R_AARCH64_NONE}
pub use Rattle.linker_elf.specs.declared.elf.AnyForm.{AnyForm}
pub use Rattle.linker_elf.specs.declared.elf.AnyForm.TheVariants.{AArch64, LoongArch64, Ppc64, RiscV}
pub use Rattle.linker_elf.specs.declared.elf.RelocationKind.{RelocationKind}
pub use Rattle.linker_elf.specs.declared.elf.RelocationKind.TheVariants.{AbsoluteAddition, AbsoluteAdditionWord6, AbsoluteLowPart, AbsoluteSetWord6, AbsoluteSubtraction, AbsoluteSubtractionWord6, PltRelGotBase, PltRelative, Relative}
pub use Rattle.linker_elf.specs.declared.elf.RowInfo.{RowInfo}
pub use Rattle.linker_elf.specs.declared.elf.RowSize.{RowSize}
pub use Rattle.linker_elf.specs.declared.elf.RowSize.TheVariants.{BitMasking, ByteSize}
pub use Rattle.linker_elf.specs.declared.elf.Sign.TheVariants.{Signed, Unsigned}
pub use Rattle.linker_elf.specs.declared.elf.choice.LinkFacts.{LinkFacts}
pub use Rattle.linker_elf.specs.declared.elf.engine.Encoding.{Encoding}
pub use Rattle.linker_elf.specs.declared.elf.engine.Step.{Step}
pub use Rattle.linker_elf.specs.declared.elf.rows.TableRow.{TableRow}
pub use Rattle.linker_elf.specs.declared.elf.value.FormulaError.{FormulaError}
pub use Rattle.linker_elf.specs.declared.elf.value.Operands.{Operands}
pub use Rattle.linker_elf.specs.declared.loongarch64.forms.LoongArch64Instruction.{LoongArch64Instruction}
pub use Rattle.linker_elf.specs.declared.loongarch64.forms.LoongArch64Instruction.TheVariants.{Call30, Call36, Shift10, Shift5}
pub use Rattle.linker_elf.specs.declared.loongarch64.relocations.LoongArch64Relocation.{LoongArch64Relocation}
pub use Rattle.linker_elf.specs.declared.loongarch64.relocations.LoongArch64Relocation.TheVariants.{R_LARCH_NONE}
pub use Rattle.linker_elf.specs.declared.ppc64.forms.Ppc64Form.{Ppc64Form}
pub use Rattle.linker_elf.specs.declared.ppc64.forms.Ppc64Form.TheVariants.{D, Ds}
pub use Rattle.linker_elf.specs.declared.ppc64.relocations.Ppc64Relocation.{Ppc64Relocation}
pub use Rattle.linker_elf.specs.declared.ppc64.relocations.Ppc64Relocation.TheVariants.{R_PPC64_NONE, R_PPC64_TLS}
pub use Rattle.linker_elf.specs.declared.riscv64.forms.RiscVInstruction.{RiscVInstruction}
pub use Rattle.linker_elf.specs.declared.riscv64.forms.RiscVInstruction.TheVariants.{BType, CbType, CjType, CluiType, IType, JType, SType, UType, UiType}
pub use Rattle.linker_elf.specs.declared.riscv64.relocations.RiscVRelocation.{RiscVRelocation}
pub use Rattle.linker_elf.specs.declared.riscv64.relocations.RiscVRelocation.TheVariants.{R_RISCV_NONE}
pub use Rattle.linker_elf.specs.declared.x86_64.relocations.X86_64Relocation.{X86_64Relocation}
pub use Rattle.linker_elf.specs.declared.x86_64.relocations.X86_64Relocation.TheVariants.{R_X86_64_NONE}
pub use Rattle.std.proofs.Common.{Bool, Err, FitsSigned, IfSome, IsTrue, List, None, Ok, Option, Result, Some, [], ap, arith, bit_and, cond, drop, eqb, false, get_or, if◌then◌else◌, inl, inr, int_lt, leb, length, lit≤, ltb, map, max, nat_eq, neg_ℤ, negsuc, not, of_z, pos, pow_mono, refl, replicate, rules, slice_get, slice_index_or, subst, suc, sym, take, to_z, true, true≢false, unsigned_abs, w64, zero, ℕ, ℤ, ◌%◌, ◌&&◌, ◌*ℤ◌, ◌*◌, ◌++◌, ◌+ℤ◌, ◌+◌, ◌-ℤ◌, ◌-◌, ◌/◌, ◌<ℤ◌, ◌<◌, ◌==◌, ◌^◌, ◌||◌, ◌↔◌, ◌∙◌, ◌∷◌, ◌≡◌, ◌≢◌, ◌≤ℤ◌, ◌≤◌, ◌⊎◌}
pub use Rattle.std.proofs.Math.Nat.{div-le_self, div-lt_iff_lt-mul, mod-eq_of_lt}
pub use Rattle.std.proofs.lemmas.Bool.{agree_below, agree_below_at, and_left, and_parts, and_right, cases_Bool, cases_lt, cond-false, cond-true, cond_both, eq-eqb, eqb-true, le-leb, le-ltb, leb-true, lt-leb, lt-ltb, ltb-false, ltb-true, ne_eqb, not-true, or_cases, or_from}
pub use Rattle.std.proofs.lemmas.Int.{int_rem_euclid_is, ints, of_z-to_z, to_z-of_z, to_z_pos}
pub use Rattle.std.proofs.lemmas.List.{drop-replicate, drop-take, drop_all, get_or-map, take_all}
pub use Rattle.std.proofs.lemmas.List.Elements.{All-cons, All-drop, All-head, All-nil, All-tail, All-take}
pub use Rattle.std.proofs.lemmas.Nat.{and_assoc, and_le_l, and_le_r, and_mask, div-add-mod', mod_below, one_shl, or_comm, or_lt, or_shifted, pow-add, pow_below, pow_pos, shl-shr, shr_below}
pub use Rattle.std.proofs.lemmas.Nat.Bits.{and_high_mask, and_pow, bit_at-lt, bit_at-zero, bit_at_above, bit_at_and, bit_at_not, bit_at_or, same_from_bits, same_from_bits_below}
pub use Rattle.std.proofs.lemmas.Option.{none-some, slice_get_cases}
pub use Rattle.std.specs.Int.{bit_at, byte_len, cast_signed, cast_unsigned, from_le_bytes, int_rem_euclid, rotate_left, rotate_right, trailing_zeros, w16, w32}
pub use Rattle.std.specs.Int.Bits.{and_zero_r}
pub use Rattle.std.specs.Int.Signed.{le_z, le_z_yes}
pub use Rattle.std.specs.List.{All, list_all, range_with_len}
pub use Rattle.std.specs.Prelude.{bit_or, ⊤}
pub use denote.Enum.Declared.{Record, tag_of, values_one}
