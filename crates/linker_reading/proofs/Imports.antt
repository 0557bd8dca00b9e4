-- The names of other crates that several files of proofs here use.
pub use Rattle.linker_base.proofs.ConsecutiveBits.{consecutive_bits_sum}
pub use Rattle.linker_base.proofs.Fields.{aligned_rem, bit_at_mod, bit_at_mod_above, bit_at_run, bit_at_shl, bit_at_shl_below, bit_at_shr, mod_mod, same_fields, signed_bits}
pub use Rattle.linker_base.proofs.Immediates.{always_clear, high_of, is_sound_layout, layout_laid, low_of, place_sum_below, place_sum_laid, subst_below}
pub use Rattle.linker_base.proofs.Pairs.{signed_cases}
pub use Rattle.linker_base.proofs.Places.{sums}
pub use Rattle.linker_base.proofs.Tests.{or_first, or_second}
pub use Rattle.linker_base.specs.Bits.{field, signed}
pub use Rattle.linker_base.specs.Form.{BitsWritten, Form, ImmediateBit, IsClear, IsSameModulo, Layout, Mark, Sign, WriteKeepsOtherBits, Written, cleared, form_of, is_placed, number_of, one_field, or_bits_to, ored, own_form, place_sum, replaced, twos_complement, unsigned, window_of}
pub use Rattle.linker_base.specs.Rewrite.{offset_after, rewritten}
pub use Rattle.linker_base.specs.declared.bit_misc.BitRange.{BitRange}
pub use Rattle.linker_elf.proofs.AArch64Forms.{high_kept}
pub use Rattle.linker_elf.proofs.Agreement.{from_zero, le_yes, quotient_high, quotient_low}
pub use Rattle.linker_elf.proofs.Clearing.{clear_after, none_ored, same_window}
pub use Rattle.linker_elf.proofs.Taken.{taken_below, taken_in_units, taken_is_field}
pub use Rattle.linker_elf.specs.AArch64.{aarch64_form, aarch64_layout, access_scale, imm16_places, low12_places, move_opcode, moved_bits, moved_value, movnz, shift_of}
pub use Rattle.linker_elf.specs.Agrees.{bits_from}
pub use Rattle.linker_elf.specs.Architectures.{of_some}
pub use Rattle.linker_elf.specs.Choices.{Entry, IsFirst, choice}
pub use Rattle.linker_elf.specs.Elf.{IsWithin, bit_bounds, relocation_form, relocation_layout}
pub use Rattle.linker_elf.specs.Forms.{immediate_of, instruction_mask}
pub use Rattle.linker_elf.specs.Inner.FormLaws.{aarch64_keeps, loongarch_keeps, ppc64_keeps, riscv_keeps, scale_small}
pub use Rattle.linker_elf.specs.LoongArch.{jirl_imm, loongarch_form, pcaddu18i_imm, shift10_imm16, shift10_low}
pub use Rattle.linker_elf.specs.Ppc64.{ppc64_form}
pub use Rattle.linker_elf.specs.Relocate.{HoldsBits, InstructionWritten, IsAligned, IsInUnits, IsInWords, IsWritten, SizeNumber, WritesRow, bits_at, bits_taken, clearing, insn_at, is_32_bit_move, is_dq_form, is_jirl, is_low_jump, is_movk, is_supported, low_bytes, low_part, number_of_bytes, number_placed, number_written, ored_cleared, places_cleared, ppc64_reads, size_len, stays_movk, takes_size, value_at, whole_number, window_len, with_bit_31_if, with_low_4}
pub use Rattle.linker_elf.specs.RiscV.{riscv_form, riscv_places, ui_high, ui_low}
pub use Rattle.linker_elf.specs.Rows.{Bounds}
pub use Rattle.linker_elf.specs.Value.{bias_number, difference_64, formula, masks_got, masks_place, page_if, read_signed, sum_64, value_of}
pub use Rattle.linker_elf.specs.declared.aarch64.forms.AArch64Instruction.{AArch64Instruction}
pub use Rattle.linker_elf.specs.declared.aarch64.forms.AArch64Instruction.TheVariants.{LdSt, MachOLow12, Movkz, Movnz}
pub use Rattle.linker_elf.specs.declared.elf.AnyForm.{AnyForm}
pub use Rattle.linker_elf.specs.declared.elf.AnyForm.TheVariants.{AArch64, LoongArch64, Ppc64, RiscV}
pub use Rattle.linker_elf.specs.declared.elf.RelocationKind.{RelocationKind}
pub use Rattle.linker_elf.specs.declared.elf.RelocationKind.TheVariants.{AbsoluteAdditionWord6, AbsoluteSetWord6, AbsoluteSubtractionWord6}
pub use Rattle.linker_elf.specs.declared.elf.RowInfo.{RowInfo}
pub use Rattle.linker_elf.specs.declared.elf.RowSize.{RowSize}
pub use Rattle.linker_elf.specs.declared.elf.RowSize.TheVariants.{BitMasking, ByteSize}
pub use Rattle.linker_elf.specs.declared.elf.choice.Choice.{Choice}
pub use Rattle.linker_elf.specs.declared.loongarch64.forms.LoongArch64Instruction.{LoongArch64Instruction}
pub use Rattle.linker_elf.specs.declared.loongarch64.forms.LoongArch64Instruction.TheVariants.{Call30, Call36, Shift10, Shift5}
pub use Rattle.linker_elf.specs.declared.ppc64.forms.Ppc64Form.{Ppc64Form}
pub use Rattle.linker_elf.specs.declared.ppc64.forms.Ppc64Form.TheVariants.{Branch14, Branch24, D, Ds, Prefixed}
pub use Rattle.linker_elf.specs.declared.riscv64.forms.RiscVInstruction.{RiscVInstruction}
pub use Rattle.linker_elf.specs.declared.riscv64.forms.RiscVInstruction.TheVariants.{CluiType, UType, UiType}
pub use Rattle.linker_reading.specs.Fields.{FieldHolds, IsOfValue, IsProper}
pub use Rattle.linker_reading.specs.FieldsOfBytes.{AreSameBut, AreSameButFor, IsSameBut, is_field_bit, is_in, is_in_field, is_in_one, is_in_row, is_instruction_bit, is_size_bit, is_value_bit, kept_index}
pub use Rattle.linker_reading.specs.FoundByType.{by_type}
pub use Rattle.linker_reading.specs.Inner.Found.{AreFoundOfFirst, IsMeant, IsRepeated, choices_in}
pub use Rattle.linker_reading.specs.Inner.Masks.{bytes_mask, field_mask, number_mask, size_mask}
pub use Rattle.linker_reading.specs.Inner.Words.{AreSameFrom, IsSameWordBut}
pub use Rattle.linker_reading.specs.Reading.{IsReadBack, are_signed, bits_held, bits_of_bytes, bits_read, bits_within, bytes_read, field_read, holds_bits, holds_field, holds_some, holds_value, jump_read, least_sum, leaves_one, number_held, steps_above, up_to_sign, value_read, with_alignment, with_reach}
pub use Rattle.linker_reading.specs.Recognised.{AreDistinct, AreExactly, ArePlaced, DifferOnlyInFields, IsChosen, IsFirstPlace, IsFound, IsMade, IsOneOf, Recogniser, choices_at, choices_of, deleted_count, deleted_start}
pub use Rattle.linker_reading.specs.Solving.{HaveSameBase, Solves, address, base, has_base, is_paged, is_solvable, terms_of, terms_of_kind}
pub use Rattle.linker_reading.specs.Windows.{HasEach, IsLeastWindow, IsRecognisable}
pub use Rattle.linker_reading.specs.WrittenRows.{AreBytes, ChangesField, WrittenIsLeft, without_deleted}
pub use Rattle.linker_reading.specs.declared.fields.FieldValue.{FieldValue}
pub use Rattle.linker_reading.specs.declared.recognise.engine.Recognised.{Recognised}
pub use Rattle.linker_reading.specs.declared.recognise.fields.FieldBits.{FieldBits}
pub use Rattle.linker_utils.specs.Relaxations.{relaxation_deleted, relaxation_matches, relaxation_rewrite}
pub use Rattle.std.proofs.Common.{Bool, FitsSigned, List, None, Option, Some, [], ap, arith, bit_and, bit_or, drop, eqb, false, get_or, if◌then◌else◌, inl, inr, int_lt, leb, length, length-append, length-drop, ltb, map, max, min, neg_ℤ, negsuc, not, of_z, pos, refl, replicate, rules, set, slice_get, subst, suc, sym, take, to_z, true, unsigned_abs, w64, zero, ℕ, ℤ, ⊎_elim, ◌%◌, ◌&&◌, ◌*ℤ◌, ◌*◌, ◌++◌, ◌+ℤ◌, ◌+◌, ◌-ℤ◌, ◌-◌, ◌/◌, ◌<ℤ◌, ◌<◌, ◌==◌, ◌^◌, ◌||◌, ◌↔◌, ◌∙◌, ◌∷◌, ◌≡◌, ◌≢◌, ◌≤ℤ◌, ◌≤◌, ◌⊎◌}
pub use Rattle.std.proofs.Math.Nat.{div-eq_of_lt, div-le_self, dvd-sub, mod-add-mod, mod-eq_of_lt, mod-mod_of_dvd, mul-add-mod_self_right, mul-mod_left, zero-mod}
pub use Rattle.std.proofs.lemmas.Bool.{agree_below, agree_below_at, and_from, and_parts, both_ways, cases_eq, cases_lt, eq-eqb, eqb-true, false≢true, le-leb, le-ltb, leb-true, lt-leb, lt-ltb, ltb-false, ltb-true, ne_eqb, not-true, or_cases, or_parts}
pub use Rattle.std.proofs.lemmas.Int.{ints, of_z-to_z, to_z-of_z}
pub use Rattle.std.proofs.lemmas.List.{append-nil, drop-replicate, drop_all, drop_at, get_or-append_right, get_or-drop, get_or-set_other, get_or-set_same, get_or-take, get_or_append_left, length-set, length-take, length-take-le, take_all, take_more, take_more_set, take_rest}
pub use Rattle.std.proofs.lemmas.List.Folds.{list_any-append, list_any_more}
pub use Rattle.std.proofs.lemmas.Nat.{div-add-mod', div-mul-add, mod-pow-add, mod_below, mod_low, mul-add-lt, pow-add, pow_pos, shr-shr, shr_below, shr_split}
pub use Rattle.std.proofs.lemmas.Nat.Bits.{bit_at-lt, bit_at-zero, bit_at_above, bit_at_and, bit_at_cat_high, bit_at_cat_low, bit_at_not, bit_at_or, bit_at_xor, same_from_bits}
pub use Rattle.std.proofs.lemmas.Option.{none-some, same_Some, slice_get-get_or}
pub use Rattle.std.specs.Int.{Width, bit_at, bit_not, byte_len, byte_worth, cast_signed, cast_unsigned, from_le_bytes, int_rem_euclid, sum_through, to_le_bytes, w32}
pub use Rattle.std.specs.Prelude.{IfNone, IfSome, IsTrue, bit_xor, nat_eq, nat_le, nat_lt, slice_index, slice_index_or}
