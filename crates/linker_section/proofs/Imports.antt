-- The names of definitions and of other crates that several files of proofs here use.
pub use Rattle.linker_base.proofs.Tests.{never}
pub use Rattle.linker_base.proofs.UlebLemmas.{groups_lt, groups_or, low_groups, one_reading, pow_128}
pub use Rattle.linker_base.specs.Form.{BitsWritten, Fits, Written, window_of}
pub use Rattle.linker_base.specs.Uleb.{AllContinue, IsUlebCause, IsUlebWritten, Uleb, uleb_number}
pub use Rattle.linker_base.specs.declared.bit_misc.BitRange.{BitRange}
pub use Rattle.linker_base.specs.declared.utils.Uleb128Error.{Uleb128Error}
pub use Rattle.linker_base.specs.declared.utils.Uleb128Error.TheVariants.{DoesNotFit, Ended, TooLarge}
pub use Rattle.linker_elf.proofs.Relocated.{supported_size, window_at}
pub use Rattle.linker_elf.specs.AArch64Relocations.{aarch64_name, aarch64_row}
pub use Rattle.linker_elf.specs.Architectures.{IsNamedValue, IsRow}
pub use Rattle.linker_elf.specs.Elf.{relocation_form}
pub use Rattle.linker_elf.specs.ElfNames.{ElfName, IsNamed, named, unnamed}
pub use Rattle.linker_elf.specs.Facts.{facts_of, length_of, way_of}
pub use Rattle.linker_elf.specs.LoongArchRelocations.{loongarch_name, loongarch_row}
pub use Rattle.linker_elf.specs.Ppc64Relocations.{ppc64_name, ppc64_row}
pub use Rattle.linker_elf.specs.Relocate.{FieldReads, HoldsBits, InstructionHolds, InstructionWritten, IsAccepted, IsAligned, IsCause, IsInUnits, IsInWords, IsMultiple, IsReached, RejectsValue, SizeHolds, SizeNumber, SizeReads, WritesRow, bits_at, bits_taken, insn_at, is_dq_form, is_low_jump, is_of_uleb128, low_bytes, number_of_bytes, number_written, size_len, takes_size, value_at, whole_number, window_len}
pub use Rattle.linker_elf.specs.RiscVRelocations.{riscv_name, riscv_relocation}
pub use Rattle.linker_elf.specs.Value.{difference_64, formula, is_offset, read_signed, sum_64, value_of}
pub use Rattle.linker_elf.specs.X86Relocations.{x86_64_name, x86_64_row}
pub use Rattle.linker_elf.specs.declared.aarch64.forms.AArch64Instruction.{AArch64Instruction}
pub use Rattle.linker_elf.specs.declared.aarch64.forms.AArch64Instruction.TheVariants.{Movnz}
pub use Rattle.linker_elf.specs.declared.aarch64.relocations.AArch64Relocation.{AArch64Relocation}
pub use Rattle.linker_elf.specs.declared.elf.AnyForm.{AnyForm}
pub use Rattle.linker_elf.specs.declared.elf.AnyForm.TheVariants.{LoongArch64, Ppc64, RiscV}
pub use Rattle.linker_elf.specs.declared.elf.RelocationKind.{RelocationKind}
pub use Rattle.linker_elf.specs.declared.elf.RowInfo.{RowInfo}
pub use Rattle.linker_elf.specs.declared.elf.RowSize.{RowSize}
pub use Rattle.linker_elf.specs.declared.elf.RowSize.TheVariants.{BitMasking, ByteSize}
pub use Rattle.linker_elf.specs.declared.elf.architecture.Architecture.{Architecture}
pub use Rattle.linker_elf.specs.declared.elf.relocate.RelocateError.{RelocateError}
pub use Rattle.linker_elf.specs.declared.elf.relocate.RelocateError.TheVariants.{Misaligned, OutOfReach, TooShort, Unsupported}
pub use Rattle.linker_elf.specs.declared.elf.value.Operands.{Operands}
pub use Rattle.linker_elf.specs.declared.loongarch64.forms.LoongArch64Instruction.{LoongArch64Instruction}
pub use Rattle.linker_elf.specs.declared.loongarch64.forms.LoongArch64Instruction.TheVariants.{Call36, Shift10}
pub use Rattle.linker_elf.specs.declared.loongarch64.relocations.LoongArch64Relocation.{LoongArch64Relocation}
pub use Rattle.linker_elf.specs.declared.ppc64.forms.Ppc64Form.{Ppc64Form}
pub use Rattle.linker_elf.specs.declared.ppc64.forms.Ppc64Form.TheVariants.{D, Ds, Prefixed}
pub use Rattle.linker_elf.specs.declared.ppc64.relocations.Ppc64Relocation.{Ppc64Relocation}
pub use Rattle.linker_elf.specs.declared.riscv64.forms.RiscVInstruction.{RiscVInstruction}
pub use Rattle.linker_elf.specs.declared.riscv64.forms.RiscVInstruction.TheVariants.{CbType, CjType, CluiType, IType, SType, UType}
pub use Rattle.linker_elf.specs.declared.riscv64.relocations.RiscVRelocation.{RiscVRelocation}
pub use Rattle.linker_elf.specs.declared.x86_64.relocations.X86_64Relocation.{X86_64Relocation}
pub use Rattle.linker_section.specs.Conditions.{HasLength, HoldsOffset, IsInReach, holds_offset, is_12_bits, is_filled, is_thread_based, is_tp_off, is_upper, needs_upper, shows, shows_length}
pub use Rattle.linker_section.specs.Crel.{delta_at, flags_of, followed, next_of, number_at, number_in, number_to, relocation_of_place, word_of}
unfoldable pub use Rattle.linker_section.specs.Crel.{after}
pub use Rattle.linker_section.specs.Fields.{AreApart, Composes, IsField, IsOverlapped, Overlap, begins_pair, changes_bits, changes_number, continues, ends_pair, field_end, field_len, is_of_pair, of_number, of_pair, uleb_len}
pub use Rattle.linker_section.specs.Inner.Claims.{AreClaimed, HasField, IsContinued, IsLastField, continues_at, is_clear_of, next_field}
pub use Rattle.linker_section.specs.Inner.Facts.{SaysNeeds, SaysWay, When, is_high, is_high_way, is_low, is_low_way, is_offset_way, is_plain, is_plain_way, is_quick, requirements_by, shows_lengths, word_shows}
pub use Rattle.linker_section.specs.Inner.Order.{ApartIn, AreIndexes, ArePast, AreSmall, AreSwept, IsLastAt, IsOfRuns, IsOrder, IsOverlappedBelow, IsPast, IsSeen, place_in, place_of}
pub use Rattle.linker_section.specs.Inner.Quick.{IsHighValue, IsPlainValue, IsQuickAt, IsQuickValue, IsValueAt}
pub use Rattle.linker_section.specs.Inner.Saved.{IsSavedAt, Restores, saved_place, with_word}
pub use Rattle.linker_section.specs.Inner.Steps.{AreWrittenBelow, Ascends, HasNoValue, IsAlone, IsFirstRun, IsFront, IsInOrder, IsLeftOut, IsLimit, IsOutcome, IsOwnField, IsPairOutcome, IsQuickStep, IsSlowStep, IsStep, IsStopped, IsUnvalued, Reached, clear_in, field_of_row}
pub use Rattle.linker_section.specs.Inner.Tables.{known_in, own_value_is, value_by_is}
pub use Rattle.linker_section.specs.Known.{IsLabelResolved, IsLowResolved, IsResolvedBy, IsResolvedIn, IsResolvedUnless, IsResolvedValue, IsUnresolved, Knowledge, Known, by_high, by_known, is_defined_in, is_left_out, is_skipped, known_operands, known_value, lacks_known_stub, left_out, stubless, too_far, unfilled, valueless, without}
pub use Rattle.linker_section.specs.Needed.{may_use_stub, needs_in, needs_of}
pub use Rattle.linker_section.specs.Relocations.{relocation_at, relocation_in, relocation_of}
pub use Rattle.linker_section.specs.RiscV32.{IsLeastFrom, IsWrapped, relocation32_in}
pub use Rattle.linker_section.specs.Sections.{AreAllRelocatedBy, AreRelocated, BeginsPair, HasValue, IsCauseAt, IsFirstRejectedBy, IsInNoField, IsInside, IsMark, IsNotAccepted, IsNumberOfPair, IsNumberWrittenAt, IsOfValue, IsOtherLength, IsPair, IsPairRejected, IsPairWritten, IsRowValue, IsUnwritable, IsValued, IsValueless, IsWritten, IsWrittenAt, Outcome, Values, beyond, by_index, first_role, mark, no_stub, no_value, none, not_filled, one, pair}
pub use Rattle.linker_section.specs.Values.{IsAscending, IsHighPart, IsHighPartAt, IsLowValue, IsNoHighPart, IsValue, IsValueBy, IsValueIn, address_of, has_value, is_auipc, is_high_kind, is_high_part, low_by, low_operands, low_value, names_label, offset_at, own_value, target_of, value_by}
pub use Rattle.linker_section.specs.WrittenFields.{AreAccepted, AreFound, AreInside, AreWrittenBy, CanBeWrittenBy, Found, HoldsNumber, HoldsPair, HoldsValue, HoldsWord6, IsAcceptedAt, IsFirstFaultBy, IsHeld, IsUnwritten, MakePair, OfPair, PairFits, composed, composed_by, composed_with, field_bytes}
pub use Rattle.linker_section.specs.declared.facts.Addresses.{Addresses}
pub use Rattle.linker_section.specs.declared.facts.Symbol.{Symbol}
pub use Rattle.linker_section.specs.declared.fields.Field.{Field}
pub use Rattle.linker_section.specs.declared.relocations.Rela.{Rela}
pub use Rattle.linker_section.specs.declared.sections.RelocationError.{RelocationError}
pub use Rattle.linker_section.specs.declared.sections.RelocationError.TheVariants.{OtherLength, Overlaps, Uleb128, Value, Write}
pub use Rattle.linker_section.specs.declared.sections.SectionError.{SectionError}
pub use Rattle.linker_section.specs.declared.sections.Step.{Step}
pub use Rattle.linker_section.specs.declared.values.ValueError.{ValueError}
pub use Rattle.linker_section.specs.declared.values.ValueError.TheVariants.{NeedsStub, NoHighPart, NoSymbol, NotAligned, UnknownType}
pub use Rattle.std.proofs.Common.{Bool, Err, FitsSigned, IfErr, IfNone, IfSome, IsOk, IsTrue, List, None, Ok, OnOk, Option, Result, Some, [], add-one, ap, append_assoc, ap₂, arith, below_more, bit_and, bit_or, cond, drop, eqb, false, get_or, if◌then◌else◌, inl, inr, int_lt, is_some, leb, length, lit≤, ltb, min, mod-eq_of_lt, nat_le, nat_lt, neg_ℤ, negsuc, not, of_z, pos, pow-suc, refl, replicate, rules, set, slice_get, slice_index, subst, suc, sym, take, to_z, true, true≢false, unsigned_abs, w64, zero, ℕ, ℤ, ◌%◌, ◌&&◌, ◌*◌, ◌++◌, ◌+ℤ◌, ◌+◌, ◌-ℤ◌, ◌-◌, ◌/◌, ◌<◌, ◌==◌, ◌^◌, ◌||◌, ◌↔◌, ◌∙◌, ◌∷◌, ◌≡◌, ◌≢◌, ◌≤◌, ◌⊎◌}
pub use Rattle.std.proofs.Math.Nat.{add-mul-mod_self_right, min-eq_left, min-eq_right, pow-le-pow_right}
pub use Rattle.std.proofs.lemmas.Bool.{and_from, and_parts, both_ways, cases_Bool, cases_eq, cases_lt, cond-false, cond-true, cond_both, eq-eqb, eqb-false, eqb-true, le-leb, le-ltb, leb-false, leb-true, lt-leb, lt-ltb, ltb-true, ne_eqb, not-false, not-true, or_cases, or_left, or_parts, or_right}
pub use Rattle.std.proofs.lemmas.Bool.Decides.{nat_tests}
pub use Rattle.std.proofs.lemmas.Int.{int_rem_euclid_is, ints, to_z-of_z, to_z_pos}
pub use Rattle.std.proofs.lemmas.List.{append-nil, drop-append-le, drop-drop, drop-take, drop_all, drop_at, drop_more, ext_get_or, get_or-append_right, get_or-drop, get_or-replicate, get_or-set_other, get_or-set_same, get_or-take, get_or_append_left, get_or_default, get_or_past, length-append, length-drop, length-replicate, length-set, length-take, length-take-le, take-append-drop, take-append-le, take-take, take_all, take_at, take_rest}
pub use Rattle.std.proofs.lemmas.List.Sorted.{All-permutation, Contains-permutation, IsNonDecreasingBy-from_sort_by_key, IsPermutation-keeps}
pub use Rattle.std.proofs.lemmas.Nat.{and_mask, div-add-mod', le_bytes_8, mod_below, mul-le, mul-mod_first, one_shl, or_comm, or_shifted, pow-add, pow_pos, shr_below}
pub use Rattle.std.proofs.lemmas.Result.{err_from_is_err_and}
pub use Rattle.std.proofs.lemmas.Slice.{drop-append-drop, take-put_mid}
pub use Rattle.std.specs.Int.{Width, byte_len, byte_worth, cast_unsigned, from_le_bytes, int_rem_euclid, sum_through, to_le_bytes}
pub use Rattle.std.specs.List.{Contains, prefix_len, swap}
pub use Rattle.std.specs.Prelude.{option_map}
