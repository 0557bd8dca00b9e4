-- The names of definitions and of other crates that several files of proofs here use.
pub use Rattle.linker_base.specs.Bits.{field, signed}
pub use Rattle.linker_base.specs.Rewrite.{CanRewrite, addend_after, offset_after, rewritten}
pub use Rattle.linker_elf.proofs.ChoiceTables.{holds_of_first, same}
pub use Rattle.linker_elf.proofs.Choices.{same_reach}
pub use Rattle.linker_elf.specs.AArch64Relocations.{aarch64_row}
pub use Rattle.linker_elf.specs.Agrees.{LoongArchRowAgrees, RowAgrees, RowFits}
pub use Rattle.linker_elf.specs.Choices.{AllHold, Applies, Entry, IsFirst, RowIsWithin, RowReaches, choice, entry, facts_on, operands_after, operands_before, with_group}
pub use Rattle.linker_elf.specs.LoongArchRelocations.{loongarch_raw_row, loongarch_row}
pub use Rattle.linker_elf.specs.Originals.{HasWord}
pub use Rattle.linker_elf.specs.Readings.{LoongArchRowReadsNoOther, RowReadsNoOther}
pub use Rattle.linker_elf.specs.RiscVRelocations.{clui_row, riscv_row}
pub use Rattle.linker_elf.specs.Value.{difference_64, sum_64}
pub use Rattle.linker_elf.specs.X86Relocations.{x86_64_relocation, x86_64_row}
pub use Rattle.linker_elf.specs.declared.aarch64.relocations.AArch64Relocation.{AArch64Relocation}
pub use Rattle.linker_elf.specs.declared.elf.RowInfo.{RowInfo}
pub use Rattle.linker_elf.specs.declared.elf.choice.Choice.{Choice}
pub use Rattle.linker_elf.specs.declared.elf.choice.LinkFacts.{LinkFacts}
pub use Rattle.linker_elf.specs.declared.loongarch64.relocations.LoongArch64Relocation.{LoongArch64Relocation}
pub use Rattle.linker_elf.specs.declared.ppc64.relocations.Ppc64Relocation.{Ppc64Relocation}
pub use Rattle.linker_elf.specs.declared.riscv64.relocations.RiscVRelocation.{RiscVRelocation}
pub use Rattle.linker_elf.specs.declared.x86_64.relocations.X86_64Relocation.{X86_64Relocation}
pub use Rattle.linker_utils.specs.AArch64Rewrites.{AArch64Applies, AArch64Choice, AArch64Entry, DescriptorIsChosenAlike, GotPairIsChosenAlike, InitialExecIsChosenAlike, IsAArch64Choice, IsAdrp, IsDescriptorSequence, IsEntryLoad, IsLdr64, IsOfDescriptor, aarch64_entries, aarch64_matches, aarch64_rewrite, descriptor_entries, erased, halves_to_local_exec, imm_of, is_move, mov4, mov_word, mov_words, moved4, movk, nop, rd_of, rn_of, to_address, to_initial_exec, to_local_exec, with_bits}
pub use Rattle.linker_utils.specs.Inner.RewriteRows.{is_among, kept, kept_of, set_by}
pub use Rattle.linker_utils.specs.Ppc64Rewrites.{GeneralDynamicIsChosenAlike, HasMarked, InitialExecPairIsChosenAlike, IsPpc64Choice, LocalDynamicIsChosenAlike, Ppc64Applies, Ppc64Choice, PrefixedInitialExecIsChosenAlike, ThreadPairsAreChosenAlike, TocPairsAreChosenAlike, access_of, direct, facts_at, is_access, is_add_of_thread, is_indexed, is_indexed_any, is_indexed_word, is_over_base, is_over_thread, is_store, is_word_access, keeps_base, over_base, ppc64_entries, ppc64_matches, ppc64_rewrite, ppc64_rewrites, ra_of, rb_of, rewrites_marked, rt_of, to_move}
pub use Rattle.linker_utils.specs.RiscVRewrites.{AbsoluteIsChosenAlike, AppliesToRiscV, AreChosenAlike, FitsClui, HoldsHigh, IsLowOverOther, IsRiscVChoice, RiscVChoice, RiscVEntry, adds_low12, deleted, from_got, from_high, from_zero, load_to_addi, riscv_entries, riscv_matches, riscv_rewrite, riscv_row_of, start_of_descriptor, with_rs1}
pub use Rattle.linker_utils.specs.Upstream.{IsUpstream, is_upstream, row_of, row_size}
pub use Rattle.linker_utils.specs.X86Rewrites.{HaveFieldAt, IsByTable, KeepsRegister, Table, begins, byte, evex_high, evex_reg_to_rm, field4, general_dynamic, is_at, is_one_at, large, legacy, modrm_reg_to_rm, opcode_at, original, rex, rex_mov, rex_r_to_b, rip, with_rex, x86_64_after, x86_64_matches, x86_64_originals, x86_64_rewrite, x86_64_table}
pub use Rattle.linker_utils.specs.declared.aarch64.rewrites.RewriteKind.TheVariants.{AddToAdr, AdrpAddToNopAdr, AdrpToAdr, AdrpX0, LdrToAdd, LdrToAdr, LdrX0, MovkX0, MovkXn, MovzX0Lsl16, MovzXnLsl16, NoOp, ReplaceWithNop}
pub use Rattle.linker_utils.specs.declared.ppc64.rewrites.RewriteKind.{RewriteKind}
pub use Rattle.std.proofs.Common.{Bool, IfSome, IsTrue, List, None, Option, Some, [], add-one, ap, arith, bit_and, bit_or, drop, eqb, false, get_or, inl, inr, is_some, leb, length, ltb, min, negsuc, pos, refl, rules, slice_index_or, subst, sym, take, true, true≢false, ℕ, ℤ, ◌%◌, ◌&&◌, ◌*◌, ◌++◌, ◌+ℤ◌, ◌+◌, ◌-ℤ◌, ◌-◌, ◌/◌, ◌<◌, ◌==◌, ◌^◌, ◌↔◌, ◌∙◌, ◌∷◌, ◌≡◌, ◌≢◌, ◌≤ℤ◌, ◌≤◌, ◌⊎◌}
pub use Rattle.std.proofs.lemmas.Bool.{agree_below, agree_below_at, and_from, and_parts, cases_lt, cond-true, eq-eqb, eqb-true, false≢true, le-leb, leb-true, lt-leb, lt-ltb, ltb-true, ne_eqb, or_cases, or_left, or_right}
pub use Rattle.std.proofs.lemmas.List.{append_assoc, drop-drop, drop_at, get_or-drop, get_or-take, length-drop, length-take}
pub use Rattle.std.proofs.lemmas.Nat.{and_assoc, and_block, and_mask, from_le_bytes-to_le_bytes_4, mod_below, or_disjoint, pow_pos, xor_lt}
pub use Rattle.std.proofs.lemmas.Nat.Bits.{and_pow, bit_at-lt, bit_at_and, bit_at_or}
pub use Rattle.std.specs.Int.{bit_at, cast_signed, cast_unsigned, from_le_bytes, int_div_euclid, to_le_bytes, w16, w32, w64}
pub use Rattle.std.specs.Int.Bits.{and_zero_r, bit_xor, or_zero_l, or_zero_r, xor_add_and}
pub use Rattle.std.specs.Prelude.{nat_le, nat_lt, not, slice_index, ⊤, ◌||◌}
