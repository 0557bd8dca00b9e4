-- The names of definitions and of other crates that several files of proofs here use.
pub use Rattle.linker_base.proofs.Bits.{cast_negative}
pub use Rattle.linker_base.proofs.Copied.{put_below, rank-gone, rank-kept}
pub use Rattle.linker_base.proofs.Immediates.{whole}
pub use Rattle.linker_base.proofs.Rank.{rank-mono, rank-removed, rank_gone, rank_kept, rank_steps, removed, removed_by}
pub use Rattle.linker_base.specs.Bits.{field}
pub use Rattle.linker_base.specs.Deletions.{IsValid, covers, is_kept}
unfoldable pub use Rattle.linker_base.specs.Deletions.{rank}
pub use Rattle.linker_base.specs.Deltas.{deletions_of}
pub use Rattle.linker_base.specs.Form.{Form, Written, is_placed, window_of}
pub use Rattle.linker_base.specs.Inner.Packing.{IsFilled, IsFilledTo, IsPosition}
pub use Rattle.linker_base.specs.Listed.{AreValidDeltas}
pub use Rattle.linker_base.specs.declared.bit_misc.BitRange.{BitRange}
pub use Rattle.linker_elf.proofs.Reached.{holds}
pub use Rattle.linker_elf.proofs.RowsFit.{loongarch_fits, riscv_fits}
pub use Rattle.linker_elf.specs.Applied.{IsApplied, IsRejected}
pub use Rattle.linker_elf.specs.Elf.{IsWithin, bit_bounds}
pub use Rattle.linker_elf.specs.LoongArch.{loongarch_form, page, reach}
pub use Rattle.linker_elf.specs.Reach.{reach_of}
pub use Rattle.linker_elf.specs.Relocate.{InstructionWritten, IsAccepted, IsAligned, IsEncoded, IsInUnits, bits_taken, is_jirl, is_supported, places_cleared, window_len}
pub use Rattle.linker_elf.specs.RiscVRelocations.{riscv_row}
pub use Rattle.linker_elf.specs.Value.{difference_64, sum_64, value_of}
pub use Rattle.linker_elf.specs.declared.elf.RowInfo.{RowInfo}
pub use Rattle.linker_elf.specs.declared.elf.Sign.TheVariants.{Signed}
pub use Rattle.linker_elf.specs.declared.loongarch64.forms.LoongArch64Instruction.TheVariants.{Branch26, Shift10, Shift5}
pub use Rattle.linker_elf.specs.declared.loongarch64.relocations.LoongArch64Relocation.TheVariants.{R_LARCH_B26, R_LARCH_CALL36, R_LARCH_PCALA_HI20, R_LARCH_PCALA_LO12, R_LARCH_PCREL20_S2}
pub use Rattle.linker_elf.specs.declared.riscv64.relocations.RiscVRelocation.TheVariants.{R_RISCV_CALL_PLT, R_RISCV_JAL, R_RISCV_RVC_JUMP}
pub use Rattle.linker_laws.specs.Schemes.{AreAddresses, IsAddress}
pub use Rattle.linker_riscv64.proofs.Shrunk.{written_more}
pub use Rattle.linker_riscv64.specs.RiscVCalls.{IsEven, IsJalDistance, link_register}
pub use Rattle.linker_riscv64.specs.Shrinking.{AreInReach, IsChosen, IsGreatest, chosen_deletions, shrinking, with_chosen}
pub use Rattle.linker_riscv64.specs.declared.calls.LinkRegister.TheVariants.{OfJalr}
pub use Rattle.linker_runs.specs.Calls.{CallsAreShrunkAlike, IsCallItem, IsDeletedItem, IsRunOf, call_shapes, pair_at}
pub use Rattle.linker_runs.specs.Choosing.{AlignmentFits, AreAlwaysEnough, AreChosen, AreItems, AreNested, AreNotLonger, AreTooFewRounds, FreesMultiples, HasItsNops, HasUnit, HaveNoAlignment, IsAlwaysMultiple, IsAnchor, IsClear, IsExact, IsExactItem, IsFormed, IsGreatestCautious, IsInReachCautiously, IsInReachExactly, IsInWords, IsRelaxation, IsSite, IsStill, ItemFits, freed_cautiously, item_granularity, least_len, run_granularity, shapes_granularity}
unfoldable pub use Rattle.linker_runs.specs.Choosing.{cautious_before}
pub use Rattle.linker_runs.specs.Deleting.{TranslationsAreExact, deletion_at, deletions_of_run}
unfoldable pub use Rattle.linker_runs.specs.Deleting.{deletions_before}
pub use Rattle.linker_runs.specs.Faults.{AlignmentMeets, AreSound, IsFirstAt, IsFirstFault, IsFirstOf, ItemMeets, OwnMeets, RunMeets, ShapesMeet, UnitMeets, number_of}
pub use Rattle.linker_runs.specs.Inner.Ahead.{IsAhead, MayBeAhead}
pub use Rattle.linker_runs.specs.Inner.Listed.{AreListedIn, Rewritten, rewritten_of}
pub use Rattle.linker_runs.specs.Inner.LoongArch.{AreRelocated, IsLongOf}
pub use Rattle.linker_runs.specs.Inner.Packing.{AreReady, IsWrittenTo}
pub use Rattle.linker_runs.specs.Inner.Pieces.{IsPieceOf, IsWhole, code_bytes, piece_bytes}
pub use Rattle.linker_runs.specs.Inner.Relaxing.{AreCautious, AreForced, IsAlwaysInReach, is_in_reach_cautiously}
pub use Rattle.linker_runs.specs.Inner.Validity.{IsClearRun, ItemSuits, ShapesSuit}
pub use Rattle.linker_runs.specs.LoongArchItems.{AreStated, IsCall36, IsPcala, LoongArchMakes}
pub use Rattle.linker_runs.specs.LoongArchSites.{ArePagesNear, IsAddressInReach, IsAddressOutOfReach, IsBranch, IsCall36At, IsFarAddress, IsFarCall, IsKindAt, IsLongInReach, IsLongOutOfReach, IsPcaddi, IsPcalaAt, IsSiteAt, LoongArchAccepts, LoongArchBecomes, LoongArchCause, address, branch_template, call, call_template, destination, far_address, far_call, far_high, far_low, far_pages, high_template, jump, low_template, pcaddi_template, short_template}
pub use Rattle.linker_runs.specs.Moved.{AreMoved, BecomesType, BeginsAt, IsMoved, gone, of_item, other, r_type_at_item}
pub use Rattle.linker_runs.specs.Origins.{HasItsInstructions, HasLoongArchShapes, HasRiscVShapes, HasShapes}
pub use Rattle.linker_runs.specs.Packing.{CanWrite, CodeCause, IsApart, IsCause, IsInside, IsNotIn, IsPackedRun, IsUnwritable, IsWritable, ItemAccepts, ItemBecomes, ItemCause, KeepsEnd, KeepsGap, LosesItems, Section, SiteAccepts, SiteBecomes, SiteCause, StayWhole, address_of, gap_start, is_fixed, kept_len, nop_len, nops, packed_offset, section_of, written_len}
unfoldable pub use Rattle.linker_runs.specs.Packing.{repeated}
pub use Rattle.linker_runs.specs.Reaches.{AreOfRows, IsOfRow, LoongArchShapesAreOfRows, RiscVShapesAreOfRows}
pub use Rattle.linker_runs.specs.Relaxing.{AreApart, AreFreed, AreInOrder, AreRelaxed, HasKind, IsSound, choice_of, end_of, is_in_reach, is_reached, item_at, item_of, item_reaches, items_in, kept_by, len_of, lengthened, limit_of, needed, no_item, offset_of, place_of, shape_len, shape_reaches, short_shape, target_of}
unfoldable pub use Rattle.linker_runs.specs.Relaxing.{after_rounds, freed_before}
pub use Rattle.linker_runs.specs.Relocations.{AreMade, AreWellFormed, IsMarked, no_relocation, relocation_at}
pub use Rattle.linker_runs.specs.Relocations.AreMade.{left_out, made, none}
pub use Rattle.linker_runs.specs.RewrittenItems.{AreListed, ArePlaced, IsDeleted, deleted_at, deleted_before, deleted_end}
pub use Rattle.linker_runs.specs.RiscVItems.{Aligns, AreEnoughAt, HasRiscVName, IsCallAt, IsNextAlignment, IsOfCall, IsShapesOf, MayBeShort, MayFree, RiscVMakes, has_short_jump}
pub use Rattle.linker_runs.specs.RiscVSites.{IsJal, IsShortJump, RiscVAccepts, RiscVBecomes, RiscVCause, riscv_template, short_bytes, short_jump}
pub use Rattle.linker_runs.specs.SectionItems.{Makes}
pub use Rattle.linker_runs.specs.Sites.{IsInReach, IsOutOfReach, IsRelocated, Template, operands_of}
pub use Rattle.linker_runs.specs.Writable.{HasShapesOf, IsNear, IsNearAddress, IsNearCall36, IsNearSite, IsShortened, MadeSitesHaveInstructions, MayBePacked, NearAddressesAreWritable, NearCalls36AreWritable, NearCallsAreWritable, NoneIsOutOfReach, ShortSitesAreWritable}
pub use Rattle.linker_runs.specs.declared.items.Relocation.{Relocation}
pub use Rattle.linker_runs.specs.declared.packing.riscv32.Isa.{Isa}
pub use Rattle.linker_runs.specs.declared.packing.ItemError.{ItemError}
pub use Rattle.linker_runs.specs.declared.packing.ItemError.TheVariants.{DeletedOutside, NoShape, NotItsFirstBytes, NotItsInstructions, OutOfReach, OutOfSection, Overlaps}
pub use Rattle.linker_runs.specs.declared.packing.Machine.{Machine}
pub use Rattle.linker_runs.specs.declared.packing.Machine.TheVariants.{LoongArch64, RiscV}
pub use Rattle.linker_runs.specs.declared.packing.loongarch64.Kind.{Kind}
pub use Rattle.linker_runs.specs.declared.packing.loongarch64.Kind.TheVariants.{Address, Call}
pub use Rattle.linker_runs.specs.declared.relaxation.Alignment.{Alignment}
pub use Rattle.linker_runs.specs.declared.relaxation.Item.{Item}
pub use Rattle.linker_runs.specs.declared.relaxation.Item.TheVariants.{Aligned, Site}
pub use Rattle.linker_runs.specs.declared.relaxation.Shape.{Shape}
pub use Rattle.linker_runs.specs.declared.relaxation.Shapes.{Shapes}
pub use Rattle.linker_runs.specs.declared.relaxation.faults.Fault.{Fault}
pub use Rattle.linker_runs.specs.declared.shapes.loongarch64.TheConstants.{CALL36, PCALA}
pub use Rattle.linker_runs.specs.declared.shapes.riscv64.TheConstants.{CALL, CALL_WITHOUT_C, TAIL_C}
pub use Rattle.linker_section.specs.Relocations.{relocation_in, relocation_of}
pub use Rattle.std.proofs.Common.{All, Bool, Err, IfErr, IfOk, IsSomeAnd, IsTrue, List, MatchOption, None, Ok, OnOk, Option, Result, Some, [], add-one, ap, arith, below_more, bit_and, cond, count_by, drop, eqb, false, get_or, get_or-set_other, get_or-set_same, if◌then◌else◌, inl, inr, int_lt, length, length-append, map, max, min, mul_assoc, nat_eq, nat_le, nat_lt, neg_ℤ, negsuc, not, pos, refl, rules, set, slice_index_or, subst, suc, sum, sym, take, true, zero, ℕ, ℤ, ⊎_elim, ◌%◌, ◌&&◌, ◌*ℤ◌, ◌*◌, ◌++◌, ◌+ℤ◌, ◌+◌, ◌-ℤ◌, ◌-◌, ◌/◌, ◌<ℤ◌, ◌<◌, ◌==◌, ◌^◌, ◌||◌, ◌↔◌, ◌∙◌, ◌∷◌, ◌≡◌, ◌≢◌, ◌≤ℤ◌, ◌≤◌, ◌⊎◌}
pub use Rattle.std.proofs.Math.ListN.{get_or-append, get_or-eq_default}
pub use Rattle.std.proofs.Math.Nat.{add-mul-mod_self_right, mod-eq_of_lt, mod-lt, mod_self, mul-le-mul_left, mul-mod_left, mul-sub, mul_comm, two-pow-succ, zero-mod}
pub use Rattle.std.proofs.Math.Pow.{pow_mono}
pub use Rattle.std.proofs.lemmas.Bool.{agree_below, agree_below_at, and_parts, both_ways, cases_Bool, cases_eq, cases_lt, cases_order, cond-false, cond-true, eqb-true, false≢true, leb-true, ltb-true, or_cases, or_left, or_right}
pub use Rattle.std.proofs.lemmas.Bool.Decides.{nat_tests}
pub use Rattle.std.proofs.lemmas.Grind.{common_steps, drop_more_same}
pub use Rattle.std.proofs.lemmas.Int.{ints, to_z_pos}
pub use Rattle.std.proofs.lemmas.List.{append-nil, append_assoc, drop-append-le, drop-drop, drop-set-lt, drop-take, drop_all, drop_at, get_or-append_right, get_or-drop, get_or-map, get_or-take, get_or_default, length-drop, length-map, length-set, length-take, length-take-le, map_push, same_lists, take-append-drop, take-append-le, take-take, take_at, take_more_set, with_items_is}
pub use Rattle.std.proofs.lemmas.List.Elements.{All-append, All-cons, All-nil}
pub use Rattle.std.proofs.lemmas.List.Sums.{sum_by-append, sum_by-cons, sum_by-set}
pub use Rattle.std.proofs.lemmas.Nat.{and_mask, div-add-mod', from_le_bytes-to_le_bytes_4, le-div, ones_cat, pow-add, pow_below, pow_pos, shr_split, zero_from_ones}
pub use Rattle.std.specs.Int.{IsNextPowerOfTwo, IsPowerOfTwo, bit_at, cast_signed, from_le_bytes, is_power_of_two, to_le_bytes, w16, w32, w64}
pub use Rattle.std.specs.List.{AllWithin, fold, list_any}
pub use Rattle.std.specs.Prelude.{⊤}
