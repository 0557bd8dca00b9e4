-- The names of definitions and of other crates that several files of proofs here use.
pub use Rattle.linker_base.specs.Bits.{TwosComplementKeepsFields, field, signed}
pub use Rattle.linker_base.specs.Blocks.{AreHeads, Counts, View, blocks_of, head_of, output_offset_of}
pub use Rattle.linker_base.specs.Deletions.{AreDisjoint, AreKept, DoNotOverlap, EndFits, HasInput, IsBefore, IsInsideDeletion, IsSelected, IsSortedUnion, IsValid, begun_below, bytes_of, covers, is_kept}
unfoldable pub use Rattle.linker_base.specs.Deletions.{rank}
pub use Rattle.linker_base.specs.Deltas.{RecordsDeletions, deletion_of, deletions_of, pairs_of}
pub use Rattle.linker_base.specs.Form.{BitsWritten, Claim, Field, Fits, Form, ImmediateBit, IsClear, IsReadBack, IsSameBy, IsSameModulo, Layout, MachineReads, Mark, Sign, WriteBackChangesNothing, WriteKeepsOtherBits, Written, bit_for, cleared, consecutive_bits, exactly, field_form, form_of, has_value, holds_value_bit, is_clear_at, is_of, is_placed, modulo, number_of, one_field, ored, own_form, placed_bit, replaced, twos_complement, unclaimed, unsigned, values_apart, values_below, worth}
unfoldable pub use Rattle.linker_base.specs.Form.{place_sum}
pub use Rattle.linker_base.specs.Inner.Listed.{AreApart, AreDisjointBeside, AreFirstDisjoint, ArePlaced, IsEndOf, IsLower, IsOnlyAt, IsRun, IsWalked, IsWalking, passed_in}
pub use Rattle.linker_base.specs.Inner.Packing.{AreBegun, IsCopied, IsFilled, IsFilledTo, IsFirstRun, IsPosition, IsRunStart, delta_at, no_delta}
pub use Rattle.linker_base.specs.Inner.Search.{HeadsAgree, IsNarrowed, IsPartitioned, IsPointOf, OnlyProbes, Probed, Subject, list_subject, no_head, passes_test, passing, size_of, view_subject}
pub use Rattle.linker_base.specs.Laws.{AreTranslations, CursorGivesRanks, InAfterOutReturns, MergeOrderIsFree, MergesShortenDistances, OtherSectionsStay, OutAfterInIsFirstKept, OutAfterInReturnsKept}
pub use Rattle.linker_base.specs.Listed.{AreValidDeltas, AreValidTogether, IsFirstInvalid, IsFirstOverlapping}
pub use Rattle.linker_base.specs.Sections.{Entries, IndicesRise, IsAboveAll, IsAt, IsGap, IsLast, Sections}
pub use Rattle.linker_base.specs.Uleb.{AllContinue, HasOneReading, IsUlebWritten, Uleb, uleb_number}
pub use Rattle.linker_base.specs.Walk.{AreAhead, IsAhead, walk_at, walk_through, walk_to}
pub use Rattle.linker_base.specs.declared.relaxation.RelaxDelta.{RelaxDelta}
pub use Rattle.linker_base.specs.declared.relaxation.blocks.BlockHead.{BlockHead}
pub use Rattle.linker_base.specs.declared.relaxation.search.Level.TheVariants.{Deltas, Heads}
pub use Rattle.linker_base.specs.declared.relaxation.search.Test.{Test}
pub use Rattle.linker_base.specs.declared.relaxation.search.Test.TheVariants.{BeginsBelow, IsPlacedUpTo}
pub use Rattle.linker_base.specs.declared.relaxation.walk.Reached.{Reached}
pub use Rattle.std.proofs.Common.{All, Bool, Err, IfErr, IfOk, List, None, Ok, Option, Result, Some, [], add-mul, add-one, add-suc, add-zero, ap, arith, below_more, bit_and, bit_or, cond, div-lt_iff_lt-mul, drop, eqb, false, get_or, inl, inr, is_some, leb, length, length-drop, ltb, map, map-id, max, min, mod-eq_of_lt, negsuc, not, option_copied, option_map, pos, pow-add, pow-suc, pow_mono, refl, rules, set, slice_index, slice_set, subst, suc, suc-mul, sym, take, take_all, tests, true, true≢false, vec_capacity, vec_len, zero, zero-add, ℕ, ℤ, ⊎_elim, ◌%◌, ◌&&◌, ◌*◌, ◌++◌, ◌+ℤ◌, ◌+◌, ◌-ℤ◌, ◌-◌, ◌/◌, ◌<◌, ◌==◌, ◌^◌, ◌||◌, ◌∙◌, ◌∷◌, ◌≡◌, ◌≢◌, ◌≤◌, ◌⊎◌}
pub use Rattle.std.proofs.Math.Pow.{high_ones, mod-mod-pow}
pub use Rattle.std.proofs.lemmas.Bool.{agree_below, agree_below_at, and_from, and_parts, and_right, both_ways, cases_Bool, cases_eq, cases_lt, cases_order, cond-false, cond-true, cond_both, eq-eqb, eqb-false, eqb-true, false_from_ne_true, false≢true, le-leb, le-ltb, leb-true, lt-leb, lt-ltb, ltb-false, ltb-true, ne_eqb, not-false, not-true, or_cases, or_from, or_parts, true_from_ne_false}
pub use Rattle.std.proofs.lemmas.Bool.Decides.{nat_tests}
pub use Rattle.std.proofs.lemmas.Grind.{common_steps, same_number_lists}
pub use Rattle.std.proofs.lemmas.Int.{int_rem_euclid_is, ints}
pub use Rattle.std.proofs.lemmas.Iterator.{YieldsList-from_slice, cases_from_all}
pub use Rattle.std.proofs.lemmas.List.{append-nil, append_assoc, at_drop_more, drop-drop, drop-map, drop-set, drop-set-lt, drop_all, drop_more, get_or-append-add, get_or-append_right, get_or-drop, get_or-map, get_or-set_other, get_or-set_same, get_or-take, get_or_append_left, get_or_default, get_or_push, length-append, length-map, length-set, length-take, length_push, map-append, map_push, take-append-drop, take-append-le, take-map, take-set-le, take-take, take_more, take_more_set, take_rest}
pub use Rattle.std.proofs.lemmas.List.Elements.{All-append, All-cons, All-contains, All-from_all_within, All-head, All-map, All-nil, All-push, All-tail}
pub use Rattle.std.proofs.lemmas.List.Folds.{list_any_at}
pub use Rattle.std.proofs.lemmas.List.Quantifiers.{all_pairs_push}
pub use Rattle.std.proofs.lemmas.List.Sorted.{All-permutation, Contains-permutation, IsNonDecreasingBy-from_sort_by_key, IsNonDecreasingBy-insert, IsNonDecreasingBy-push, IsNonDecreasingBy-take, IsPartitionPoint-from_clause, IsPermutation-append_comm, IsPermutation-append_left, IsPermutation-append_right, IsPermutation-cons, IsPermutation-sym, IsPermutation-trans, answers_always, list_any-IsPermutation, non_decreasing_from_is_sorted, sum_by-IsPermutation}
pub use Rattle.std.proofs.lemmas.List.Sums.{AllPass-from_list_all, count_by-le-length, fold_more, position_or_len_is, sum_by-append, sum_by-cons, sum_by-take-le, sum_by_more, sum_by_push}
pub use Rattle.std.proofs.lemmas.Nat.{and_mask, div-add-mod', div-mul-add, div_below, field_of, mod-pow-add, mod_below, mod_low, mul-le, one_shl, or_comm, or_lt, or_shifted, pow_below, pow_pos, shl-shr, shl_whole, shr-shr, shr_below, shr_high, shr_split}
pub use Rattle.std.proofs.lemmas.Nat.Bits.{and_pow, bit_at-lt, bit_at-pow_other, bit_at-pow_same, bit_at-zero, bit_at_above, bit_at_cat_high, bit_at_cat_low, bit_at_mask_below, bit_at_mask_inside, bit_at_ones, bit_at_or, ones_shl, ones_shr, same_from_bits, same_from_bits_below}
pub use Rattle.std.specs.Global.{Vec}
pub use Rattle.std.specs.Int.{Width, bit_at, cast_signed, cast_unsigned, from_le_bytes, int_rem_euclid, w32, w64}
pub use Rattle.std.specs.List.{AllWithin, after_first, list_all, list_any, position_or_len}
pub use Rattle.std.specs.List.Sorted.{IsBinarySearchResult, IsNonDecreasing, IsNonDecreasingBy, IsPartitionPoint, IsPartitionedBy, IsSearchInRange}
pub use Rattle.std.specs.Prelude.{AllPairs, Any, Contains, HoldsAt, IfSome, IsPermutation, IsTrue, MatchBool, MatchOption, OnOk, count_by, is_ok, nat_eq, nat_le, nat_lt, slice_get, sum_by, ◌↔◌}
pub use Rattle.std.specs.Slice.Iter.{iter_rest}
pub use mir.Val.{bool_byte}
