-- The names of definitions and of other crates that several files of proofs here use.
pub use Rattle.linker_base.proofs.Listed.{IsValid-take, RecordsDeletions-push, RecordsDeletions-set, taken_up_to}
pub use Rattle.linker_base.proofs.Merging.{disjoint_back, overlapping_denies}
pub use Rattle.linker_base.proofs.OutputOffsets.{bytes_fit, bytes_of-take_fit}
pub use Rattle.linker_base.specs.Deletions.{AreDisjoint, EndFits, IsSortedUnion, IsValid, bytes_of}
pub use Rattle.linker_base.specs.Deltas.{RecordsDeletions, deletion_of, deletions_of}
pub use Rattle.linker_base.specs.Inner.Listed.{IsRun}
pub use Rattle.linker_base.specs.Listed.{AreValidTogether, IsFirstInvalid, IsFirstOverlapping}
pub use Rattle.linker_base.specs.declared.relaxation.RelaxDelta.{RelaxDelta}
pub use Rattle.linker_elf.specs.declared.elf.RowInfo.{RowInfo}
pub use Rattle.linker_elf.specs.declared.elf.architecture.Architecture.{Architecture}
pub use Rattle.linker_output.specs.View.{Symbol, view_run, view_runs, view_symbols}
pub use Rattle.linker_riscv64.proofs.Shrunk.{shrinkable_taken}
pub use Rattle.linker_runs.proofs.Deletions.{deletion_none, deletion_some, deletions_next, deletions_none, deletions_valid}
pub use Rattle.linker_runs.specs.Deleting.{deletions_before}
pub use Rattle.linker_runs.specs.Relaxing.{AreInOrder, item_at, item_of, items_in, len_of, no_item, offset_of}
pub use Rattle.linker_utils.specs.Relaxations.{relaxation_rewrite, rewrite_of_number}
pub use Rattle.linker_utils.specs.declared.architecture.Relaxation.{Relaxation}
pub use Rattle.linker_utils_c.specs.Deltas.{pair_of, pair_of_key, pairs_in}
pub use Rattle.linker_utils_c.specs.Packing.{calls_in}
pub use Rattle.linker_utils_c.specs.Placement.{AreWays, Arrays, HaveLengths, IsCodeOf, IsPlacing, IsPlacingOf, placed_at, placed_stub, way_number}
pub use Rattle.linker_utils_c.specs.Recognising.{AreInNumbers, IsMadeInNumbers, present}
pub use Rattle.linker_utils_c.specs.Relocate.{AreRelocated, IsApplied, IsOutcome, IsRelocated, IsRelocatedAs, IsRelocatedAt}
pub use Rattle.linker_utils_c.specs.Relocations.{InNumbers, IsRange, IsSize}
pub use Rattle.linker_utils_c.specs.Status.{code}
pub use Rattle.linker_utils_c.specs.declared.recognising.RecognisedNumbers.{RecognisedNumbers}
pub use Rattle.linker_utils_c.specs.declared.relocate.Relocation.{Relocation}
pub use Rattle.linker_utils_c.specs.declared.status.Status.TheVariants.{DifferentLengths, ShortMemory, Success, UnknownArchitecture, UnknownRewrite}
pub use Rattle.std.proofs.Common.{Bool, Err, FitsSigned, IfErr, IsOk, List, MatchOption, MatchResult, None, Ok, OnErr, OnOk, Option, Result, Some, [], ap, arith, cond, drop, false, get_or, get_or-set_other, inl, inr, length, length-append, map, max, ok_or, option_map, pos, refl, rules, set, slice_get, subst, suc, sym, take, true, vec_len, zero, ℕ, ℤ, ◌*◌, ◌++◌, ◌+◌, ◌-◌, ◌<◌, ◌^◌, ◌↔◌, ◌∙◌, ◌∷◌, ◌≡◌, ◌≢◌, ◌≤◌}
pub use Rattle.std.proofs.lemmas.Int.{to_z-of_z}
pub use Rattle.std.proofs.lemmas.List.{append-nil, get_or-map, get_or-take, get_or_default, length-drop, length-map, length-set, length-take, map-append, map-id, take_all, take_more, take_more_set}
pub use Rattle.std.proofs.lemmas.List.Sorted.{IsNonDecreasingBy-from_default, IsNonDecreasingBy-from_sort_by_key, IsNonDecreasingBy-push, IsNonDecreasingBy-short, IsPermutation-map, length_permutation}
pub use Rattle.std.proofs.lemmas.List.Sums.{sum_by-append, sum_by_more}
pub use Rattle.std.proofs.lemmas.Option.{slice_get_past, slice_get_read}
pub use Rattle.std.specs.Int.{w64}
pub use Rattle.std.specs.List.Sorted.{IsNonDecreasing, IsNonDecreasingBy, IsPermutation}
pub use Rattle.std.specs.Vec.{vec_capacity}
