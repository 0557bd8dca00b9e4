-- The names of definitions and of other crates that several files of proofs here use.
pub use Rattle.linker_base.proofs.Merging.{disjoint_across, disjoint_back, disjoint_joined, none_decides}
pub use Rattle.linker_base.proofs.Rank.{all_pairs_head, all_pairs_tail, rank-le, rank-mono, rank-removed, rank_all_kept, rank_kept, removed, removed_by}
pub use Rattle.linker_base.specs.Bits.{field, signed}
pub use Rattle.linker_base.specs.Blocks.{IsValidView, View}
pub use Rattle.linker_base.specs.Deletions.{AreDisjoint, AreKept, DoNotOverlap, EndFits, IsInsideDeletion, IsSortedUnion, IsValid, is_kept}
unfoldable pub use Rattle.linker_base.specs.Deletions.{rank}
pub use Rattle.linker_base.specs.Deltas.{RecordsDeletions, deletions_of}
pub use Rattle.linker_base.specs.Inner.Packing.{IsFilled}
pub use Rattle.linker_base.specs.Listed.{AreValidDeltas}
pub use Rattle.linker_riscv64.specs.Inner.Packing.{AreApartTo, IsPackedTo}
pub use Rattle.linker_riscv64.specs.Inner.Shrinking.{AreClear, AreEightApart, AreRunsOf, HadTurn, HaveHit, HaveShrinkableSites, HaveShrinkableTargets, IsApartAt, IsAround, IsInReachAt, IsSplit, KeepsOthers, chosen_between, chosen_count, distance_over}
pub use Rattle.linker_riscv64.specs.Packing.{AreApart, CanJump, IsCallInSection, IsFirstRejected, IsNotAt, IsPacked, IsRejected}
pub use Rattle.linker_riscv64.specs.RiscVCalls.{IsEven, IsJal, IsJalDistance, IsSiteKept, JumpsAndLinks, JumpsAt, NamesRegister, call_len, link_register, output_distance, word_at}
pub use Rattle.linker_riscv64.specs.Shrinking.{AreInReach, AreShrinkable, IsChosen, IsInReach, IsPartOf, ShrunkCallsAreAccepted, chosen_deletions, shrinking, with_chosen}
pub use Rattle.linker_riscv64.specs.declared.calls.CallError.TheVariants.{OddDistance, OutOfSection, SiteDeleted, TooFar}
pub use Rattle.linker_riscv64.specs.declared.calls.LinkRegister.{LinkRegister}
pub use Rattle.linker_riscv64.specs.declared.calls.LinkRegister.TheVariants.{OfAuipc, OfJalr}
pub use Rattle.std.proofs.Common.{Bool, Err, FitsSigned, IsOk, List, [], ap, arith, cond, drop, false, get_or, inl, inr, leb, length, ltb, map, nat_lt, negsuc, of_z, pos, refl, replicate, rules, set, subst, suc, sym, take, to_z, true, w64, zero, ℕ, ℤ, ◌%◌, ◌*◌, ◌++◌, ◌+◌, ◌-ℤ◌, ◌-◌, ◌/◌, ◌<◌, ◌^◌, ◌↔◌, ◌∙◌, ◌∷◌, ◌≡◌, ◌≢◌, ◌≤◌}
pub use Rattle.std.proofs.Math.Nat.{div-mul-le_self, lt-div-mul-add, mul-le-mul_right}
pub use Rattle.std.proofs.lemmas.Bool.{agree_below_at, both_ways, cases_lt, cases_order, cond_both, false≢true, le-leb, leb-true, lt-leb, ltb-false, ltb-true}
pub use Rattle.std.proofs.lemmas.Int.{ints, to_z-of_z}
pub use Rattle.std.proofs.lemmas.List.{append-nil, append_assoc, drop-drop, drop-map, drop_all, drop_at, get_or-drop, get_or-map, get_or-replicate, get_or-set_other, get_or-set_same, get_or-take, get_or_default, get_or_past, length-drop, length-map, length-replicate, length-set, length-take, map-append, map-id, map-set, take-append-drop, take-map, take-set-le, take-take, take_all, take_at, take_more, take_more_set, take_rest}
pub use Rattle.std.proofs.lemmas.Nat.{div_below, from_le_bytes-to_le_bytes_4, mod_below, or_comm, or_shifted}
pub use Rattle.std.specs.Int.{bit_at, cast_unsigned, from_le_bytes, int_rem_euclid, to_le_bytes, w32}
pub use Rattle.std.specs.Prelude.{All, AllPairs, Contains, IfErr, IsTrue, Ok, OnOk, Result, max, min, ◌⊎◌}
pub use borrow.Rule.Slice.PartMut.{put_mid}
