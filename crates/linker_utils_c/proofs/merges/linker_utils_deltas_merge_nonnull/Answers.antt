use Rattle.linker_utils_c.proofs.Imports.{AreDisjoint, IsFirstInvalid, IsFirstOverlapping, IsValid, IsValid-take, deletions_of, inl, inr, overlapping_denies, pairs_in, refl, rules, ◌++◌, ◌+◌}
use Rattle.linker_utils_c.proofs.merges.linker_utils_deltas_merge_nonnull.Goals as goal

pub returns-in-Ok-clause-outcome : goal.returns-in-Ok-clause-outcome
returns-in-Ok-clause-outcome c same =
    inl (refl, c.in-Ok.ensures.outcome.0, c.in-Ok.ensures.outcome.1)

pub returns-in-Err-OutOfMemory-clause-outcome : goal.returns-in-Err-OutOfMemory-clause-outcome
returns-in-Err-OutOfMemory-clause-outcome c same =
    let valid : IsValid (deletions_of c.args.deltas.now) × AreDisjoint (deletions_of c.args.deltas.now ++ pairs_in c.args.additional.now) = search rules in
    inr (inl (refl, valid.0, valid.1))

pub returns-in-Err-Invalid-clause-outcome : goal.returns-in-Err-Invalid-clause-outcome
returns-in-Err-Invalid-clause-outcome c same =
    let first : IsFirstInvalid (deletions_of c.args.deltas.now) c.in-Err-Invalid.at = search rules in
    inr (inr (inl (
      refl,
      λ valid. first.here (IsValid-take (deletions_of c.args.deltas.now) (c.in-Err-Invalid.at + 1) valid),
      first,
    )))

pub returns-in-Err-Overlapping-clause-outcome : goal.returns-in-Err-Overlapping-clause-outcome
returns-in-Err-Overlapping-clause-outcome c same =
    let first : IsValid (deletions_of c.args.deltas.now) × IsFirstOverlapping (deletions_of c.args.deltas.now) (pairs_in c.args.additional.now) c.in-Err-Overlapping.at = search rules in
    inr (inr (inr (
      refl,
      first.0,
      overlapping_denies (deletions_of c.args.deltas.now) (pairs_in c.args.additional.now) c.in-Err-Overlapping.at first.1,
      first.1,
    )))
