use Rattle.linker_utils_c.proofs.Imports.{IsValid-take, deletions_of, rules, ◌+◌}
use Rattle.linker_utils_c.proofs.merges.linker_utils_deletions_mergeable_nonnull.Goals as goal

pub returns-in-Some-clause-mergeable : goal.returns-in-Some-clause-mergeable
returns-in-Some-clause-mergeable c valid disjoint = absurd (c.in-Some.ensures.here (IsValid-take (deletions_of c.args.deltas.now) (c.in-Some.field-0 + 1) valid))

pub returns-in-Some-clause-overlapping : goal.returns-in-Some-clause-overlapping
returns-in-Some-clause-overlapping c valid overlap = absurd (c.in-Some.ensures.here (IsValid-take (deletions_of c.args.deltas.now) (c.in-Some.field-0 + 1) valid))

pub returns-in-Some-clause-invalid : goal.returns-in-Some-clause-invalid
returns-in-Some-clause-invalid c = (λ _ valid. c.in-Some.ensures.here (IsValid-take (deletions_of c.args.deltas.now) (c.in-Some.field-0 + 1) valid), λ _. search rules)
