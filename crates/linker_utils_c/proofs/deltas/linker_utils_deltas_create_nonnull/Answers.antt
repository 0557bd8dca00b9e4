use Rattle.linker_utils_c.proofs.Imports.{IsValid-take, pairs_in, ◌+◌}
use Rattle.linker_utils_c.proofs.deltas.linker_utils_deltas_create_nonnull.Goals as goal

pub returns-in-Some-clause-created : goal.returns-in-Some-clause-created
returns-in-Some-clause-created c valid = absurd (c.in-Some.ensures.here (IsValid-take (pairs_in c.args.deletions.now) (c.in-Some.at + 1) valid))

pub returns-in-Some-clause-different_lengths : goal.returns-in-Some-clause-different_lengths
returns-in-Some-clause-different_lengths c valid = absurd (c.in-Some.ensures.here (IsValid-take (pairs_in c.args.deletions.now) (c.in-Some.at + 1) valid))
