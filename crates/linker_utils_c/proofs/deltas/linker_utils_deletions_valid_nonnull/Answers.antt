use Rattle.linker_utils_c.proofs.Imports.{IsValid-take, pairs_in, ◌+◌}
use Rattle.linker_utils_c.proofs.deltas.linker_utils_deletions_valid_nonnull.Goals as goal

pub returns-in-Some-clause-valid : goal.returns-in-Some-clause-valid
returns-in-Some-clause-valid c valid = absurd (c.in-Some.ensures.here (IsValid-take (pairs_in c.args.deletions.now) (c.in-Some.at + 1) valid))
