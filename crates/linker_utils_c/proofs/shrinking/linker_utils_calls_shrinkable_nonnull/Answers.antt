use Rattle.linker_utils_c.proofs.Imports.{arith, calls_in, deletions_of, shrinkable_taken, ◌+◌}
use Rattle.linker_utils_c.proofs.shrinking.linker_utils_calls_shrinkable_nonnull.Goals as goal

pub returns-in-Some-clause-shrinkable : goal.returns-in-Some-clause-shrinkable
returns-in-Some-clause-shrinkable c valid = (
  λ zero. absurd (omega (arith, zero)),
  λ all. absurd ((c.in-Some.ensures valid).here (shrinkable_taken (deletions_of c.args.deltas.now) (calls_in c.args.calls.now) (c.in-Some.index + 1) all)),
)
