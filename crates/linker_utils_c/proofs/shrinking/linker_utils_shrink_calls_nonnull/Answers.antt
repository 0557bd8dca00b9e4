use Rattle.linker_utils_c.proofs.Imports.{calls_in, deletions_of, rules, shrinkable_taken, ◌+◌}
use Rattle.linker_utils_c.proofs.shrinking.linker_utils_shrink_calls_nonnull.Goals as goal

pub returns-in-Some-clause-not_shrinkable : goal.returns-in-Some-clause-not_shrinkable
returns-in-Some-clause-not_shrinkable c valid same = (
  λ _ all. (c.in-Some.ensures valid).here (shrinkable_taken (deletions_of c.args.deltas.now) (calls_in c.args.calls.now) (c.in-Some.index + 1) all),
  λ _. search rules,
)
