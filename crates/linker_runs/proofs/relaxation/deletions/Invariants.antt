use Rattle.linker_runs.proofs.Imports.{deletions_before, ◌≡◌}
use Rattle.linker_runs.proofs.relaxation.deletions.Given as goal

abbrev pub invariant-loop-index : goal.invariant-loop-index
invariant-loop-index l = l.raw.items ≡ deletions_before l.list l.kept l.index
