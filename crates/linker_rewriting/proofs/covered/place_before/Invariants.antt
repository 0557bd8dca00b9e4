use Rattle.linker_rewriting.proofs.Imports.{◌≤◌}
use Rattle.linker_rewriting.proofs.covered.place_before.Given as goal

abbrev pub invariant-loop-at : goal.invariant-loop-at
invariant-loop-at l = l.at ≤ l.from

abbrev pub decreases-loop-at : goal.decreases-loop-at
decreases-loop-at l = l.at
