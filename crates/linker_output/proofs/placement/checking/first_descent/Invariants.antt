use Rattle.linker_output.proofs.Imports.{get_or, ℕ, ◌<◌, ◌≤◌}
use Rattle.linker_output.proofs.placement.checking.first_descent.Given as goal

abbrev pub invariant-loop-index : goal.invariant-loop-index
invariant-loop-index l = (i j : ℕ) → i ≤ j → j < l.index → get_or l.boundaries i 0 ≤ get_or l.boundaries j 0
