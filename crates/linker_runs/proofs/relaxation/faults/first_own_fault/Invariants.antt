use Rattle.linker_runs.proofs.Imports.{Fault, OwnMeets, ℕ, ◌<◌}
use Rattle.linker_runs.proofs.relaxation.faults.first_own_fault.Given as goal

abbrev pub invariant-loop-index : goal.invariant-loop-index
invariant-loop-index l = (k : ℕ) → k < l.index → (fault : Fault) → OwnMeets l.start l.items k fault
