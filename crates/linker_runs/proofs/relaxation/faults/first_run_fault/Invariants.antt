use Rattle.linker_runs.proofs.Imports.{Fault, RunMeets, ℕ, ◌<◌}
use Rattle.linker_runs.proofs.relaxation.faults.first_run_fault.Given as goal

abbrev pub invariant-loop-index : goal.invariant-loop-index
invariant-loop-index l = (k : ℕ) → k < l.index → (fault : Fault) → RunMeets l.granularity l.start l.items k fault
