use Rattle.linker_runs.proofs.Imports.{run_granularity, take, ◌<◌, ◌≡◌}
use Rattle.linker_runs.proofs.relaxation.validity.run_granularity.Given as goal

abbrev pub invariant-loop-index : goal.invariant-loop-index
invariant-loop-index l = (l.granularity ≡ run_granularity (take l.index l.items)) × (0 < l.granularity)
