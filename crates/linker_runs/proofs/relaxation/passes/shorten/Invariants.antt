use Rattle.linker_runs.proofs.Imports.{get_or, ℕ, ◌<◌, ◌≡◌}
use Rattle.linker_runs.proofs.relaxation.passes.shorten.Given as goal

abbrev pub invariant-loop-shape : goal.invariant-loop-shape
invariant-loop-shape l = (k : ℕ) → k < l.shape-index → get_or l.shapes k 0 ≡ 0
