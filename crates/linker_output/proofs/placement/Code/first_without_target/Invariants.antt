use Rattle.linker_output.proofs.Imports.{HasTarget, ℕ, ◌<◌}
use Rattle.linker_output.proofs.placement.Code.first_without_target.Given as goal

abbrev pub invariant-loop-index : goal.invariant-loop-index
invariant-loop-index l = (k : ℕ) → k < l.index → HasTarget l.self k
