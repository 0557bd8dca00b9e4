use Rattle.linker_output.proofs.Imports.{get_or, ℕ, ◌<◌, ◌^◌}
use Rattle.linker_output.proofs.placement.checking.are_low.Given as goal

abbrev pub invariant-loop-number : goal.invariant-loop-number
invariant-loop-number l = (k : ℕ) → k < l.number-index → get_or l.numbers k 0 < 2 ^ 62
