use Rattle.linker_output.proofs.Imports.{StubReaches, ℕ, ◌<◌}
use Rattle.linker_output.proofs.placement.Layout.first_short.Given as goal

abbrev pub invariant-loop-index : goal.invariant-loop-index
invariant-loop-index l = (j : ℕ) → j < l.index → StubReaches l.code l.self j
