use Rattle.linker_rewriting.proofs.Imports.{AgreeBelow}
use Rattle.linker_rewriting.proofs.facts.contradiction.Given as goal

abbrev pub invariant-loop-index : goal.invariant-loop-index
invariant-loop-index l = AgreeBelow l.facts l.symbols l.relocations l.index
