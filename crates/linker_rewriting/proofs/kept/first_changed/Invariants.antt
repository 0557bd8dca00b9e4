use Rattle.linker_rewriting.proofs.Imports.{AreAsKept}
use Rattle.linker_rewriting.proofs.kept.first_changed.Given as goal

abbrev pub invariant-loop-index : goal.invariant-loop-index
invariant-loop-index l = AreAsKept l.output l.symbols l.kept l.relocations l.index
