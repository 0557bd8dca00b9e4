use Rattle.linker_rewriting.proofs.Imports.{decision_in, map, number_of}
use Rattle.linker_rewriting.proofs.Makeable.{AreChecked}
use Rattle.linker_rewriting.proofs.sections.check_decisions.Given as goal

abbrev pub invariant-loop-index : goal.invariant-loop-index
invariant-loop-index l = AreChecked l.relocations l.section (map decision_in l.decisions) (map number_of l.decisions) l.end l.index
