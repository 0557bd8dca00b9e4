use Rattle.linker_rewriting.proofs.Imports.{decision_in, length, map, ◌/◌}
use Rattle.linker_rewriting.proofs.Making.{AreMade}
use Rattle.linker_rewriting.proofs.sections.make_all.Given as goal

abbrev pub invariant-loop-index : goal.invariant-loop-index
invariant-loop-index l =
    AreMade (map decision_in l.decisions) l.fn.relocations l.relocations l.fn.section l.section
    (length l.fn.relocations / 24) l.index
