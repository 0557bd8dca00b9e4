use Rattle.linker_section.proofs.Imports.{AreSwept}
use Rattle.linker_section.proofs.order.are_apart.Given as goal

abbrev pub invariant-loop-place : goal.invariant-loop-place
invariant-loop-place l =
    AreSwept l.architecture l.relocations l.section l.order l.count l.place l.last_index l.last
