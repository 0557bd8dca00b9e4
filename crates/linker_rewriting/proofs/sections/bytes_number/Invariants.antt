use Rattle.linker_rewriting.proofs.Imports.{bytes_number, ◌≡◌}
use Rattle.linker_rewriting.proofs.sections.bytes_number.Given as goal

abbrev pub invariant-loop-index : goal.invariant-loop-index
invariant-loop-index l = l.number ≡ bytes_number l.section l.start l.index
