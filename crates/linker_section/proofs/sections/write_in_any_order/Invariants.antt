use Rattle.linker_section.proofs.Imports.{Reached, Some, length, ◌-◌, ◌/◌, ◌≡◌}
use Rattle.linker_section.proofs.sections.write_in_any_order.Given as goal

abbrev pub invariant-loop-index : goal.invariant-loop-index
invariant-loop-index g l = record {
  reached : Reached l.architecture l.addresses l.relocations (g.S.Symbols.values l.symbols) (Some l.limit) l.fn.section
      l.section l.memory l.index l.last;
  room : length l.memory ≡ length l.fn.memory;
}

abbrev pub decreases-loop-index : goal.decreases-loop-index
decreases-loop-index g l = length l.relocations / 24 - l.index
