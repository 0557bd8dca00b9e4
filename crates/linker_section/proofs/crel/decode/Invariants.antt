use Rattle.linker_section.proofs.Imports.{Ok, after, length, ◌/◌, ◌≡◌, ◌≤◌}
use Rattle.linker_section.proofs.Crels.{AreWritten}
use Rattle.linker_section.proofs.crel.decode.Given as goal

abbrev pub invariant-loop-index : goal.invariant-loop-index
invariant-loop-index l = record {
  reached : after l.index l.header l.section ≡ Ok l.place;
  within : l.place.next ≤ length l.section;
  each : AreWritten l.header l.section l.index (length l.fn.relocations / 24) l.relocations;
}
