use Rattle.linker_section.proofs.Imports.{AreApart, IsOverlappedBelow, length, ◌-◌, ◌/◌, ◌<◌, ◌≤◌}
use Rattle.linker_section.proofs.order.least_overlap.Given as goal

abbrev pub invariant-loop-high : goal.invariant-loop-high
invariant-loop-high l = record {
  order : l.low < l.high;
  within : l.high ≤ length l.relocations / 24;
  apart : AreApart l.architecture l.relocations l.section l.low;
  overlapped : IsOverlappedBelow l.architecture l.relocations l.section l.high;
}

abbrev pub decreases-loop-high : goal.decreases-loop-high
decreases-loop-high l = l.high - l.low
