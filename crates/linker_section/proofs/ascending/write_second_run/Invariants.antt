use Rattle.linker_section.proofs.Imports.{AreWrittenBelow, IfSome, IsHighValue, List, length, ℕ, ◌-◌, ◌/◌, ◌≡◌, ◌≤◌}
use Rattle.linker_section.proofs.ascending.write_second_run.Given as goal

abbrev pub invariant-loop-index : goal.invariant-loop-index
invariant-loop-index g l = record {
  below : (before : List ℕ)
      → AreWrittenBelow l.architecture l.addresses l.relocations (g.S.Symbols.values l.symbols) before l.fn.section l.fn.memory l.start
      → AreWrittenBelow l.architecture l.addresses l.relocations (g.S.Symbols.values l.symbols) before l.section l.memory l.index;
  room : length l.memory ≡ length l.fn.memory;
  within : l.index ≤ length l.relocations / 24;
  high : IfSome l.high (IsHighValue l.architecture l.addresses l.relocations (g.S.Symbols.knowledge l.symbols));
}

abbrev pub decreases-loop-index : goal.decreases-loop-index
decreases-loop-index g l = length l.relocations / 24 - l.index
