use Rattle.linker_section.proofs.Imports.{AreWrittenBelow, IfSome, IsFront, IsHighValue, drop, length, ◌*◌, ◌-◌, ◌/◌, ◌≡◌, ◌≤◌}
use Rattle.linker_section.proofs.ascending.write_ascending.Given as goal

abbrev pub invariant-loop-entry : goal.invariant-loop-entry
invariant-loop-entry g l = record {
  below : AreWrittenBelow l.architecture l.addresses l.relocations (g.S.Symbols.values l.symbols) l.fn.section l.section
      l.memory l.index;
  front : IsFront l.architecture l.relocations l.fn.section l.section l.index l.step l.end;
  room : length l.memory ≡ length l.fn.memory;
  rest : l.rest ≡ drop (l.index * 24) l.relocations;
  within : l.index ≤ length l.relocations / 24;
  following : l.step.index ≤ l.index;
  high : IfSome l.high (IsHighValue l.architecture l.addresses l.relocations (g.S.Symbols.knowledge l.symbols));
}

abbrev pub decreases-loop-entry : goal.decreases-loop-entry
decreases-loop-entry g l = length l.relocations / 24 - l.index
