use Rattle.linker_riscv64.proofs.Imports.{AreClear, AreEightApart, HaveHit, length, map, ◌<◌, ◌≤◌}
use Rattle.linker_riscv64.proofs.shrinking.shrinkable_targets_len.Given as goal

abbrev pub invariant-loop-index : goal.invariant-loop-index
invariant-loop-index g l = record {
  within : l.first ≤ length l.calls;
  clear : AreEightApart (map g.C.AsCall.call l.calls) → AreClear (map g.C.AsCall.call l.calls) l.index l.first;
  found : AreEightApart (map g.C.AsCall.call l.calls) → l.first < length l.calls → HaveHit (map g.C.AsCall.call l.calls) l.first;
}
