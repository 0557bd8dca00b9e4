use Rattle.linker_riscv64.proofs.Imports.{AreValidDeltas, HaveShrinkableSites, deletions_of, map, take}
use Rattle.linker_riscv64.proofs.shrinking.shrinkable_sites_len.Given as goal

abbrev pub invariant-loop-index : goal.invariant-loop-index
invariant-loop-index g l = AreValidDeltas l.deltas → HaveShrinkableSites (deletions_of l.deltas) (take l.index (map g.C.AsCall.call l.calls))
