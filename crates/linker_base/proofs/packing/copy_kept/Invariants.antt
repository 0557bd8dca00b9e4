use Rattle.linker_base.proofs.Imports.{AreValidDeltas, IsCopied, deletions_of, length, rank, ◌+◌, ◌-◌, ◌≡◌, ◌≤◌}
use Rattle.linker_base.proofs.packing.copy_kept.Given as goal

abbrev pub invariant-loop-index : goal.invariant-loop-index
invariant-loop-index l = record {
  within : l.at ≤ length l.packed;
  copied : AreValidDeltas l.deltas
      → length l.packed ≡ rank (deletions_of l.deltas) (l.base + length l.section) - rank (deletions_of l.deltas) l.base
      → IsCopied (deletions_of l.deltas) l.base l.section l.index l.from l.at l.packed;
}
