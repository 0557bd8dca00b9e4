use Rattle.linker_base.proofs.Imports.{deletion_of, length, map, ◌+◌, ◌-◌}
use Rattle.linker_base.proofs.Fronts.{IsMergedUpTo}
use Rattle.linker_base.proofs.relaxation.delta_slice.DeltaSlice.merge_ascending.Given as goal

abbrev pub invariant-loop-passed : goal.invariant-loop-passed
invariant-loop-passed g l = IsMergedUpTo (map deletion_of l.deltas) (map g.D.AsDeletion.deletion l.additional) l.passed l.taken l.merged l.bytes

abbrev pub decreases-loop-passed : goal.decreases-loop-passed
decreases-loop-passed g l = length l.deltas - l.passed + (length l.additional - l.taken)

abbrev pub invariant-loop-deletion : goal.invariant-loop-deletion
invariant-loop-deletion g l = IsMergedUpTo (map deletion_of l.deltas) (map g.D.AsDeletion.deletion l.additional) l.passed l.taken l.merged l.bytes

abbrev pub decreases-loop-deletion : goal.decreases-loop-deletion
decreases-loop-deletion g l = length l.deltas - l.passed + (length l.additional - l.taken)
