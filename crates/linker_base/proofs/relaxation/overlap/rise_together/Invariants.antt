use Rattle.linker_base.proofs.Imports.{deletion_of, length, map, ◌+◌, ◌-◌}
use Rattle.linker_base.proofs.Together.{AreWalked}
use Rattle.linker_base.proofs.relaxation.overlap.rise_together.Given as goal

abbrev pub invariant-loop-passed : goal.invariant-loop-passed
invariant-loop-passed g l = AreWalked (map deletion_of l.deltas) (map g.D.AsDeletion.deletion l.additional) l.passed l.taken l.low

abbrev pub decreases-loop-passed : goal.decreases-loop-passed
decreases-loop-passed g l = length l.deltas - l.passed + (length l.additional - l.taken)

abbrev pub invariant-loop-deletion : goal.invariant-loop-deletion
invariant-loop-deletion g l = AreWalked (map deletion_of l.deltas) (map g.D.AsDeletion.deletion l.additional) l.passed l.taken l.next

abbrev pub decreases-loop-deletion : goal.decreases-loop-deletion
decreases-loop-deletion g l = length l.deltas - l.passed + (length l.additional - l.taken)
