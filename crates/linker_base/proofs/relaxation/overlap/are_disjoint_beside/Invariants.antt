use Rattle.linker_base.proofs.Imports.{AreDisjointBeside, drop, length, map, pairs_of, ◌-◌, ◌≤◌}
use Rattle.linker_base.proofs.relaxation.overlap.are_disjoint_beside.Given as goal

abbrev pub invariant-loop-at : goal.invariant-loop-at
invariant-loop-at g l = record {
  within : l.at ≤ length l.deletions;
  rest : AreDisjointBeside (drop l.at (map g.D.AsDeletion.deletion l.deletions)) (pairs_of l.batches) → AreDisjointBeside (map g.D.AsDeletion.deletion l.deletions) (pairs_of l.batches);
}

abbrev pub decreases-loop-at : goal.decreases-loop-at
decreases-loop-at g l = length l.deletions - l.at
