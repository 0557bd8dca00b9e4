use Rattle.linker_base.proofs.Imports.{IsBefore, get_or, length, map, ℕ, ◌+◌, ◌-◌, ◌<◌, ◌≤◌}
use Rattle.linker_base.proofs.relaxation.overlap.count_rising.Given as goal

abbrev pub invariant-loop-at : goal.invariant-loop-at
invariant-loop-at g l = record {
  some : 0 < l.at;
  within : l.at ≤ length l.deletions;
  rising : (k : ℕ) → k + 1 < l.at → IsBefore (get_or (map g.D.AsDeletion.deletion l.deletions) k (0, 0)) (get_or (map g.D.AsDeletion.deletion l.deletions) (k + 1) (0, 0));
}

abbrev pub decreases-loop-at : goal.decreases-loop-at
decreases-loop-at g l = length l.deletions - l.at

abbrev pub invariant-loop-at-2 : goal.invariant-loop-at-2
invariant-loop-at-2 g l = record {
  some : 0 < l.at;
  within : l.at ≤ length l.deletions;
  rising : (k : ℕ) → k + 1 < l.at → IsBefore (get_or (map g.D.AsDeletion.deletion l.deletions) k (0, 0)) (get_or (map g.D.AsDeletion.deletion l.deletions) (k + 1) (0, 0));
}

abbrev pub decreases-loop-at-2 : goal.decreases-loop-at-2
decreases-loop-at-2 g l = length l.deletions - l.at
