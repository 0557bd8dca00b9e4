use Rattle.linker_base.proofs.Imports.{length, map, take, ◌≡◌}
use Rattle.linker_base.proofs.relaxation.overlap.copy_first.Given as goal

abbrev pub invariant-loop-at : goal.invariant-loop-at
invariant-loop-at g l = record {
  long : length l.pairs ≡ l.count;
  copied : take l.at l.pairs ≡ take l.at (map g.D.AsDeletion.deletion l.deletions);
}
