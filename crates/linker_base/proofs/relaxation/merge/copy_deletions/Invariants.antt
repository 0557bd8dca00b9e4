use Rattle.linker_base.proofs.Imports.{length, map, take, vec_capacity, vec_len, ◌≡◌}
use Rattle.linker_base.proofs.relaxation.merge.copy_deletions.Given as goal

abbrev pub invariant-loop-at : goal.invariant-loop-at
invariant-loop-at g l = record {
  room : vec_capacity l.copy ≡ length l.deletions;
  pushed : vec_len l.copy ≡ l.at;
  same : l.copy.items ≡ take l.at (map g.D.AsDeletion.deletion l.deletions);
}
