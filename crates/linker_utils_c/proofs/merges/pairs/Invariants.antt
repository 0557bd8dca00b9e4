use Rattle.linker_utils_c.proofs.Imports.{length, map, take, vec_capacity, vec_len, ◌≡◌}
use Rattle.linker_utils_c.proofs.merges.pairs.Given as goal

abbrev pub invariant-loop-deletion : goal.invariant-loop-deletion
invariant-loop-deletion g l = record {
  room : vec_capacity l.pairs ≡ length l.deletions;
  pushed : vec_len l.pairs ≡ l.deletion-index;
  same : l.pairs.items ≡ take l.deletion-index (map g.D.AsDeletion.deletion l.deletions);
}
