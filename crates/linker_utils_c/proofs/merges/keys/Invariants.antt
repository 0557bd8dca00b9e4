use Rattle.linker_utils_c.proofs.Imports.{length, map, pair_of_key, pairs_in, take, vec_capacity, vec_len, ◌≡◌}
use Rattle.linker_utils_c.proofs.merges.keys.Given as goal

abbrev pub invariant-loop-deletion : goal.invariant-loop-deletion
invariant-loop-deletion l = record {
  room : vec_capacity l.keys ≡ length l.deletions;
  pushed : vec_len l.keys ≡ l.deletion-index;
  same : map pair_of_key l.keys.items ≡ take l.deletion-index (pairs_in l.deletions);
}
