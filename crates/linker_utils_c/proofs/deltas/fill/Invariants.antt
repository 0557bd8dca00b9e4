use Rattle.linker_utils_c.proofs.Imports.{RecordsDeletions, bytes_of, length, pairs_in, take, ◌≡◌}
use Rattle.linker_utils_c.proofs.deltas.fill.Given as goal

abbrev pub invariant-loop-at : goal.invariant-loop-at
invariant-loop-at l = record {
  room : length l.deltas ≡ length l.deletions;
  listing : RecordsDeletions (take l.at (pairs_in l.deletions)) (take l.at l.deltas);
  sum : l.cumulative_deleted ≡ bytes_of (take l.at (pairs_in l.deletions));
}
