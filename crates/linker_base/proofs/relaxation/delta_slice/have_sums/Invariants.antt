use Rattle.linker_base.proofs.Imports.{RelaxDelta, bytes_of, deletion_of, get_or, map, take, ℕ, ◌+◌, ◌<◌, ◌≡◌}
use Rattle.linker_base.proofs.relaxation.delta_slice.have_sums.Given as goal

abbrev pub invariant-loop-delta : goal.invariant-loop-delta
invariant-loop-delta l = record {
  sum : l.sum ≡ bytes_of (take l.delta-index (map deletion_of l.deltas));
  each : (k : ℕ) (d : RelaxDelta) → k < l.delta-index → (get_or l.deltas k d).cumulative_deleted ≡ bytes_of (take (k + 1) (map deletion_of l.deltas));
}
