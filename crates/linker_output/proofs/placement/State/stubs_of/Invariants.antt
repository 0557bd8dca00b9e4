use Rattle.linker_output.proofs.Imports.{IsStubOf, None, branch_at, length, slice_index_or, way_at, ℕ, ◌<◌, ◌≡◌}
use Rattle.linker_output.proofs.placement.State.stubs_of.Given as goal

abbrev pub invariant-loop-index : goal.invariant-loop-index
invariant-loop-index l = record {
  len : length l.stubs.items ≡ l.index;
  each : (i : ℕ) → i < l.index → IsStubOf l.code l.before (branch_at l.code.branches.now i) (way_at l.self.ways.items i) (slice_index_or l.stubs.items i None);
}
