use Rattle.linker_utils_c.proofs.Imports.{length, placed_at, placed_stub, ℕ, ◌<◌, ◌≡◌, ◌≤◌}
use Rattle.linker_utils_c.proofs.placement.put_stubs.Given as goal

abbrev pub invariant-loop-index : goal.invariant-loop-index
invariant-loop-index l = record {
  room : length l.stubs ≡ length l.initial.stubs;
  written : (k : ℕ) → k < l.index → placed_at l.stubs k ≡ placed_stub l.layout k;
  left : (k : ℕ) → l.index ≤ k → placed_at l.stubs k ≡ placed_at l.initial.stubs k;
}
