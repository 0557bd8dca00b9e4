use Rattle.linker_output.proofs.Imports.{IsAt, length, list_at, list_of, ℕ, ◌+◌, ◌<◌, ◌≡◌, ◌≤◌}
use Rattle.linker_output.proofs.placement.State.find.Given as goal

abbrev pub invariant-loop-above : goal.invariant-loop-above
invariant-loop-above l = record {
  within : l.above ≤ length l.self.stubs.items;
  listed : (j : ℕ) → l.above ≡ j + 1 → list_at (length l.code.branches.now) l.self.stubs.items j ≡ list_of (length l.code.branches.now) l.boundary l.target;
  rest : (s : ℕ) → IsAt l.self.stubs.items l.boundary l.part l.target s → s < l.above;
}

abbrev pub decreases-loop-above : goal.decreases-loop-above
decreases-loop-above l = l.above
