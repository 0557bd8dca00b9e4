use Rattle.linker_output.proofs.Imports.{get_or, length, place_of, stub_at, ℕ, ◌<◌, ◌≡◌}
use Rattle.linker_output.proofs.placement.State.find_places.Given as goal

abbrev pub invariant-loop-stub : goal.invariant-loop-stub
invariant-loop-stub l = record {
  len : length l.places.items ≡ l.stub-index;
  each : (j : ℕ) → j < l.stub-index → get_or l.places.items j 0 ≡ place_of l.code l.self.groups.items l.before (stub_at l.self.stubs.items j);
}
