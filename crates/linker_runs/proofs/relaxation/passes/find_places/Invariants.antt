use Rattle.linker_runs.proofs.Imports.{IsAlwaysInReach, get_or, item_at, length, place_of, target_of, ℕ, ◌<◌, ◌≡◌, ◌⊎◌}
use Rattle.linker_runs.proofs.relaxation.passes.find_places.Given as goal

abbrev pub invariant-loop-index : goal.invariant-loop-index
invariant-loop-index l = record {
  each : (k : ℕ) → k < l.index → (get_or l.places k 0 ≡ place_of l.items (target_of (item_at l.items k)))
      ⊎ ((length l.items < get_or l.places k 0) × IsAlwaysInReach l.start l.items k);
}
