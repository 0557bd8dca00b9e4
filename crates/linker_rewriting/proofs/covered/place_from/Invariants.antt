use Rattle.linker_rewriting.proofs.Imports.{AreBelow, IsWindow, decision_in, end_at, map, ℕ, ◌<◌, ◌≢◌, ◌≤◌}
use Rattle.linker_rewriting.proofs.covered.place_from.Given as goal

abbrev pub invariant-loop-at : goal.invariant-loop-at
invariant-loop-at l = record {
  below : AreBelow l.windows.relocations.now (map decision_in l.windows.decisions.now) l.at l.below;
  passed : (n : ℕ) → n < l.at → n ≢ l.index → IsWindow l.windows.relocations.now (map decision_in l.windows.decisions.now) n
      → end_at l.windows.relocations.now (map decision_in l.windows.decisions.now) n ≤ l.offset;
}
