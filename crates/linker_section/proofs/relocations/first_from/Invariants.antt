use Rattle.linker_section.proofs.Imports.{IsAscending, length, offset_at, ℕ, ◌-◌, ◌/◌, ◌<◌, ◌≤◌}
use Rattle.linker_section.proofs.relocations.first_from.Given as goal

abbrev pub invariant-loop-low : goal.invariant-loop-low
invariant-loop-low l = record {
  order : l.low ≤ l.high;
  within : l.high ≤ length l.relocations / 24;
  before : IsAscending l.relocations → (k : ℕ) → k < l.low → offset_at l.relocations k < l.at;
  following : IsAscending l.relocations
      → (k : ℕ) → l.high ≤ k → k < length l.relocations / 24 → l.at ≤ offset_at l.relocations k;
}

abbrev pub decreases-loop-low : goal.decreases-loop-low
decreases-loop-low l = l.high - l.low
