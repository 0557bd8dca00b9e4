use Rattle.linker_output.proofs.Imports.{get_or, length, ℕ, ◌-◌, ◌<◌, ◌≤◌}
use Rattle.linker_output.proofs.placement.laying.passed.Given as goal

abbrev pub invariant-loop-low : goal.invariant-loop-low
invariant-loop-low l = record {
  order : l.low ≤ l.high;
  within : l.high ≤ length l.boundaries;
  before : (k : ℕ) → k < l.low → get_or l.boundaries k 0 ≤ l.offset;
  following : (k : ℕ) → l.high ≤ k → k < length l.boundaries → l.offset < get_or l.boundaries k 0;
}

abbrev pub decreases-loop-low : goal.decreases-loop-low
decreases-loop-low l = l.high - l.low
