use Rattle.linker_utils_c.proofs.Imports.{IsNonDecreasing, length, take, ◌-◌, ◌<◌, ◌≤◌}
use Rattle.linker_utils_c.proofs.deltas.first_decrease.Given as goal

abbrev pub invariant-loop-at : goal.invariant-loop-at
invariant-loop-at l = record {
  some : 1 ≤ l.at;
  within : l.at < length l.queries;
  before : IsNonDecreasing (take l.at l.queries);
}

abbrev pub decreases-loop-at : goal.decreases-loop-at
decreases-loop-at l = length l.queries - l.at
