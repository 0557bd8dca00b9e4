use Rattle.linker_runs.proofs.Imports.{end_of, item_at, length, ◌-◌, ◌<◌, ◌≤◌}
use Rattle.linker_runs.proofs.items.list.ItemList.place_of.Given as goal

abbrev pub invariant-loop-low : goal.invariant-loop-low
invariant-loop-low l = record {
  order : l.low ≤ l.high;
  within : l.high ≤ length l.self;
  below : 0 < l.low → end_of (item_at l.self (l.low - 1)) ≤ l.offset;
  above : l.high < length l.self → l.offset < end_of (item_at l.self l.high);
}

abbrev pub decreases-loop-low : goal.decreases-loop-low
decreases-loop-low l = l.high - l.low
