use Rattle.linker_base.proofs.Imports.{AreDisjoint, IsValid, deletion_of, length, map, take, ◌++◌, ◌-◌, ◌<◌, ◌≤◌}
use Rattle.linker_base.proofs.relaxation.overlap.first_overlapping_sorted.Given as goal

abbrev pub invariant-loop-high : goal.invariant-loop-high
invariant-loop-high g l = record {
  within : l.high ≤ length l.additional;
  order : l.low ≤ l.high;
  some : IsValid (map deletion_of l.deltas) → l.low < l.high;
  below : IsValid (map deletion_of l.deltas) → AreDisjoint (map deletion_of l.deltas ++ take l.low (map g.D.AsDeletion.deletion l.additional));
  above : IsValid (map deletion_of l.deltas) → AreDisjoint (map deletion_of l.deltas ++ take l.high (map g.D.AsDeletion.deletion l.additional)) → ⊥;
}

abbrev pub decreases-loop-high : goal.decreases-loop-high
decreases-loop-high g l = l.high - l.low
