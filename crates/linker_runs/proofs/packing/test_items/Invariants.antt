use Rattle.linker_runs.proofs.Imports.{AreReady, AreValidDeltas, IsPosition, List, deletions_of, end_of, gap_start, item_at, length, section_of, ℕ, ◌+◌, ◌<◌, ◌≡◌, ◌≤◌}
use Rattle.linker_runs.proofs.packing.test_items.Given as goal

-- the items so far lie in the section and can be written, and the walk stands after them
abbrev pub invariant-loop-index : goal.invariant-loop-index
invariant-loop-index l = record {
  inside : (i : ℕ) → i < l.index → end_of (item_at l.items i) ≤ l.base + length l.section;
  stands : (deletions : List (ℕ × ℕ)) (start : ℕ) → l.following.input_offset ≡ gap_start (section_of l.section l.base deletions start) l.items l.index;
  position : AreValidDeltas l.deltas → IsPosition l.deltas l.begin → IsPosition l.deltas l.following;
  ready : AreValidDeltas l.deltas → IsPosition l.deltas l.begin → AreReady l.machine (section_of l.section l.base (deletions_of l.deltas) l.start) l.items l.index;
}
