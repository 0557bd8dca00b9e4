use Rattle.linker_runs.proofs.Imports.{AreReady, AreValidDeltas, IsFilled, IsPosition, IsWrittenTo, deletions_of, item_at, length, offset_of, packed_offset, section_of, ◌+◌, ◌<◌, ◌≡◌, ◌≤◌}
use Rattle.linker_runs.proofs.packing.put_items.Given as goal

-- the walk isn't past the next item, and the items so far are written
abbrev pub invariant-loop-index : goal.invariant-loop-index
invariant-loop-index l = record {
  rises : AreReady l.machine (section_of l.section l.base (deletions_of l.deltas) l.start) l.items (length l.items)
      → l.index < length l.items → l.at.input_offset ≤ offset_of (item_at l.items l.index);
  position : AreValidDeltas l.deltas → IsPosition l.deltas l.begin
      → AreReady l.machine (section_of l.section l.base (deletions_of l.deltas) l.start) l.items (length l.items)
      → IsPosition l.deltas l.at;
  put : AreValidDeltas l.deltas → IsPosition l.deltas l.begin
      → length l.packed ≡ packed_offset (section_of l.section l.base (deletions_of l.deltas) l.start) (l.base + length l.section)
      → AreReady l.machine (section_of l.section l.base (deletions_of l.deltas) l.start) l.items (length l.items)
      → IsFilled (deletions_of l.deltas) l.base l.section l.initial.packed
      → IsWrittenTo l.machine (section_of l.section l.base (deletions_of l.deltas) l.start) l.items l.index l.packed;
}
