use Rattle.linker_utils_c.proofs.Imports.{AreInOrder, RecordsDeletions, RelaxDelta, bytes_of, deletions_before, get_or, items_in, length, take, ℕ, ◌≡◌, ◌≤◌}
use Rattle.linker_utils_c.proofs.relaxing.write_deltas.Given as goal

abbrev pub invariant-loop-index : goal.invariant-loop-index
invariant-loop-index l = record {
  room : length l.deltas ≡ length l.items;
  few : l.count ≤ l.index;
  counted : l.count ≡ length (deletions_before (items_in l.items) l.kept l.index);
  listed : (start : ℕ) → AreInOrder start (items_in l.items) → RecordsDeletions (deletions_before (items_in l.items) l.kept l.index) (take l.count l.deltas);
  sum : (start : ℕ) → AreInOrder start (items_in l.items) → l.cumulative_deleted ≡ bytes_of (deletions_before (items_in l.items) l.kept l.index);
  left : (k : ℕ) (d : RelaxDelta) → l.count ≤ k → get_or l.deltas k d ≡ get_or l.initial.deltas k d;
}
