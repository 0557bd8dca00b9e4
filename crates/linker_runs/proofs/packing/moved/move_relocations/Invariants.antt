use Rattle.linker_runs.proofs.Imports.{AreReady, AreValidDeltas, IsMoved, IsPosition, deletions_of, length, relocation_in, section_of, ℕ, ◌/◌, ◌<◌, ◌≡◌, ◌≤◌}
use Rattle.linker_runs.proofs.packing.moved.move_relocations.Given as goal

-- the relocations below the index are moved, and the others are as they were
abbrev pub invariant-loop-index : goal.invariant-loop-index
invariant-loop-index l = record {
  moved : AreValidDeltas l.deltas → IsPosition l.deltas l.begin → (start : ℕ)
      → AreReady l.machine (section_of l.section l.base (deletions_of l.deltas) start) l.items (length l.items) → (n : ℕ) → n < l.index
      → IsMoved l.machine (section_of l.section l.base (deletions_of l.deltas) start) l.items (relocation_in l.initial.whole n) (relocation_in l.whole n);
  others : (n : ℕ) → l.index ≤ n → n < length l.initial.whole / 24 → relocation_in l.whole n ≡ relocation_in l.initial.whole n;
}
