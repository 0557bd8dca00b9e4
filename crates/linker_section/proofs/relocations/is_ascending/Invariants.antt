use Rattle.linker_section.proofs.Imports.{offset_at, ℕ, ◌+◌, ◌<◌, ◌≡◌, ◌≤◌}
use Rattle.linker_section.proofs.relocations.is_ascending.Given as goal

abbrev pub invariant-loop-index : goal.invariant-loop-index
invariant-loop-index l = record {
  so_far : (i j : ℕ) → i ≤ j → j < l.index → offset_at l.relocations i ≤ offset_at l.relocations j;
  below : (i : ℕ) → i < l.index → offset_at l.relocations i ≤ l.least;
  reached : (i : ℕ) → i + 1 ≡ l.index → l.least ≡ offset_at l.relocations i;
  first : l.index ≡ 0 → l.least ≡ 0;
}
