use Rattle.linker_output.proofs.Imports.{None, Some, false, length, slice_index_or, true, ℕ, ◌<◌, ◌≡◌}
use Rattle.linker_output.proofs.placement.are_used.Given as goal

abbrev pub invariant-loop-stub : goal.invariant-loop-stub
invariant-loop-stub l = record {
  len : length l.used.items ≡ l.len;
  found : (j : ℕ) → slice_index_or l.used.items j false ≡ true → (i : ℕ) × (i < l.stub-index) × (slice_index_or l.stubs i None ≡ Some j);
  marked : (i j : ℕ) → i < l.stub-index → j < l.len → slice_index_or l.stubs i None ≡ Some j → slice_index_or l.used.items j false ≡ true;
}

abbrev pub invariant-loop-index : goal.invariant-loop-index
invariant-loop-index l = (j : ℕ) → j < l.index → slice_index_or l.used.items j false ≡ true
