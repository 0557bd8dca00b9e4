use Rattle.linker_section.proofs.Imports.{length, slice_index, ℕ, ◌<◌, ◌≡◌}
use Rattle.linker_section.proofs.order.list_indexes.Given as goal

abbrev pub invariant-loop-index : goal.invariant-loop-index
invariant-loop-index l = record {
  same_length : length l.order ≡ length l.fn.order;
  so_far : (i : ℕ) → i < l.index → slice_index l.order i ≡ i;
}
