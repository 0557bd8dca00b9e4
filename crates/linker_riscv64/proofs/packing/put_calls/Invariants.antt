use Rattle.linker_riscv64.proofs.Imports.{AreApart, CanJump, IsFilled, IsPackedTo, IsValidView, deletions_of, get_or, length, map, rank, ℕ, ◌<◌, ◌≡◌}
use Rattle.linker_riscv64.proofs.packing.put_calls.Given as goal

-- the calls so far can become jumps, and they are jumps
abbrev pub invariant-loop-index : goal.invariant-loop-index
invariant-loop-index g l = record {
  can : IsValidView l.deltas → (i : ℕ) (call : ℕ × ℕ) → i < l.index → CanJump l.link (deletions_of l.deltas.deltas) l.section (get_or (map g.C.AsCall.call l.calls) i call);
  put : IsValidView l.deltas
      → length l.packed ≡ rank (deletions_of l.deltas.deltas) (length l.section)
      → AreApart (map g.C.AsCall.call l.calls)
      → IsFilled (deletions_of l.deltas.deltas) 0 l.section l.initial.packed
      → IsPackedTo l.link (deletions_of l.deltas.deltas) l.section (map g.C.AsCall.call l.calls) l.index l.packed;
}
