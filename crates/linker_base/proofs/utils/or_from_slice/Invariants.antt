use Rattle.linker_base.proofs.Imports.{bit_or, drop, get_or, length, ℕ, ◌<◌, ◌≡◌, ◌≤◌}
use Rattle.linker_base.proofs.utils.or_from_slice.Given as goal

abbrev pub invariant-loop-i : goal.invariant-loop-i
invariant-loop-i l = record {
  masked : (k : ℕ) → k < l.i → get_or l.dest k 0 ≡ bit_or (get_or l.initial.dest k 0) (get_or l.mask_bytes k 0);
  still : (k : ℕ) → l.i ≤ k → get_or l.dest k 0 ≡ get_or l.initial.dest k 0;
  rest : drop (length l.mask_bytes) l.dest ≡ drop (length l.mask_bytes) l.initial.dest;
}
