use Rattle.linker_base.proofs.Imports.{BlockHead, RelaxDelta, blocks_of, get_or, head_of, length, vec_capacity, vec_len, ℕ, ◌*◌, ◌<◌, ◌≡◌, ◌≤◌}
use Rattle.linker_base.proofs.relaxation.blocks.fill_heads.Given as goal

abbrev pub invariant-loop-block : goal.invariant-loop-block
invariant-loop-block l = record {
  room : vec_capacity l.heads ≡ vec_capacity l.initial.heads;
  pushed : vec_len l.heads ≡ l.block;
  within : l.block ≤ blocks_of (length l.deltas);
  each : (b : ℕ) (h : BlockHead) (d : RelaxDelta) → b < l.block → get_or l.heads.items b h ≡ head_of (get_or l.deltas (64 * b) d);
}
