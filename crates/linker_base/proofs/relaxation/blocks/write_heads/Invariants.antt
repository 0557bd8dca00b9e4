use Rattle.linker_base.proofs.Imports.{BlockHead, RelaxDelta, get_or, head_of, ℕ, ◌*◌, ◌<◌, ◌≡◌}
use Rattle.linker_base.proofs.relaxation.blocks.write_heads.Given as goal

abbrev pub invariant-loop-block : goal.invariant-loop-block
invariant-loop-block l = (b : ℕ) (h : BlockHead) (d : RelaxDelta) → b < l.block → get_or l.heads b h ≡ head_of (get_or l.deltas (64 * b) d)
