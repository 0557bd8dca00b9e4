use Rattle.linker_output.proofs.Imports.{bytes_before, get_or, ℕ, ◌<◌, ◌≡◌}
use Rattle.linker_output.proofs.placement.laying.lay_out.Given as goal

abbrev pub invariant-loop-index : goal.invariant-loop-index
invariant-loop-index l = record {
  bytes : l.bytes ≡ bytes_before l.shape l.groups l.index;
  written : (k : ℕ) → k < l.index → get_or l.before k 0 ≡ bytes_before l.shape l.groups k;
}
