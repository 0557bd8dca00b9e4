use Rattle.linker_base.proofs.Imports.{drop, get_or, ℕ, ◌%◌, ◌*◌, ◌+◌, ◌/◌, ◌<◌, ◌^◌, ◌≡◌}
use Rattle.linker_base.proofs.utils.write_uleb128.Given as goal

abbrev pub invariant-loop-i : goal.invariant-loop-i
invariant-loop-i l = record {
  written : (k : ℕ) → k < l.i → get_or l.dest k 0 ≡ 128 + l.value / 2 ^ (7 * k) % 128;
  rest : drop (l.last + 1) l.dest ≡ drop (l.last + 1) l.initial.dest;
}
