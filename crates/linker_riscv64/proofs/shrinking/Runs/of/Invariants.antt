use Rattle.linker_riscv64.proofs.Imports.{chosen_between, get_or, length, map, min, ℕ, ◌*◌, ◌+◌, ◌<◌, ◌≡◌}
use Rattle.linker_riscv64.proofs.shrinking.Runs.of.Given as goal

abbrev pub invariant-loop-run : goal.invariant-loop-run
invariant-loop-run g l = record {
  many : length l.counts ≡ 1024;
  start : l.start ≡ min (l.run * l.len) (length l.answer);
  counted : (r : ℕ) (d : ℕ) → r < l.run → get_or l.counts r d ≡ chosen_between (map g.A.AsChoice.choice l.answer) (r * l.len) (r * l.len + l.len);
}
