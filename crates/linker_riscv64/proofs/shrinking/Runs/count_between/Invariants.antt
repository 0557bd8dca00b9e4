use Rattle.linker_riscv64.proofs.Imports.{chosen_count, map, take, ◌*◌, ◌+◌, ◌≡◌}
use Rattle.linker_riscv64.proofs.shrinking.Runs.count_between.Given as goal

abbrev pub invariant-loop-run : goal.invariant-loop-run
invariant-loop-run g l = l.count + chosen_count (take l.from (map g.A.AsChoice.choice l.answer)) ≡ chosen_count (take (l.run * l.self.len) (map g.A.AsChoice.choice l.answer))
