use Rattle.linker_riscv64.proofs.Imports.{chosen_count, map, take, ◌≡◌}
use Rattle.linker_riscv64.proofs.shrinking.count_between.Given as goal

abbrev pub invariant-loop-choice : goal.invariant-loop-choice
invariant-loop-choice g l = l.count ≡ chosen_count (take l.choice-index (map g.A.AsChoice.choice l.choice-items))
