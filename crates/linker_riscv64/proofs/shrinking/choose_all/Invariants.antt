use Rattle.linker_riscv64.proofs.Imports.{All, IsChosen, map, take, ℕ, ◌<◌}
use Rattle.linker_riscv64.proofs.shrinking.choose_all.Given as goal

abbrev pub invariant-loop-choice : goal.invariant-loop-choice
invariant-loop-choice g l = record {
  chosen : (i : ℕ) → i < l.choice-index → IsChosen (map g.A.AsChoice.choice l.answer) i;
  written : All g.A.AsChoice.is_written (take l.choice-index l.answer);
}
