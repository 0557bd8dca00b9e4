use Rattle.linker_runs.proofs.Imports.{AreCautious, AreForced, choice_of, length, sum, ℕ, ◌*◌, ◌-◌, ◌≤◌}
use Rattle.linker_runs.proofs.relaxation.cautious.choose_cautiously.Given as goal

abbrev pub invariant-loop-shapes : goal.invariant-loop-shapes
invariant-loop-shapes l = record {
  freed : AreCautious l.items l.shapes l.freed 0 0;
  short : (i : ℕ) → choice_of l.shapes i ≤ 2;
  forced : AreForced l.items l.shapes;
}

abbrev pub decreases-loop-shapes : goal.decreases-loop-shapes
decreases-loop-shapes l = 2 * length l.shapes - sum l.shapes
