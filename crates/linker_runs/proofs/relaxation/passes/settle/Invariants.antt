use Rattle.linker_runs.proofs.Imports.{AreFreed, IsInReachExactly, after_rounds, choice_of, ℕ, ◌<◌, ◌≡◌, ◌≤◌}
use Rattle.linker_runs.proofs.relaxation.passes.settle.Given as goal

abbrev pub invariant-loop-round : goal.invariant-loop-round
invariant-loop-round l = record {
  freed : AreFreed l.start l.items l.shapes l.freed;
  short : (i : ℕ) → choice_of l.shapes i ≤ 2;
  same : (i : ℕ) → choice_of l.shapes i ≡ after_rounds l.start l.items l._round i;
  none : (r : ℕ) → r < l._round → ¬ IsInReachExactly l.start l.items (after_rounds l.start l.items r);
}
