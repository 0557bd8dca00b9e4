use Rattle.linker_runs.proofs.Imports.{AreCautious, AreForced, choice_of, false, get_or, is_in_reach_cautiously, length, sum, ℕ, ◌<◌, ◌^◌, ◌≡◌, ◌≤◌}
use Rattle.linker_runs.proofs.relaxation.cautious.sweep_ahead.Given as goal

abbrev pub invariant-loop-index : goal.invariant-loop-index
invariant-loop-index l = record {
  freed : AreCautious l.items l.shapes l.freed l.index l.more;
  fits : get_or l.freed (length l.items) 0 < 2 ^ 64;
  short : (i : ℕ) → choice_of l.shapes i ≤ 2;
  forced : AreForced l.items l.shapes;
  longer : sum l.initial.shapes ≤ sum l.shapes;
  no_shorter : (k : ℕ) → choice_of l.initial.shapes k ≤ choice_of l.shapes k;
  left : (k : ℕ) → l.index ≤ k → choice_of l.shapes k ≡ choice_of l.initial.shapes k;
  done : (k : ℕ) → k < l.index → is_in_reach_cautiously l.items (choice_of l.initial.shapes) k ≡ false → choice_of l.initial.shapes k < choice_of l.shapes k;
}
