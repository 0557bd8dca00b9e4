use Rattle.linker_runs.proofs.Imports.{AreCautious, AreForced, choice_of, get_or, is_in_reach_cautiously, length, sum, true, ℕ, ◌-◌, ◌<◌, ◌^◌, ◌≡◌, ◌≤◌}
use Rattle.linker_runs.proofs.relaxation.cautious.sweep_back.Given as goal

abbrev pub invariant-loop-following : goal.invariant-loop-following
invariant-loop-following l = record {
  freed : AreCautious l.items l.shapes l.freed (length l.items - l.following) l.more;
  fits : get_or l.freed (length l.items) 0 < 2 ^ 64;
  short : (i : ℕ) → choice_of l.shapes i ≤ 2;
  forced : AreForced l.items l.shapes;
  same : l.more ≡ 0 → l.shapes ≡ l.initial.shapes;
  reached : l.more ≡ 0 → (k : ℕ) → length l.items - l.following ≤ k → k < length l.items → is_in_reach_cautiously l.items (choice_of l.initial.shapes) k ≡ true;
  longer : 0 < l.more → sum l.initial.shapes < sum l.shapes;
}
