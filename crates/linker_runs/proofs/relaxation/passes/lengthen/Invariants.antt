use Rattle.linker_runs.proofs.Imports.{choice_of, false, get_or, is_in_reach, lengthened, sum, true, ℕ, ◌<◌, ◌≡◌, ◌≤◌}
use Rattle.linker_runs.proofs.relaxation.passes.lengthen.Given as goal

abbrev pub invariant-loop-index : goal.invariant-loop-index
invariant-loop-index l = record {
  done : (k : ℕ) → k < l.index → get_or l.shapes k 0 ≡ lengthened l.start l.items (choice_of l.initial.shapes) k;
  left : (k : ℕ) → l.index ≤ k → get_or l.shapes k 0 ≡ get_or l.initial.shapes k 0;
  short : (k : ℕ) → get_or l.shapes k 0 ≤ 2;
  same : l.longer ≡ false → l.shapes ≡ l.initial.shapes;
  reached : l.longer ≡ false → (k : ℕ) → k < l.index → is_in_reach l.start l.items (choice_of l.initial.shapes) k ≡ true;
  no_less : sum l.initial.shapes ≤ sum l.shapes;
  out : l.longer ≡ true → (k : ℕ) × (k < l.index) × (is_in_reach l.start l.items (choice_of l.initial.shapes) k ≡ false);
  longer : l.longer ≡ true → sum l.initial.shapes < sum l.shapes;
}
