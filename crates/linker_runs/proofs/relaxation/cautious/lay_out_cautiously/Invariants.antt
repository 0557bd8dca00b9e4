use Rattle.linker_runs.proofs.Imports.{cautious_before, choice_of, get_or, ℕ, ◌<◌, ◌≡◌}
use Rattle.linker_runs.proofs.relaxation.cautious.lay_out_cautiously.Given as goal

abbrev pub invariant-loop-index : goal.invariant-loop-index
invariant-loop-index l = record {
  before : l.before ≡ cautious_before l.items (choice_of l.shapes) l.index;
  written : (k : ℕ) → k < l.index → get_or l.freed k 0 ≡ cautious_before l.items (choice_of l.shapes) k;
}
