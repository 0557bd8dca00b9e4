use Rattle.linker_runs.proofs.Imports.{choice_of, freed_before, get_or, ℕ, ◌<◌, ◌≡◌}
use Rattle.linker_runs.proofs.relaxation.passes.lay_out.Given as goal

abbrev pub invariant-loop-index : goal.invariant-loop-index
invariant-loop-index l = record {
  before : l.before ≡ freed_before l.start l.items (choice_of l.shapes) l.index;
  written : (k : ℕ) → k < l.index → get_or l.freed k 0 ≡ freed_before l.start l.items (choice_of l.shapes) k;
}
