use Rattle.linker_runs.proofs.Imports.{choice_of, freed_before, get_or, item_at, kept_by, ℕ, ◌<◌, ◌≡◌}
use Rattle.linker_runs.proofs.relaxation.passes.keep.Given as goal

abbrev pub invariant-loop-index : goal.invariant-loop-index
invariant-loop-index l = (k : ℕ) → k < l.index → get_or l.kept k 0 ≡ kept_by l.start (item_at l.items k) (choice_of l.shapes k) (freed_before l.start l.items (choice_of l.shapes) k)
