use Rattle.linker_base.proofs.Imports.{IsBefore, get_or, map, ℕ, ◌+◌, ◌<◌}
use Rattle.linker_base.proofs.relaxation.overlap.falls.Given as goal

abbrev pub invariant-loop-at : goal.invariant-loop-at
invariant-loop-at g l = (k : ℕ) → k + 1 < l.at → IsBefore (get_or (map g.D.AsDeletion.deletion l.deletions) (k + 1) (0, 0)) (get_or (map g.D.AsDeletion.deletion l.deletions) k (0, 0))
