use Rattle.linker_runs.proofs.Imports.{ArePlaced, deleted_before, length, map, ◌≡◌}
use Rattle.linker_runs.proofs.items.rewritten.first_misplaced.Given as goal

abbrev pub invariant-loop-index : goal.invariant-loop-index
invariant-loop-index g l =
    let ds = map g.L.AsDeletion.deletion l.deleted in
    record {
      placed : ArePlaced (length l.section) ds l.index;
      end : l.end ≡ deleted_before ds l.index;
    }
