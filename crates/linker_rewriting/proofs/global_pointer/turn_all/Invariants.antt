use Rattle.linker_rewriting.proofs.Imports.{decision_at, decision_in, length, map, relocation_by, ◌/◌}
use Rattle.linker_rewriting.proofs.GlobalPointer.{AreTurned}
use Rattle.linker_rewriting.proofs.global_pointer.turn_all.Given as goal

abbrev pub invariant-loop-index : goal.invariant-loop-index
invariant-loop-index l =
    AreTurned (λ n r. relocation_by (decision_at (map decision_in l.decisions) n) r)
    l.fn.relocations l.relocations (length l.fn.relocations / 24) l.index
