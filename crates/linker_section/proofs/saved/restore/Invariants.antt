use Rattle.linker_section.proofs.Imports.{List, Restores, ℕ, ◌≤◌}
use Rattle.linker_section.proofs.saved.restore.Given as goal

abbrev pub invariant-loop-index : goal.invariant-loop-index
invariant-loop-index l = record {
  within : l.index ≤ l.count;
  restores : (before : List ℕ)
      → Restores l.architecture l.relocations l.memory l.count l.fn.section before
      → Restores l.architecture l.relocations l.memory l.index l.section before;
}

abbrev pub decreases-loop-index : goal.decreases-loop-index
decreases-loop-index l = l.index
