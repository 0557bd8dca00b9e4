use Rattle.linker_section.proofs.Imports.{ArePast, AreSmall, IsOfRuns, List, ℕ, ◌-◌, ◌≤◌}
use Rattle.linker_section.proofs.order.are_runs_apart.Given as goal

abbrev pub invariant-loop-first : goal.invariant-loop-first
invariant-loop-first l = record {
  within : l.first ≤ l.start;
  past : (section : List ℕ) → AreSmall l.architecture l.relocations section
      → ArePast l.architecture l.relocations section (IsOfRuns l.relocations l.start l.first l.second) l.last;
}

abbrev pub decreases-loop-first : goal.decreases-loop-first
decreases-loop-first l = l.start - l.first

abbrev pub invariant-loop-second : goal.invariant-loop-second
invariant-loop-second l = record {
  within : l.first ≤ l.start;
  past : (section : List ℕ) → AreSmall l.architecture l.relocations section
      → ArePast l.architecture l.relocations section (IsOfRuns l.relocations l.start l.first l.second) l.last;
}
