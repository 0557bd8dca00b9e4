use Rattle.linker_runs.proofs.Imports.{AreWellFormed, map}
use Rattle.linker_runs.specs.SectionItems.{IsFormed}
use Rattle.linker_runs.proofs.items.first_malformed.Given as goal

abbrev pub invariant-loop-index : goal.invariant-loop-index
invariant-loop-index g l = AreWellFormed (IsFormed l.machine l.section) (map g.R.AsRelocation.relocation l.relocations) l.index
