use Rattle.linker_section.proofs.Imports.{IsNoHighPart, relocation_in, ℕ, ◌<◌}
use Rattle.linker_section.proofs.values.high_part.Given as goal

abbrev pub invariant-loop-index : goal.invariant-loop-index
invariant-loop-index l =
    (k : ℕ) → k < l.index → IsNoHighPart l.architecture l.low l.at (relocation_in l.relocations k)
