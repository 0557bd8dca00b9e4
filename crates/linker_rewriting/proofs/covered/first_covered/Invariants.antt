use Rattle.linker_rewriting.proofs.Imports.{IsCovered, IsPlace, decision_in, length, map, ℕ, ◌/◌, ◌<◌}
use Rattle.linker_rewriting.proofs.covered.first_covered.Given as goal

abbrev pub invariant-loop-index : goal.invariant-loop-index
invariant-loop-index l = record {
  clear : (n : ℕ) → n < l.index → ¬ IsCovered l.architecture l.relocations l.section (map decision_in l.decisions) (length l.relocations / 24) n;
  place : IsPlace l.relocations (map decision_in l.decisions) (length l.relocations / 24) l.place;
}
