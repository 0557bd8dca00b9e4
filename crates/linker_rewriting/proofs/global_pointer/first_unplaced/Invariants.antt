use Rattle.linker_rewriting.proofs.Imports.{is_placed, relocation_in, true, ℕ, ◌<◌, ◌≡◌}
use Rattle.linker_rewriting.proofs.global_pointer.first_unplaced.Given as goal

abbrev pub invariant-loop-index : goal.invariant-loop-index
invariant-loop-index l =
    (k : ℕ) → k < l.index
    → is_placed l.bases.addresses.now l.bases.values.now l.bases.gp l.section (relocation_in l.relocations k) ≡ true
