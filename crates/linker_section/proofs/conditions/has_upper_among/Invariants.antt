use Rattle.linker_section.proofs.Imports.{false, is_upper, relocation_in, ℕ, ◌<◌, ◌≡◌, ◌≤◌}
use Rattle.linker_section.proofs.conditions.has_upper_among.Given as goal

abbrev pub invariant-loop-index : goal.invariant-loop-index
invariant-loop-index l =
    (k : ℕ) → l.from ≤ k → k < l.index → is_upper l.high (relocation_in l.relocations k) ≡ false
