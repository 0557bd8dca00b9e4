use Rattle.linker_section.proofs.Imports.{IsWrapped, length, relocation_in, ℕ, ◌/◌, ◌<◌, ◌≡◌, ◌≤◌}
use Rattle.linker_section.proofs.riscv32.wrap_addends.Given as goal

-- the relocations below the index are wrapped, and the others are as they were
abbrev pub invariant-loop-index : goal.invariant-loop-index
invariant-loop-index l = record {
  done : (n : ℕ) → n < l.index → IsWrapped l.addresses l.symbols (relocation_in l.initial.whole n) (relocation_in l.whole n);
  others : (n : ℕ) → l.index ≤ n → n < length l.initial.whole / 24 → relocation_in l.whole n ≡ relocation_in l.initial.whole n;
}
