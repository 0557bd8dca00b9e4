use Rattle.linker_section.proofs.Imports.{relocation32_in, relocation_in, ℕ, ◌<◌, ◌≡◌}
use Rattle.linker_section.proofs.riscv32.read_rela32.Given as goal

-- the relocations below the index are copied
abbrev pub invariant-loop-index : goal.invariant-loop-index
invariant-loop-index l =
    (n : ℕ) → n < l.index → relocation_in l.copied n ≡ relocation32_in l.entries n
