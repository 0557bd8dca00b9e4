-- Relocations that are applied: their values are computed and written.
use Rattle.linker_elf.specs.Imports.{Operands}
use Rattle.std.specs.Prelude.{List, Some, ℕ, ℤ, ◌≡◌}
use Rattle.linker_elf.specs.Relocate.{IsAccepted, IsWritten}
use Rattle.linker_elf.specs.Value.{value_of}
use Rattle.linker_elf.specs.declared.elf.RowInfo.{RowInfo}

-- The relocation has a value, which is written.
pub record IsApplied (row : RowInfo) (o : Operands)
    (before after : List ℕ) : Type 0 where
  pub value : ℤ
  pub value_is : value_of row o ≡ Some value
  pub accepted : IsAccepted row value before
  pub written : IsWritten row.size row.kind value before after

-- It has no value, or one that isn't accepted.
abbrev pub IsRejected : RowInfo → Operands → List ℕ → Type 0
IsRejected row o before = (v : ℤ) → value_of row o ≡ Some v → ¬ IsAccepted row v before
