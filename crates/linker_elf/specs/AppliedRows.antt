-- What is made of a relocation whose value is computed and written at once, and why it isn't.
use Rattle.linker_elf.specs.Imports.{FormulaError, Operands}
use Rattle.std.specs.Prelude.{Err, List, None, Ok, Option, Result, Some, ℕ, ℤ, ◌≡◌}
use Rattle.linker_elf.specs.Relocate.{WritesRow, RejectsValue}
use Rattle.linker_elf.specs.Value.{value_given}
use Rattle.linker_elf.specs.declared.elf.RowInfo.{RowInfo}
use Rattle.linker_elf.specs.declared.elf.relocate.ApplyError.{ApplyError}
use Rattle.linker_elf.specs.declared.elf.relocate.ApplyError.TheVariants.{Formula, Write}

-- a value is written, or rejected
abbrev pub IsWrittenOrRejected : RowInfo → ℤ → List ℕ → List ℕ → Result Unit ApplyError
    → Type 0
IsWrittenOrRejected row v before after (Ok u) = WritesRow row v before after
IsWrittenOrRejected row v before after (Err (Formula error)) = ⊥
IsWrittenOrRejected row v before after (Err (Write error)) = RejectsValue row v before after error

-- so is the one that there is
abbrev pub IsWrittenIfOk : Result ℤ FormulaError → RowInfo → List ℕ → List ℕ
    → Result Unit ApplyError → Type 0
IsWrittenIfOk (Ok v) row before after outcome = IsWrittenOrRejected row v before after outcome
IsWrittenIfOk (Err error) row before after outcome =
    (outcome ≡ Err (Formula error)) × (after ≡ before)

-- the value of what there is is written, or the outcome says why not
abbrev pub IsAppliedBy : RowInfo → Operands → List ℕ → List ℕ → Result Unit ApplyError
    → Type 0
IsAppliedBy row o before after outcome = IsWrittenIfOk (value_given row o) row before after outcome

-- the same of a relocation with a row
abbrev pub IsAppliedIfKnown : Option RowInfo → Operands → List ℕ → List ℕ
    → Option (Result Unit ApplyError) → Type 0
IsAppliedIfKnown None o before after outcome = (outcome ≡ None) × (after ≡ before)
IsAppliedIfKnown (Some row) o before after None = ⊥
IsAppliedIfKnown (Some row) o before after (Some outcome) = IsAppliedBy row o before after outcome
