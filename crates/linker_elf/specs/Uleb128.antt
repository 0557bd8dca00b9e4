-- What two relocations make of the ULEB128 number that they are at (RISC-V and
-- LoongArch ELF psABIs: `R_RISCV_SET_ULEB128` and `R_RISCV_SUB_ULEB128`,
-- `R_LARCH_ADD_ULEB128` and `R_LARCH_SUB_ULEB128`).
use Rattle.linker_elf.specs.Imports.{Adds, NotFirst, Number, Sets, Uleb128Role}
use Rattle.std.specs.Prelude.{Err, List, Ok, Option, Result, Some, ℕ, ◌≡◌}
use Rattle.linker_base.specs.Uleb.{Uleb, IsUlebWritten, IsUlebCause}
use Rattle.linker_elf.specs.Value.{sum_64, difference_64}
use Rattle.linker_elf.specs.declared.elf.architecture.Uleb128PairError.{Uleb128PairError}

-- the number that the values of both make, modulo 2 ^ 64: their difference, which the first of
-- LoongArch adds to the existing number
abbrev pub IsPairNumber : Uleb128Role → List ℕ → ℕ → ℕ → ℕ → Type 0
IsPairNumber Adds before first second number =
    (old : ℕ) (rest : List ℕ) → Uleb before old rest
    → number ≡ sum_64 old (difference_64 first second)
IsPairNumber role before first second number = number ≡ difference_64 first second

-- bytes begin with no number
abbrev pub BeginsWithNone : List ℕ → Type 0
BeginsWithNone bytes = (n : ℕ) (rest : List ℕ) → Uleb bytes n rest → ⊥

-- a number is written in place of the existing one, or there is none, or it has too few bytes
abbrev pub IsNumberWritten : ℕ → List ℕ → List ℕ → Result Unit Uleb128PairError → Type 0
IsNumberWritten number before after (Ok u) = IsUlebWritten before number after
IsNumberWritten number before after (Err NotFirst) = ⊥
IsNumberWritten number before after (Err (Number error)) =
    IsUlebCause before number error × (after ≡ before)

pub record IsPairWritten (role : Uleb128Role) (before : List ℕ) (first second : ℕ)
    (after : List ℕ) (outcome : Result Unit Uleb128PairError) : Type 0 where
  pub number : ℕ
  pub is_number : IsPairNumber role before first second number
  pub written : IsNumberWritten number before after outcome

-- by the role of the first relocation, which is to set or to add
abbrev pub IsPairOutcome : Option Uleb128Role → List ℕ → ℕ → ℕ → List ℕ
    → Result Unit Uleb128PairError → Type 0
IsPairOutcome (Some Sets) before first second after outcome =
    IsPairWritten Sets before first second after outcome
IsPairOutcome (Some Adds) before first second after outcome =
    IsPairWritten Adds before first second after outcome
IsPairOutcome role before first second after outcome =
    (outcome ≡ Err NotFirst) × (after ≡ before)
