-- The value, the reach and the write of a relocation that is named by numbers.
use Rattle.std.specs.Prelude.{◌≡◌, ◌≢◌, ℕ, ◌<◌, ◌≤◌, List, [], ◌∷◌, ◌++◌, length, take, drop}
use Rattle.std.specs.Prelude.{slice_index_or, Option, None, Some, Result, Ok, Err, ℤ, pos}
use Rattle.linker_base.specs.Uleb.{IsUlebWritten, IsUlebCause}
use Rattle.linker_base.specs.declared.utils.Uleb128Error.{Uleb128Error}
use Rattle.linker_base.specs.declared.utils.Uleb128Error.TheVariants as uleb_errors
use Rattle.linker_utils_c.specs.Imports.{Architecture, DoesNotFit, IsRow, Misaligned, NoEntry}
use Rattle.linker_utils_c.specs.Imports.{NoTlsBase, NoValue, Operands, OutOfReach, RejectsValue}
use Rattle.linker_utils_c.specs.Imports.{RowInfo, Status, Success, TooShort, Uleb128Ended}
use Rattle.linker_utils_c.specs.Imports.{Uleb128TooLarge, UnknownRelocation, Unsupported, WritesRow}
use Rattle.linker_elf.specs.Value.{value_given}
use Rattle.linker_elf.specs.Uleb128.{IsPairOutcome}
use Rattle.linker_elf.specs.declared.elf.architecture.Uleb128PairError.{Uleb128PairError}
use Rattle.linker_elf.specs.declared.elf.architecture.Uleb128PairError.TheVariants as pair_errors
use Rattle.linker_elf.specs.declared.elf.Uleb128Role.{Uleb128Role}
use Rattle.linker_elf.specs.declared.elf.Uleb128Role.TheVariants as roles
use Rattle.linker_elf.specs.declared.elf.relocate.RelocateError.{RelocateError}
use Rattle.linker_elf.specs.declared.elf.relocate.RelocateError.TheVariants as errors
use Rattle.linker_elf.specs.declared.elf.value.FormulaError.{FormulaError}
use Rattle.linker_elf.specs.declared.elf.value.FormulaError.TheVariants as formula_errors
use Rattle.linker_utils_c.specs.Status.{code}
use Rattle.linker_utils_c.specs.declared.relocate.Reach.{Reach}
use Rattle.linker_utils_c.specs.declared.relocate.Relocation.{Relocation}

-- ---- the value

abbrev pub value_status : FormulaError → Status
value_status formula_errors.NoEntry = NoEntry
value_status formula_errors.NoTlsBase = NoTlsBase
value_status formula_errors.NoValue = NoValue

abbrev pub IsValue : Result ℤ FormulaError → ℕ → ℤ → ℤ → Type 0
IsValue (Err error) status old new = (status ≡ code (value_status error)) × (new ≡ old)
IsValue (Ok v) status old new = (status ≡ code Success) × (new ≡ v)

-- the status and the value by the relocation's row, if it has one
abbrev pub IsValueOf : Option RowInfo → Operands → ℕ → ℤ → ℤ → Type 0
IsValueOf None given status old new = (status ≡ code UnknownRelocation) × (new ≡ old)
IsValueOf (Some row) given status old new = IsValue (value_given row given) status old new

-- ---- the reach

-- 1 and the bounds, or 0 and twice 0 where every value can be written
abbrev pub AreBounds : Option (ℤ × ℤ) → Reach → Type 0
AreBounds None reach = (reach.has_range ≡ 0) × (reach.min ≡ pos 0) × (reach.max ≡ pos 0)
AreBounds (Some bounds) reach =
    (reach.has_range ≡ 1) × (reach.min ≡ bounds.0) × (reach.max ≡ bounds.1)

-- ---- the write

-- the status of a write or of why there is none
abbrev pub write_status : Result Unit RelocateError → Status
write_status (Ok u) = Success
write_status (Err errors.Unsupported) = Unsupported
write_status (Err errors.TooShort) = TooShort
write_status (Err errors.Misaligned) = Misaligned
write_status (Err errors.OutOfReach) = OutOfReach

-- the bytes after a write, or why there is none
abbrev pub IsOutcome : Result Unit RelocateError → RowInfo → ℤ → List ℕ → List ℕ → Type 0
IsOutcome (Ok u) row v before after = WritesRow row v before after
IsOutcome (Err error) row v before after = RejectsValue row v before after error

pub record IsRelocatedBy (row : RowInfo) (v : ℤ) (before after : List ℕ)
    (status : ℕ) : Type 0 where
  pub outcome : Result Unit RelocateError
  pub says : status ≡ code (write_status outcome)
  pub holds : IsOutcome outcome row v before after

abbrev pub IsRelocatedAs : Option RowInfo → ℤ → List ℕ → List ℕ → ℕ → Type 0
IsRelocatedAs None v before after status = (status ≡ code UnknownRelocation) × (after ≡ before)
IsRelocatedAs (Some row) v before after status = IsRelocatedBy row v before after status

-- a relocation of a type, by what the type means
pub record IsRelocated (architecture : Architecture) (r_type : ℕ) (v : ℤ) (before after : List ℕ)
    (status : ℕ) : Type 0 where
  pub meaning : Option RowInfo
  pub means : IsRow architecture r_type meaning
  pub relocated : IsRelocatedAs meaning v before after status

-- ---- many relocations

-- The bytes from an offset on are relocated, if the offset isn't past the end.
pub record IsRelocatedAt (architecture : Architecture) (offset r_type : ℕ) (v : ℤ)
    (before after : List ℕ) (status : ℕ) : Type 0 where
  pub outside : length before < offset → (status ≡ code TooShort) × (after ≡ before)
  pub inside : offset ≤ length before → (rest : List ℕ)
      × (after ≡ take offset before ++ rest)
      × IsRelocated architecture r_type v (drop offset before) rest status

abbrev pub IsApplied : Architecture → Relocation → List ℕ → List ℕ → ℕ → Type 0
IsApplied architecture r before after status =
    IsRelocatedAt architecture r.offset r.r_type r.value before after status

-- all of them succeed, one after the other
abbrev pub AreRelocated : Architecture → List Relocation → List ℕ → List ℕ → Type 0
AreRelocated architecture [] before after = after ≡ before
AreRelocated architecture (r ∷ rs) before after =
    (next : List ℕ) × IsApplied architecture r before next (code Success)
    × AreRelocated architecture rs next after

-- Those before the index succeed. That at the index is rejected with the status.
pub record IsFirstRejected (architecture : Architecture) (relocations : List Relocation)
    (before after : List ℕ) (at status : ℕ) : Type 0 where
  pub within : at < length relocations
  pub middle : List ℕ
  pub done : AreRelocated architecture (take at relocations) before middle
  pub rejected : (r : Relocation)
      → IsApplied architecture (slice_index_or relocations at r) middle after status

-- all succeed, or the status is that of the first that doesn't
pub record AreRelocatedOrRejected (architecture : Architecture) (relocations : List Relocation)
    (before after : List ℕ)
    (old_faulty faulty status : ℕ) : Type 0 where
  pub success : status ≡ code Success → AreRelocated architecture relocations before after
      × (faulty ≡ old_faulty)
  pub rejected : (status ≢ code Success)
      → IsFirstRejected architecture relocations before after faulty status

-- ---- ULEB128 numbers

-- 1, 2 or 3, and 0 of a relocation of no ULEB128 number
abbrev pub role_number : Option Uleb128Role → ℕ
role_number None = 0
role_number (Some roles.Sets) = 1
role_number (Some roles.Adds) = 2
role_number (Some roles.Subtracts) = 3

-- the status of a write or of why there is none
abbrev pub uleb_status : Result Unit Uleb128Error → Status
uleb_status (Ok u) = Success
uleb_status (Err uleb_errors.Ended) = Uleb128Ended
uleb_status (Err uleb_errors.TooLarge) = Uleb128TooLarge
uleb_status (Err uleb_errors.DoesNotFit) = DoesNotFit

-- that of a pair
abbrev pub pair_status : Result Unit Uleb128PairError → Status
pair_status (Ok u) = Success
pair_status (Err pair_errors.NotFirst) = UnknownRelocation
pair_status (Err (pair_errors.Number error)) = uleb_status (Err error)

-- by the role of the pair's first relocation
pub record IsPairReturned (role : Option Uleb128Role) (before : List ℕ) (first second : ℕ)
    (after : List ℕ) (status : ℕ) : Type 0 where
  pub outcome : Result Unit Uleb128PairError
  pub says : status ≡ code (pair_status outcome)
  pub holds : IsPairOutcome role before first second after outcome

-- the bytes after a write, or why there is none
abbrev pub IsUlebOutcome : Result Unit Uleb128Error → ℕ → List ℕ → List ℕ → Type 0
IsUlebOutcome (Ok u) n before after = IsUlebWritten before n after
IsUlebOutcome (Err error) n before after = IsUlebCause before n error × (after ≡ before)

pub record IsUlebReturned (before : List ℕ) (n : ℕ) (after : List ℕ) (status : ℕ) : Type 0 where
  pub outcome : Result Unit Uleb128Error
  pub says : status ≡ code (uleb_status outcome)
  pub holds : IsUlebOutcome outcome n before after
