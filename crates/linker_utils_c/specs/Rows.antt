-- What calls return by the handle of a relocation.
use Rattle.std.specs.Prelude.{◌≡◌, ◌%◌, ◌++◌, ◌==◌, ℕ, not, Bool, true, false}
use Rattle.std.specs.Prelude.{List, length, drop, replicate, Option, Some, None, Result, Ok, Err}
use Rattle.std.specs.Prelude.{pos, ⊤}
use Rattle.linker_elf.specs.AppliedRows.{IsAppliedIfKnown}
use Rattle.linker_elf.specs.ElfNames.{ElfName, named, unnamed}
use Rattle.linker_elf.specs.Entries.{IsPltAnswer}
use Rattle.linker_utils_c.specs.Imports.{Architecture, ChoiceNumbers, IsArchitectureChoice}
use Rattle.linker_utils_c.specs.Imports.{IsElfName, IsFit, IsRow, LinkFacts, Operands, Relaxation}
use Rattle.linker_utils_c.specs.Imports.{RequirementNumbers, Requirements, RowInfo, RowSize, Status}
use Rattle.linker_utils_c.specs.Imports.{Success, UnknownRelocation, flag_number, kind_number}
use Rattle.linker_utils_c.specs.Imports.{machine_of, window_len}
use Rattle.linker_elf.specs.declared.elf.choice.Choice.{Choice}
use Rattle.linker_elf.specs.Reach.{reach_of}
use Rattle.linker_elf.specs.declared.elf.RelocationKind.{RelocationKind}
use Rattle.linker_elf.specs.declared.elf.RelocationKind.TheVariants as kinds
use Rattle.linker_elf.specs.declared.elf.RowSize.TheVariants.{ByteSize}
use Rattle.linker_elf.specs.declared.elf.relocate.ApplyError.{ApplyError}
use Rattle.linker_elf.specs.declared.elf.relocate.ApplyError.TheVariants.{Formula, Write}
use Rattle.linker_section.specs.Needed.{needs_in}
use Rattle.linker_elf.specs.Handles.{architecture_in, handle_unit}
use Rattle.linker_utils_c.specs.Choices.{IsChoiceInNumbers}
use Rattle.linker_utils_c.specs.Relocate.{AreBounds, value_status, write_status}
use Rattle.linker_utils_c.specs.Sections.{requirements_in}
use Rattle.linker_utils_c.specs.Status.{code, IfFound, IsGivenBy}
use Rattle.linker_utils_c.specs.declared.rows.RowNumbers.{RowNumbers}

-- ---- the value, written

abbrev pub apply_status : Option (Result Unit ApplyError) → Status
apply_status None = UnknownRelocation
apply_status (Some (Ok u)) = Success
apply_status (Some (Err (Formula error))) = value_status error
apply_status (Some (Err (Write error))) = write_status (Err error)

pub record IsAppliedAs (meaning : Option RowInfo) (o : Operands) (before after : List ℕ)
    (status : ℕ) : Type 0 where
  pub outcome : Option (Result Unit ApplyError)
  pub says : status ≡ code (apply_status outcome)
  pub holds : IsAppliedIfKnown meaning o before after outcome

-- ---- choices

-- the choice for the type that a handle names
abbrev pub IsChosenIn : Option Architecture → ℕ → List ℕ → ℕ → LinkFacts → ChoiceNumbers → Type 0
IsChosenIn None r_type section o facts numbers = ⊥
IsChosenIn (Some architecture) r_type section o facts numbers =
    (chosen : Choice Relaxation ℕ)
    × IsArchitectureChoice architecture r_type section o facts chosen
    × IsChoiceInNumbers architecture chosen numbers

abbrev pub IsFitIn : Option Architecture → ℕ → List ℕ → ℕ → LinkFacts → Bool → Type 0
IsFitIn None r_type section o facts fits = ⊥
IsFitIn (Some architecture) r_type section o facts fits =
    IsFit architecture r_type section o facts fits

abbrev pub IsFitOf : Option RowInfo → ℕ → List ℕ → ℕ → LinkFacts → Bool → Type 0
IsFitOf None handle section o facts fits = fits ≡ false
IsFitOf (Some row) handle section o facts fits =
    IsFitIn (architecture_in handle) (handle % handle_unit) section o facts fits

-- ---- a row in numbers

-- the formula has P; not that of no bytes, of the first of a pair at a ULEB128 number
abbrev pub is_relative : RelocationKind → RowSize → Bool
is_relative kinds.Relative (ByteSize n) = not (n == 0)
is_relative kinds.Relative size = true
is_relative kinds.RelativeRiscVLow12 size = true
is_relative kinds.RelativeLoongArchHigh size = true
is_relative kinds.GotRelative size = true
is_relative kinds.GotRelativeLoongArch64 size = true
is_relative kinds.PltRelative size = true
is_relative kinds.TlsGd size = true
is_relative kinds.TlsLd size = true
is_relative kinds.GotTpOff size = true
is_relative kinds.GotTpOffLoongArch64 size = true
is_relative kinds.TlsDesc size = true
is_relative kinds.TlsDescLoongArch64 size = true
is_relative kind size = false

-- a text, and NULs up to 40 bytes
abbrev pub IsPaddedName : ElfName → List ℕ → Type 0
IsPaddedName (named r_type text) bytes = bytes ≡ text ++ drop (length text) (replicate 40 0)
IsPaddedName (unnamed r_type) bytes = bytes ≡ replicate 40 0

-- what it requires, in numbers
abbrev pub AreNeeded : Option Requirements → RequirementNumbers → Type 0
AreNeeded None numbers = ⊤
AreNeeded (Some needs) numbers = numbers ≡ requirements_in needs

-- the row of an architecture's type; what it requires is that of the addend 1, of a symbol that
-- isn't thread-local
pub record InRowNumbers (architecture : Architecture) (elf_type : ℕ) (row : RowInfo)
    (numbers : RowNumbers) : Type 0 where
  pub r_type : numbers.r_type ≡ elf_type
  pub machine : numbers.machine ≡ machine_of architecture
  pub kind : numbers.kind ≡ kind_number row.kind
  pub alignment : numbers.alignment ≡ row.alignment
  pub window : numbers.window ≡ window_len row
  pub reach : AreBounds (reach_of row) numbers.reach
  pub relative : numbers.is_relative ≡ flag_number (is_relative row.kind row.size)
  pub plt : (answer : Bool) × IsPltAnswer row answer × (numbers.may_use_plt ≡ flag_number answer)
  pub needs : (meaning : Option RowInfo) × IsRow architecture elf_type meaning
      × AreNeeded (needs_in meaning (pos 1) false) numbers.needs
  pub name : (elf : ElfName) × IsElfName architecture elf_type elf × IsPaddedName elf numbers.name

abbrev pub IsRowReturned : Option Architecture → ℕ → Option RowInfo → ℕ → RowNumbers
    → RowNumbers → Type 0
IsRowReturned found r_type meaning status old new =
    IfFound found UnknownRelocation (new ≡ old) status (λ architecture.
    IsGivenBy (InRowNumbers architecture r_type) meaning UnknownRelocation old new status)
