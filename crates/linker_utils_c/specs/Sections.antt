-- What relocations require, their values and all of them written, in the numbers that C sees.
use Rattle.std.specs.Prelude.{◌≡◌, ℕ, ◌/◌, ◌<◌, ◌≤◌, List, length, ℤ, pos}
use Rattle.std.specs.Prelude.{Option, None, Some, Result, Ok, Err}
use Rattle.linker_section.specs.Sections.{AreAllRelocatedBy, IsFirstRejectedBy, Values}
use Rattle.linker_section.specs.WrittenFields.{AreWrittenBy, IsFirstFaultBy}
use Rattle.linker_section.specs.Values.{IsValue}
use Rattle.linker_utils_c.specs.Imports.{Address, Addresses, Architecture, Descriptor, EntryClass}
use Rattle.linker_utils_c.specs.Imports.{Module, ModuleOffset, NoEntry, NoHighPart, NoSymbol}
use Rattle.linker_utils_c.specs.Imports.{NoTlsBase, NoValue, Rela, RequirementNumbers, Requirements}
use Rattle.linker_utils_c.specs.Imports.{ShortMemory, Status, Success, Symbol, ThreadOffset}
use Rattle.linker_utils_c.specs.Imports.{TooShort, UnknownRelocation, flag_number}
use Rattle.linker_section.specs.declared.sections.RelocationError.TheVariants.{OtherLength, Uleb128}
use Rattle.linker_section.specs.declared.sections.RelocationError.TheVariants.{Value, Write}
use Rattle.linker_section.specs.declared.sections.RelocationError.TheVariants.{Overlaps}
use Rattle.linker_section.specs.declared.needed.Entry.{Entry}
use Rattle.linker_section.specs.declared.sections.RelocationError.{RelocationError}
use Rattle.linker_section.specs.declared.sections.SectionError.{SectionError}
use Rattle.linker_section.specs.declared.values.ValueError.{ValueError}
use Rattle.linker_section.specs.declared.values.ValueError.TheVariants as value_errors
use Rattle.linker_utils_c.specs.Relocate.{write_status, uleb_status}
use Rattle.linker_utils_c.specs.Status.{code, IfFound}
use Rattle.linker_utils_c.specs.declared.status.Status.TheVariants as statuses

-- ---- what a relocation requires

abbrev pub class_number : EntryClass → ℕ
class_number Address = 1
class_number ThreadOffset = 2
class_number ModuleOffset = 3
class_number Module = 4
class_number Descriptor = 5

-- 0 where no entry is required
abbrev pub entry_class : Option Entry → ℕ
entry_class None = 0
entry_class (Some entry) = class_number entry.class

abbrev pub entry_addend : Option Entry → ℤ
entry_addend None = pos 0
entry_addend (Some entry) = entry.addend

abbrev pub requirements_in : Requirements → RequirementNumbers
requirements_in needs = record {
  entry_addend = entry_addend needs.entry;
  entry_class = entry_class needs.entry;
  is_branch = flag_number needs.is_branch;
  may_use_stub = flag_number needs.may_use_stub;
  stub_only_if_undefined = flag_number needs.stub_only_if_undefined;
  is_word = flag_number needs.is_word;
  depends_on_load = flag_number needs.depends_on_load;
}

-- ---- the value of one relocation

abbrev pub value_status : ValueError → Status
value_status value_errors.UnknownType = UnknownRelocation
value_status value_errors.NoSymbol = NoSymbol
value_status value_errors.NoEntry = NoEntry
value_status value_errors.NoTlsBase = NoTlsBase
value_status value_errors.NoHighPart = NoHighPart
value_status value_errors.NotAligned = statuses.NotAligned
value_status value_errors.NeedsStub = statuses.NeedsStub
value_status value_errors.OutOfReach = statuses.OutOfReach

abbrev pub IsValueReturned : Result (Option ℤ) ValueError → ℕ → ℤ → ℤ → Type 0
IsValueReturned (Ok (Some v)) status old new = (status ≡ code Success) × (new ≡ v)
IsValueReturned (Ok None) status old new = (status ≡ code NoValue) × (new ≡ old)
IsValueReturned (Err error) status old new = (status ≡ code (value_status error)) × (new ≡ old)

-- the value of the relocation at an index, if there is one there
abbrev pub IsValueAt : Architecture → Addresses → List ℕ → List Symbol → Option Rela → ℕ → ℤ → ℤ
    → Type 0
IsValueAt architecture addresses bytes symbols found status old new =
    IfFound found TooShort (new ≡ old) status (λ r. (outcome : Result (Option ℤ) ValueError)
    × IsValue architecture addresses bytes symbols r outcome
    × IsValueReturned outcome status old new)

-- ---- all of a section

abbrev pub relocation_status : RelocationError → Status
relocation_status (Value error) = value_status error
relocation_status Overlaps = statuses.Overlaps
relocation_status OtherLength = statuses.OtherLength
relocation_status (Write error) = write_status (Err error)
relocation_status (Uleb128 error) = uleb_status (Err error)

-- the elements of memory that a call takes: one for each relocation
abbrev pub room_of : List ℕ → ℕ
room_of bytes = length bytes / 24

-- all are written, or none is, and the status and the index are those of the first that can't be
abbrev pub IsSectionOutcome : Architecture → Addresses → List ℕ → Values → List ℕ → List ℕ → ℕ → ℕ
    → ℕ → Result Unit SectionError → Type 0
IsSectionOutcome architecture addresses bytes values before after old_faulty faulty status (Ok u) =
    (status ≡ code Success) × (faulty ≡ old_faulty)
    × AreAllRelocatedBy architecture addresses bytes values before after
    × AreWrittenBy architecture addresses bytes values before after
IsSectionOutcome architecture addresses bytes values before after old_faulty faulty status
    (Err error) =
    (status ≡ code (relocation_status error.error)) × (faulty ≡ error.index) × (after ≡ before)
    × IsFirstRejectedBy architecture addresses bytes values before error
    × IsFirstFaultBy architecture addresses bytes values before error

pub record IsSectionReturned (architecture : Architecture) (addresses : Addresses) (bytes : List ℕ)
    (values : Values) (before after memory : List ℕ) (old_faulty faulty status : ℕ) : Type 0
  where
    pub short : length memory < room_of bytes → (status ≡ code ShortMemory) × (after ≡ before)
        × (faulty ≡ old_faulty)
    pub long : room_of bytes ≤ length memory → (outcome : Result Unit SectionError)
        × IsSectionOutcome architecture addresses bytes values before after
        old_faulty faulty status outcome
