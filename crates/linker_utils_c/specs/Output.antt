-- What a linker adds to an output, in the numbers that C sees.
use Rattle.std.specs.Prelude.{◌≡◌, ◌⊎◌, ℕ, ◌<◌, ◌≤◌, ◌==◌, if◌then◌else◌, List, [], ◌∷◌, length}
use Rattle.std.specs.Prelude.{Option, Some, None, Err}
use Rattle.linker_output.specs.Dynamic.{DynamicKind, DynamicKinds}
use Rattle.linker_output.specs.Layout.{Run, run_len, run_spacing}
use Rattle.linker_output.specs.Stubs.{StubCode, capped_len, WritesStub, RejectsStub}
use Rattle.linker_output.specs.View.{Description, Symbol}
use Rattle.linker_output.specs.declared.layout.SymbolPlace.{SymbolPlace}
use Rattle.linker_output.specs.declared.layout.SymbolPlace.TheVariants.{ThreadLocal, Got, SmallData}
use Rattle.linker_utils_c.specs.Imports.{Address, Architecture, Descriptor, EntryClass, Far}
use Rattle.linker_utils_c.specs.Imports.{FarRelative, Jump, LandingLoad, Load, Module, ModuleOffset}
use Rattle.linker_utils_c.specs.Imports.{NotProvided, PrefixedJump, PrefixedLoad, Status, StubError}
use Rattle.linker_utils_c.specs.Imports.{StubKind, Success, ThreadOffset, TocFar, TocLoad, TooShort}
use Rattle.linker_utils_c.specs.Imports.{UnknownEntryClass, UnknownStub}
use Rattle.linker_output.specs.declared.stubs.StubError.TheVariants as errors
use Rattle.linker_utils_c.specs.Relocate.{write_status}
use Rattle.linker_utils_c.specs.Relocations.{IsCopied}
use Rattle.linker_utils_c.specs.Status.{code, IfFound}
use Rattle.linker_utils_c.specs.declared.output.DynamicNumbers.{DynamicNumbers}
use Rattle.linker_utils_c.specs.declared.output.EntryWords.{EntryWords}
use Rattle.linker_utils_c.specs.declared.output.GotNumbers.{GotNumbers}
use Rattle.linker_utils_c.specs.declared.output.RunNumbers.{RunNumbers}
use Rattle.linker_utils_c.specs.declared.output.StubNumbers.{StubNumbers}
use Rattle.linker_utils_c.specs.declared.output.SymbolNumbers.{SymbolNumbers}
use Rattle.linker_utils_c.specs.declared.output.WordNumbers.{WordNumbers}

-- ---- dynamic relocations

-- 0 where the psABI has no such type
abbrev pub r_type_or_none : Option DynamicKind → ℕ
r_type_or_none None = 0
r_type_or_none (Some kind) = kind.r_type

abbrev pub numbers_of_types : DynamicKinds → DynamicNumbers
numbers_of_types types =
    record {
      word = types.word.r_type;
      relative = types.relative.r_type;
      glob_dat = types.glob_dat.r_type;
      jump_slot = types.jump_slot.r_type;
      copy = types.copy.r_type;
      irelative = types.irelative.r_type;
      module_number = types.module_number.r_type;
      module_offset = types.module_offset.r_type;
      thread_offset = types.thread_offset.r_type;
      descriptor = r_type_or_none types.descriptor;
    }

-- a text is copied, or the status says that there is none
abbrev pub IsTextReturned : Option (List ℕ) → Status → List ℕ → List ℕ → ℕ → ℕ → ℕ → Type 0
IsTextReturned found absent before after used_before used status =
    IfFound found absent ((after ≡ before) × (used ≡ used_before)) status
    (λ text. IsCopied text before after used_before used status)

-- ---- entries of the GOT

-- the class with a number
abbrev pub class_of : ℕ → Option EntryClass
class_of number =
    if number == 1 then Some Address
    else if number == 2 then Some ThreadOffset
    else if number == 3 then Some ModuleOffset
    else if number == 4 then Some Module
    else if number == 5 then Some Descriptor
    else None

-- 0 of a word without a dynamic relocation
abbrev pub number_or_none : Option ℕ → ℕ
number_or_none None = 0
number_or_none (Some number) = number

abbrev pub AreNumbers : List (Option ℕ) → WordNumbers → Type 0
AreNumbers (first ∷ second ∷ []) words =
    words ≡ record { first = number_or_none first; second = number_or_none second }
AreNumbers others words = ⊥

abbrev pub AreStaticWords : Option (List ℕ) → EntryWords → EntryWords → ℕ → Type 0
AreStaticWords (Some (first ∷ second ∷ [])) old new status =
    (status ≡ code Success) × (new ≡ record { first = first; second = second })
AreStaticWords others old new status = (status ≡ code UnknownEntryClass) × (new ≡ old)

-- the first word, if it isn't an entry
abbrev pub IsHeader : Option ℕ → GotNumbers → Type 0
IsHeader None got = (got.has_header ≡ 0) × (got.header ≡ 0)
IsHeader (Some word) got = (got.has_header ≡ 1) × (got.header ≡ word)

-- ---- what linkers provide

abbrev pub place_number : SymbolPlace → ℕ
place_number ThreadLocal = 0
place_number Got = 1
place_number SmallData = 2

-- a text is copied and numbers are written, or neither
pub record AreBothCopied {A : Type 0} (text before after : List ℕ) (used_before used : ℕ)
    (numbers old new : A) (status : ℕ) : Type 0 where
  pub copied : IsCopied text before after used_before used status
  pub fits : length text ≤ length before → new ≡ numbers
  pub short : length before < length text → new ≡ old

abbrev pub IsSymbolReturned : Option Symbol → List ℕ → List ℕ → ℕ → ℕ → SymbolNumbers
    → SymbolNumbers → ℕ → Type 0
IsSymbolReturned found before after used_before used old new status =
    IfFound found NotProvided ((after ≡ before) × (used ≡ used_before) × (new ≡ old)) status
    (λ symbol. AreBothCopied symbol.name before after used_before used
    (record { offset = symbol.offset; place = place_number symbol.place }) old new status)

abbrev pub IsRunReturned : Option Run → List ℕ → List ℕ → ℕ → ℕ → RunNumbers → RunNumbers → ℕ
    → Type 0
IsRunReturned found before after used_before used old new status =
    IfFound found NotProvided ((after ≡ before) × (used ≡ used_before) × (new ≡ old)) status
    (λ run. AreBothCopied run.prefix before after used_before used
    (record { len = run_len run; first = run.first; count = run.count; spacing = run_spacing run })
    old new status)

-- ---- stubs

-- the kind with a number
abbrev pub stub_kind_of : ℕ → Option StubKind
stub_kind_of number =
    if number == 0 then Some Load
    else if number == 1 then Some Jump
    else if number == 2 then Some Far
    else if number == 3 then Some FarRelative
    else if number == 4 then Some LandingLoad
    else if number == 5 then Some TocLoad
    else if number == 6 then Some TocFar
    else if number == 7 then Some PrefixedLoad
    else if number == 8 then Some PrefixedJump
    else None

abbrev pub stub_in : Description → Option StubKind → Option StubCode
stub_in target None = None
stub_in target (Some Load) = Some target.load_stub
stub_in target (Some Jump) = target.jump_stub
stub_in target (Some Far) = target.far_stub
stub_in target (Some FarRelative) = target.far_relative_stub
stub_in target (Some LandingLoad) = target.landing_load_stub
stub_in target (Some TocLoad) = target.toc_load_stub
stub_in target (Some TocFar) = target.toc_far_stub
stub_in target (Some PrefixedLoad) = target.prefixed_load_stub
stub_in target (Some PrefixedJump) = target.prefixed_jump_stub

abbrev pub IsStubReturned : Option StubCode → StubNumbers → StubNumbers → ℕ → Type 0
IsStubReturned None old new status = (status ≡ code UnknownStub) × (new ≡ old)
IsStubReturned (Some stub) old new status =
    (status ≡ code Success) × (new ≡ record { len = capped_len stub; entry = stub.entry })

abbrev pub stub_status : StubError → Status
stub_status errors.Missing = UnknownStub
stub_status errors.TooShort = TooShort
stub_status (errors.Field error) = write_status (Err error)

-- a stub is written, or its error is returned and nothing is
abbrev pub IsStubWritten : Architecture → Option StubCode → ℕ → ℕ → List ℕ → List ℕ → ℕ → Type 0
IsStubWritten architecture stub place target before after status =
    ((status ≡ code Success) × WritesStub architecture stub place target before after)
    ⊎ ((error : StubError) × (status ≡ code (stub_status error)) × (after ≡ before)
    × RejectsStub architecture stub place target before error)
