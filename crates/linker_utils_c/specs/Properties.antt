-- Program properties, in the numbers that C sees.
use Rattle.std.specs.Prelude.{◌≡◌, ◌⊎◌, ℕ, List, length, Result, Ok, Err, Option, Some, None}
use Rattle.std.specs.Prelude.{Bool, false, is_some}
use Rattle.linker_output.specs.Properties.{rule_of, WritesRead, RejectsRead, WritesMerged}
use Rattle.linker_output.specs.Properties.{RejectsMerge, WritesNote, RejectsNote}
use Rattle.linker_output.specs.declared.properties.Property.{Property}
use Rattle.linker_output.specs.declared.properties.PropertyError.{PropertyError}
use Rattle.linker_output.specs.declared.properties.PropertyError.TheVariants as errors
use Rattle.linker_utils_c.specs.Imports.{Architecture, CutOff, DifferentValues, DoesNotFit}
use Rattle.linker_utils_c.specs.Imports.{NotAscending, NotProperties, Status, Success, TooLarge}
use Rattle.linker_utils_c.specs.Imports.{TooShort, UnknownProperty, WrongSize}
use Rattle.linker_utils_c.specs.Status.{code}

-- a property's type has a rule
abbrev pub has_rule : Option Architecture → ℕ → Bool
has_rule None kind = false
has_rule (Some architecture) kind = is_some (rule_of architecture kind)

abbrev pub property_status : Result ℕ PropertyError → Status
property_status (Ok count) = Success
property_status (Err (errors.NotProperties at)) = NotProperties
property_status (Err (errors.CutOff at)) = CutOff
property_status (Err (errors.WrongSize at)) = WrongSize
property_status (Err (errors.NotAscending at)) = NotAscending
property_status (Err (errors.Differs kind)) = DifferentValues
property_status (Err (errors.Unknown kind)) = UnknownProperty
property_status (Err (errors.TooLarge kind)) = DoesNotFit
property_status (Err errors.TooMany) = TooLarge
property_status (Err (errors.TooShort needed)) = TooShort

-- how many there are, or are needed, or what an error is about
abbrev pub number_by : Result ℕ PropertyError → ℕ → ℕ
number_by (Ok count) before = count
number_by (Err (errors.NotProperties at)) before = at
number_by (Err (errors.CutOff at)) before = at
number_by (Err (errors.WrongSize at)) before = at
number_by (Err (errors.NotAscending at)) before = at
number_by (Err (errors.Differs kind)) before = kind
number_by (Err (errors.Unknown kind)) before = kind
number_by (Err (errors.TooLarge kind)) before = kind
number_by (Err errors.TooMany) before = before
number_by (Err (errors.TooShort needed)) before = needed

-- what a call writes with its number, or the error is returned with its number and nothing is
abbrev pub IsReturned : {A : Type 0} → (A → ℕ → Type 0) → (PropertyError → Type 0) → A → A → ℕ → ℕ
    → ℕ → Type 0
IsReturned Writes Rejects before after number_before number status =
    ((status ≡ code Success) × Writes after number)
    ⊎ ((error : PropertyError) × (status ≡ code (property_status (Err error))) × (after ≡ before)
    × (number ≡ number_by (Err error) number_before) × Rejects error)

-- properties are read
abbrev pub ArePropertiesRead : Architecture → List ℕ → List Property → List Property → ℕ → ℕ → ℕ
    → Type 0
ArePropertiesRead architecture section before =
    IsReturned (WritesRead architecture section before)
    (RejectsRead architecture section (length before)) before

-- they are merged
abbrev pub ArePropertiesMerged : Architecture → List Property → List Property → List Property
    → List Property → ℕ → ℕ → ℕ → Type 0
ArePropertiesMerged architecture first second before =
    IsReturned (WritesMerged architecture first second before)
    (RejectsMerge architecture first second (length before)) before

-- their note is written
abbrev pub IsNoteWritten : Architecture → List Property → List ℕ → List ℕ → ℕ → ℕ → ℕ → Type 0
IsNoteWritten architecture properties before =
    IsReturned (WritesNote architecture properties before)
    (RejectsNote architecture properties (length before)) before
