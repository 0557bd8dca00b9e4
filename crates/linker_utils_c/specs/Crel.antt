-- Compact relocations, in the numbers that C sees.
use Rattle.std.specs.Prelude.{◌≡◌, ◌⊎◌, ℕ, List, length, Result, Ok, Err, if◌then◌else◌}
use Rattle.linker_section.specs.Crel.{ReadsCrel, RejectsCrel}
use Rattle.linker_section.specs.declared.crel.Crel.{Crel}
use Rattle.linker_section.specs.declared.crel.CrelError.{CrelError}
use Rattle.linker_section.specs.declared.crel.CrelError.TheVariants as errors
use Rattle.linker_utils_c.specs.Status.{code}
use Rattle.linker_utils_c.specs.Imports.{CutOff, Status, Success, TooLarge, TooShort}

abbrev pub crel_status : Result Crel CrelError → Status
crel_status (Ok crel) = Success
crel_status (Err (errors.CutOff at)) = CutOff
crel_status (Err (errors.TooLarge at)) = TooLarge
crel_status (Err (errors.TooShort needed)) = TooShort

-- how many there are, or are needed, or what an error is about
abbrev pub number_by : Result Crel CrelError → ℕ
number_by (Ok crel) = crel.count
number_by (Err (errors.CutOff at)) = at
number_by (Err (errors.TooLarge at)) = at
number_by (Err (errors.TooShort needed)) = needed

abbrev pub addends_by : Result Crel CrelError → ℕ → ℕ
addends_by (Ok crel) before = if crel.has_addends then 1 else 0
addends_by (Err error) before = before

-- relocations are read, or the error is returned with its number and nothing is
abbrev pub IsCrelReturned : List ℕ → List ℕ → List ℕ → ℕ → ℕ → ℕ → ℕ → Type 0
IsCrelReturned section before after number addends_before addends status =
    ((crel : Crel) × (status ≡ code Success) × (number ≡ crel.count)
    × (addends ≡ addends_by (Ok crel) addends_before) × ReadsCrel section before after crel)
    ⊎ ((error : CrelError) × (status ≡ code (crel_status (Err error))) × (after ≡ before)
    × (number ≡ number_by (Err error)) × (addends ≡ addends_before)
    × RejectsCrel section (length before) error)
