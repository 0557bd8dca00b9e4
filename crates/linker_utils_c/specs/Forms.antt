-- The numbers by which C names forms of instructions.
use Rattle.std.specs.Prelude.{◌≡◌, ◌≢◌, ◌<◌, ◌≤◌, Bool, length, drop, ℕ, List}
use Rattle.std.specs.Prelude.{Option, None, Some, Result, Ok, Err, MatchResult, ok_or}
use Rattle.linker_utils_c.specs.Imports.{Architecture, DoesNotFit, Status, Success, TooShort}
use Rattle.linker_utils_c.specs.Imports.{UnknownArchitecture, UnknownForm, X86_64, architecture_of}
use Rattle.linker_utils_c.specs.Imports.{byte_len, cast_unsigned, flag_number, form_of_number, w64}
use Rattle.linker_base.specs.Form.{Form, window_of, Fits, Written, MachineReads, IsReadBack}
use Rattle.linker_elf.specs.declared.elf.AnyForm.{AnyForm}
use Rattle.linker_utils_c.specs.Status.{code, HasRoom}

-- the form of a machine (e_machine) and a number, or which of the two is unknown
abbrev pub form_among : Option Architecture → ℕ → Result AnyForm Status
form_among None form = Err UnknownArchitecture
form_among (Some X86_64) form = Err UnknownArchitecture
form_among (Some architecture) form = ok_or (form_of_number architecture form) UnknownForm

abbrev pub named_form : ℕ → ℕ → Result AnyForm Status
named_form machine form = form_among (architecture_of machine) form

-- what was found: the form, or the number of the status that says what is unknown
abbrev pub IsFormFound : Result AnyForm Status → Result AnyForm ℕ
    → Type 0
IsFormFound named found = MatchResult found (λ form. named ≡ Ok form)
    (λ number. (status : Status) × (named ≡ Err status) × (number ≡ code status))

-- the status says whether a value can be written to the instruction that the bytes begin with
pub record TakesValue (form : Form) (value : ℕ) (bytes : List ℕ) (status : ℕ) : Type 0 where
  pub short : length bytes < byte_len form.window → status ≡ code TooShort
  pub unfit : byte_len form.window ≤ length bytes → ¬ Fits form value (window_of form bytes)
      → status ≡ code DoesNotFit
  pub fits : byte_len form.window ≤ length bytes → Fits form value (window_of form bytes)
      → status ≡ code Success

-- a value was written to the instruction that the bytes begin with, and nothing else has changed
pub record HasValue (form : Form) (value : ℕ) (negative : Bool)
    (before after : List ℕ) : Type 0 where
  pub written : Written form value negative (window_of form before) (window_of form after)
  pub rest : drop (byte_len form.window) after ≡ drop (byte_len form.window) before
  pub machine : MachineReads form value negative (window_of form before) (window_of form after)
  pub restored : IsReadBack form value negative (window_of form before) → after ≡ before

-- a value was written, or the status says why it wasn't
pub record IsWrite (form : Form) (value : ℕ) (negative : Bool) (before after : List ℕ)
    (status : ℕ) : Type 0 where
  pub takes : TakesValue form value before status
  pub written : status ≡ code Success → HasValue form value negative before after

-- a value was read from the instruction that the bytes begin with, and the form's flag, or the
-- status says why not
pub record IsRead (form : Form) (bytes : List ℕ) (old new old_flag new_flag status : ℕ)
    : Type 0 where
  pub room : HasRoom (byte_len form.window) bytes status
  pub number : status ≡ code Success
      → new ≡ cast_unsigned w64 (form.reading (window_of form bytes))
  pub flag : status ≡ code Success → new_flag ≡ flag_number (form.flag (window_of form bytes))
  pub unchanged : status ≢ code Success → (new ≡ old) × (new_flag ≡ old_flag)
