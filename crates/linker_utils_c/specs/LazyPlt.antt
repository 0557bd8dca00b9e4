-- Lazy PLTs, in the numbers that C sees.
use Rattle.std.specs.Prelude.{◌≡◌, ◌⊎◌, ◌==◌, ℕ, List, length, Result, Ok, Err, Option, Some, None}
use Rattle.std.specs.Prelude.{if◌then◌else◌}
use Rattle.linker_output.specs.LazyPlt.{PltCode, capped_len, WritesCode, RejectsCode}
use Rattle.linker_output.specs.LazyPlts.{plt_of_form}
use Rattle.linker_output.specs.declared.lazy_plt.LazyEntry.{LazyEntry}
use Rattle.linker_output.specs.declared.lazy_plt.LazyForm.{LazyForm}
use Rattle.linker_output.specs.declared.lazy_plt.LazyForm.TheVariants as form
use Rattle.linker_output.specs.declared.lazy_plt.LazyPiece.{LazyPiece}
use Rattle.linker_utils_c.specs.Imports.{Architecture, Status, StubError, Success}
use Rattle.linker_utils_c.specs.Output.{stub_status}
use Rattle.linker_utils_c.specs.Status.{code}
use Rattle.linker_utils_c.specs.declared.lazy_plt.LazyPltNumbers.{LazyPltNumbers}

-- the form with a number
abbrev pub form_of : ℕ → Option LazyForm
form_of number =
    if number == 0 then Some form.Plain
    else if number == 1 then Some form.Landing
    else if number == 2 then Some form.LandingEntry
    else if number == 3 then Some form.Authenticated
    else if number == 4 then Some form.AuthenticatedLanding
    else if number == 5 then Some form.AuthenticatedLandingEntry
    else None

abbrev pub plt_in : Architecture → Option LazyForm → Option PltCode
plt_in architecture None = None
plt_in architecture (Some form) = plt_of_form architecture form

abbrev pub numbers_of : PltCode → LazyPltNumbers
numbers_of plt =
    record {
      header_len = capped_len plt.header;
      entry_len = capped_len plt.entry;
      alignment = plt.alignment;
      header_words = length plt.header_words;
    }

abbrev pub written_status : Result Unit StubError → Status
written_status (Ok done) = Success
written_status (Err error) = stub_status error

-- code is written, or its error is returned and nothing is
abbrev pub IsCodeWritten : Architecture → List LazyPiece → LazyEntry → List ℕ → List ℕ → ℕ → Type 0
IsCodeWritten architecture pieces entry before after status =
    ((status ≡ code Success) × WritesCode architecture pieces entry before after)
    ⊎ ((error : StubError) × (status ≡ code (stub_status error)) × (after ≡ before)
    × RejectsCode architecture pieces entry before error)
