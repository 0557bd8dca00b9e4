-- Packed relative relocations, in the numbers that C sees.
use Rattle.std.specs.Prelude.{◌≡◌, ◌⊎◌, ℕ, List, length, Result, Ok, Err}
use Rattle.linker_output.specs.Relr.{WritesPacked, RejectsAddresses, Unpacks, RejectsWords}
use Rattle.linker_output.specs.declared.relr.RelrError.{RelrError}
use Rattle.linker_output.specs.declared.relr.RelrError.TheVariants as errors
use Rattle.linker_utils_c.specs.Status.{code}
use Rattle.linker_utils_c.specs.Imports.{NoAddress, NotAscending, Status, Success, TooLarge}
use Rattle.linker_utils_c.specs.Imports.{TooShort, UnalignedAddress}

abbrev pub relr_status : Result ℕ RelrError → Status
relr_status (Ok count) = Success
relr_status (Err errors.Unaligned) = UnalignedAddress
relr_status (Err errors.NotAscending) = NotAscending
relr_status (Err errors.NoAddress) = NoAddress
relr_status (Err errors.Wraps) = TooLarge
relr_status (Err (errors.TooShort needed)) = TooShort

-- how many words or addresses there are, or are needed; as before with other errors
abbrev pub needed_by : Result ℕ RelrError → ℕ → ℕ
needed_by (Ok count) before = count
needed_by (Err (errors.TooShort needed)) before = needed
needed_by (Err others) before = before

-- words are written, or the error is returned and none is
abbrev pub IsPackedReturned : List ℕ → List ℕ → List ℕ → ℕ → ℕ → ℕ → Type 0
IsPackedReturned addresses before after needed_before needed status =
    ((status ≡ code Success) × WritesPacked addresses before after needed)
    ⊎ ((error : RelrError) × (status ≡ code (relr_status (Err error))) × (after ≡ before)
    × (needed ≡ needed_by (Err error) needed_before)
    × RejectsAddresses addresses (length before) error)

-- the same of addresses
abbrev pub AreReadReturned : List ℕ → List ℕ → List ℕ → ℕ → ℕ → ℕ → Type 0
AreReadReturned words before after needed_before needed status =
    ((status ≡ code Success) × Unpacks words before after needed)
    ⊎ ((error : RelrError) × (status ≡ code (relr_status (Err error))) × (after ≡ before)
    × (needed ≡ needed_by (Err error) needed_before)
    × RejectsWords words (length before) error)
