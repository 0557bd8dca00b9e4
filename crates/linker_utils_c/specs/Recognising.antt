-- What a linker made of a relocation that is named by numbers, and the bits of its field.
use Rattle.std.specs.Prelude.{◌≡◌, ◌≢◌, ◌<◌, ◌≤◌, ◌==◌, ◌↔◌, ℕ, List, [], ◌∷◌, length, take, ⊤}
use Rattle.std.specs.Prelude.{slice_index_or, Bool, Option, None, Some, IsTrue}
use Rattle.linker_utils_c.specs.Imports.{Architecture, DifferentLengths, IsRow, LeavesOtherBytes}
use Rattle.linker_utils_c.specs.Imports.{LinkFacts, NoAddress, Operands, Relaxation, RowInfo}
use Rattle.linker_utils_c.specs.Imports.{Success, TooShort, UnknownRewrite, WindowTooLong, bit_at}
use Rattle.linker_utils_c.specs.Imports.{relaxation_architecture, rewrite_of_number, window_len}
use Rattle.linker_reading.specs.declared.fields.FieldValue.{FieldValue}
use Rattle.linker_base.specs.declared.rewrite.RewriteWindow.{RewriteWindow}
use Rattle.linker_reading.specs.FieldsOfBytes.{is_field_bit, AreSameButFor}
use Rattle.linker_reading.specs.FoundByType.{AreFound, IsFoundChosen}
use Rattle.linker_reading.specs.Windows.{IsWindowOf, IsDestination, symbol_of}
use Rattle.linker_reading.specs.declared.windows.Destination.{Destination}
use Rattle.linker_reading.specs.declared.recognise.engine.Recognised.{Recognised}
use Rattle.linker_reading.specs.declared.recognise.fields.FieldBits.{FieldBits}
use Rattle.linker_utils_c.specs.Choices.{IsChoiceInNumbers}
use Rattle.linker_utils_c.specs.Reading.{field_of, reference_number}
use Rattle.linker_utils_c.specs.Status.{code, IsGivenBy}
use Rattle.linker_utils_c.specs.declared.recognising.DestinationNumbers.{DestinationNumbers}
use Rattle.linker_utils_c.specs.declared.recognising.RecognisedNumbers.{RecognisedNumbers}

-- ---- the bits of a field

-- the bits that a write of the row may change, if the bytes have its window
pub record AreFieldBits (row : RowInfo) (bytes : List ℕ) (old bits status : ℕ)
    : Type 0 where
  pub short : length bytes < window_len row → (status ≡ code TooShort) × (bits ≡ old)
  pub long : window_len row ≤ length bytes → (status ≡ code Success)
      × ((w : ℕ) → w < 64 → (bit_at bits w == 1) ≡ is_field_bit row bytes w)

-- whether two windows differ in the field of a row only
abbrev pub IsSameness : List ℕ → List ℕ → RowInfo → Bool → Type 0
IsSameness a b row same = IsTrue same ↔ AreSameButFor row a b

-- ---- what was found, in numbers

-- what is known of a value; no bits where nothing is
abbrev pub field_or_none : Option FieldValue → FieldValue
field_or_none None = record { known = record { start = 0; end = 0 }; bits = 0; rounding = 0 }
field_or_none (Some f) = f

pub record IsMadeInNumbers (m : Recognised Relaxation ℕ) (numbers : RecognisedNumbers)
    : Type 0 where
  pub choice :
      IsChoiceInNumbers (relaxation_architecture m.choice.kind) m.choice numbers.choice
  pub offset : numbers.offset ≡ m.offset
  pub value : field_of numbers.value ≡ field_or_none m.value

-- each of a list, in its order
abbrev pub AreInNumbers : List (Recognised Relaxation ℕ) → List RecognisedNumbers → Type 0
AreInNumbers [] [] = ⊤
AreInNumbers [] (numbers ∷ others) = ⊥
AreInNumbers (m ∷ ms) [] = ⊥
AreInNumbers (m ∷ ms) (numbers ∷ others) = IsMadeInNumbers m numbers × AreInNumbers ms others

-- those that are there, in their order
abbrev pub present : {A : Type 0} → List (Option A) → List A
present [] = []
present (None ∷ found) = present found
present (Some a ∷ found) = a ∷ present found

-- ---- recognising

-- what was found is written first, and how many it is; the others stay
pub record AreWritten (found : List (Option (Recognised Relaxation ℕ)))
    (old new : List RecognisedNumbers) (count : ℕ) : Type 0 where
  pub written : AreInNumbers (present found) (take count new)
  pub others_stay : (k : ℕ) (numbers : RecognisedNumbers) → count ≤ k
      → slice_index_or new k numbers ≡ slice_index_or old k numbers

-- of an architecture's relocation, in a window of at most 64 bytes, into an array of 6
pub record AreRecognised (architecture : Architecture) (r_type : ℕ) (original : List ℕ) (o : ℕ)
    (others : List FieldBits) (linked : List ℕ) (old new : List RecognisedNumbers)
    (old_count count status : ℕ) : Type 0 where
  pub lengths : length old ≢ 6
      → (status ≡ code DifferentLengths) × (new ≡ old) × (count ≡ old_count)
  pub long : length old ≡ 6 → 64 < length original
      → (status ≡ code WindowTooLong) × (new ≡ old) × (count ≡ old_count)
  pub found : length old ≡ 6 → length original ≤ 64 → (status ≡ code Success)
      × (made : List (Option (Recognised Relaxation ℕ)))
      × AreFound architecture r_type original o others linked made × AreWritten made old new count

-- the window that recognising wants, around a relocation in at most 64 bytes
pub record IsWindowGiven (architecture : Architecture) (r_type : ℕ) (original : List ℕ) (o : ℕ)
    (old new : RewriteWindow) (status : ℕ) : Type 0 where
  pub long : 64 < length original → (status ≡ code WindowTooLong) × (new ≡ old)
  pub given : length original ≤ 64
      → (status ≡ code Success) × IsWindowOf architecture r_type original o new

pub record IsRecognised (architecture : Architecture) (r_type : ℕ) (original : List ℕ) (o : ℕ)
    (others : List FieldBits) (linked : List ℕ) (facts : LinkFacts) (old new : RecognisedNumbers)
    (status : ℕ) : Type 0 where
  pub long : 64 < length original → (status ≡ code WindowTooLong) × (new ≡ old)
  pub found : length original ≤ 64 → (made : Option (Recognised Relaxation ℕ))
      × IsFoundChosen architecture r_type original o others linked facts made
      × IsGivenBy IsMadeInNumbers made LeavesOtherBytes old new status

-- ---- where one leads

-- S or L, if it is known
abbrev pub IsSymbol : Option ℕ → DestinationNumbers → Type 0
IsSymbol None numbers = (numbers.has_symbol ≡ 0) × (numbers.symbol ≡ 0)
IsSymbol (Some symbol) numbers = (numbers.has_symbol ≡ 1) × (numbers.symbol ≡ symbol)

pub record IsDestinationInNumbers (d : Destination) (st_other : ℕ) (numbers : DestinationNumbers)
    : Type 0 where
  pub address : field_of numbers.address ≡ d.address
  pub addend : numbers.addend ≡ d.addend
  pub reference : numbers.reference ≡ reference_number d.reference
  pub symbol : IsSymbol (symbol_of d st_other) numbers

-- after a rewrite, or no rewrite has the numbers
abbrev pub IsDestinationOf : Architecture → Option Relaxation → RecognisedNumbers → List ℕ → ℕ
    → Operands → ℕ → DestinationNumbers → DestinationNumbers → ℕ → Type 0
IsDestinationOf architecture None made original o operands st_other old new status =
    (status ≡ code UnknownRewrite) × (new ≡ old)
IsDestinationOf architecture (Some kind) made original o operands st_other old new status =
    (row : Option RowInfo) × IsRow architecture made.choice.relocation row
    × (d : Option Destination)
    × IsDestination row (Some (field_of made.value)) kind original o operands d
    × IsGivenBy (λ found. IsDestinationInNumbers found st_other) d NoAddress old new status

-- of a relocation in at most 64 bytes
pub record IsDestinationReturned (architecture : Architecture) (made : RecognisedNumbers)
    (original : List ℕ) (o : ℕ) (operands : Operands) (st_other : ℕ)
    (old new : DestinationNumbers) (status : ℕ) : Type 0 where
  pub long : 64 < length original → (status ≡ code WindowTooLong) × (new ≡ old)
  pub short : length original ≤ 64 → IsDestinationOf architecture
      (rewrite_of_number architecture made.choice.rewrite made.choice.opcode_len) made original o
      operands st_other old new status
