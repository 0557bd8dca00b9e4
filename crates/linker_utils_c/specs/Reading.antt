-- The number in the immediate of an instruction, what stands in the field of a relocation that is
-- named by numbers, and the address that it leads to.
use Rattle.std.specs.Prelude.{◌≡◌, ℕ, ℤ, List, length, nat_lt, Option, None, if◌then◌else◌}
use Rattle.std.specs.Prelude.{Some}
use Rattle.linker_utils_c.specs.Imports.{BadFieldValue, DoesNotMatch, HoldsNoValue, NoAddress}
use Rattle.linker_utils_c.specs.Imports.{NotHalves, Operands, RowInfo, Success, TooShort}
use Rattle.linker_utils_c.specs.Imports.{window_len}
use Rattle.linker_reading.specs.declared.fields.FieldValue.{FieldValue}
use Rattle.linker_elf.specs.declared.elf.AnyForm.{AnyForm}
use Rattle.linker_reading.specs.Encodings.{IsOperand}
use Rattle.linker_reading.specs.Fields.{IsProper}
use Rattle.linker_reading.specs.Reading.{value_read}
use Rattle.linker_reading.specs.Solving.{terms_of, IsSolved, IsJoined}
use Rattle.linker_reading.specs.declared.solving.Reference.{Reference}
use Rattle.linker_reading.specs.declared.solving.Reference.TheVariants.{Symbol, GotEntry, PltEntry}
use Rattle.linker_reading.specs.declared.solving.Terms.{Terms}
use Rattle.linker_utils_c.specs.Status.{code, IsGivenBy, IsGiven}
use Rattle.linker_utils_c.specs.declared.reading.FieldValueNumbers.{FieldValueNumbers}

-- ---- immediates

pub record IsOperandReturned (form : AnyForm) (bytes : List ℕ) (old new : ℤ)
    (status : ℕ) : Type 0 where
  pub operand : Option ℤ
  pub is_operand : IsOperand form bytes operand
  pub returned : IsGiven operand DoesNotMatch old new status

-- ---- known bits

-- what is known of a number
abbrev pub field_of : FieldValueNumbers → FieldValue
field_of numbers =
    record {
      known = record { start = numbers.first_bit; end = numbers.end_bit };
      bits = numbers.bits;
      rounding = numbers.rounding;
    }

-- ---- reading

-- what is read; nothing where there are too few bytes, and else where they don't hold the value
abbrev pub IsRowRead : RowInfo → List ℕ → FieldValueNumbers → FieldValueNumbers → ℕ → Type 0
IsRowRead row bytes old new status =
    IsGivenBy (λ f given. field_of given ≡ f) (value_read row bytes)
    (if nat_lt (length bytes) (window_len row) then TooShort else HoldsNoValue) old new status

-- ---- solving

-- the number of what an address is that of
abbrev pub reference_number : Reference → ℕ
reference_number Symbol = 0
reference_number GotEntry = 1
reference_number PltEntry = 2

-- the address, and the number of what it is that of; or that there is none
abbrev pub IsAddress : Option Terms → Option FieldValue → ℕ → ℕ → FieldValueNumbers
    → FieldValueNumbers → ℕ → Type 0
IsAddress None solution before reference old new status =
    (status ≡ code NoAddress) × (reference ≡ before) × (new ≡ old)
IsAddress (Some t) None before reference old new status =
    (status ≡ code NoAddress) × (reference ≡ before) × (new ≡ old)
IsAddress (Some t) (Some f) before reference old new status =
    (status ≡ code Success) × (reference ≡ reference_number t.reference) × (field_of new ≡ f)

pub record IsSolvedBy (row : RowInfo) (f : FieldValue) (o : Operands)
    (before reference : ℕ) (old new : FieldValueNumbers) (status : ℕ) : Type 0 where
  pub solution : Option FieldValue
  pub solved : IsSolved row f o solution
  pub returned : IsAddress (terms_of row.kind row.size) solution before reference old new status

-- What is known of the value has to be proper.
pub record IsRowSolved (row : RowInfo) (f : FieldValue) (o : Operands)
    (before reference : ℕ) (old new : FieldValueNumbers) (status : ℕ) : Type 0 where
  pub improper : ¬ IsProper f
      → (status ≡ code BadFieldValue) × (reference ≡ before) × (new ≡ old)
  pub proper : IsProper f → IsSolvedBy row f o before reference old new status

-- ---- halves

pub record IsJoinedBy (high low : FieldValue) (old new : FieldValueNumbers) (status : ℕ)
    : Type 0 where
  pub whole : Option FieldValue
  pub joined : IsJoined high low whole
  pub returned : IsGivenBy (λ f given. field_of given ≡ f) whole NotHalves old new status

-- Both have to be proper.
pub record AreHalvesJoined (high low : FieldValue) (old new : FieldValueNumbers) (status : ℕ)
    : Type 0 where
  pub improper : ¬ (IsProper high × IsProper low) → (status ≡ code BadFieldValue) × (new ≡ old)
  pub proper : IsProper high → IsProper low → IsJoinedBy high low old new status
