-- What the fields of a section's relocations hold once all values are written: each the part that
-- it can hold of the value that its own relocations compose.
use Rattle.std.specs.Prelude.{◌≡◌, ◌⊎◌, ℕ, zero, suc, ◌+◌, ◌*◌, ◌/◌, ◌%◌, ◌^◌, ◌<◌, ◌≤◌, ◌==◌, true}
use Rattle.std.specs.Prelude.{false, nat_lt, if◌then◌else◌, ℤ, pos, ◌+ℤ◌, ◌-ℤ◌, List}
use Rattle.std.specs.Prelude.{length, take, slice_index, drop, Option, Some, None, Ok}
use Rattle.linker_section.specs.Imports.{AbsoluteAddition, AbsoluteAdditionWord6, AbsoluteSetWord6}
use Rattle.linker_section.specs.Imports.{AbsoluteSubtraction, AbsoluteSubtractionWord6, Addresses}
use Rattle.linker_section.specs.Imports.{Architecture, BitMasking, ByteSize, IsAccepted}
use Rattle.linker_section.specs.Imports.{IsUlebWritten, RelocationKind, RowInfo, RowSize}
use Rattle.linker_section.specs.Imports.{SectionError, Symbol, Uleb, WritesRow, int_rem_euclid}
use Rattle.linker_section.specs.Imports.{number_of_bytes}
use Rattle.linker_section.specs.Conditions.{HasLength, holds_offset}
use Rattle.linker_section.specs.Fields.{field_end, field_len, begins_pair, ends_pair, is_of_pair}
use Rattle.linker_section.specs.Fields.{AreApart}
use Rattle.linker_section.specs.Sections.{IsNumberOfPair, IsInside, BeginsPair}
use Rattle.linker_section.specs.Sections.{Values, by_index, IsCauseAt, IsOfValue}
use Rattle.linker_section.specs.Values.{offset_at}

-- ---- values

-- the row and the value of the relocation at an index; none without a value
abbrev pub Found : Type 0
Found = ℕ → Option (RowInfo × ℤ)

-- those of the relocations below an index
abbrev pub AreFound : Architecture → Addresses → List ℕ → Values → ℕ → Found → Type 0
AreFound architecture addresses bytes values n found =
    (i : ℕ) → i < n → values architecture addresses bytes i (Ok (found i))

-- ---- values that compose

-- A relocation adds its value to the number so far, subtracts it from that, or sets the number to
-- it.
abbrev pub composed_with : RelocationKind → ℤ → ℤ → ℤ
composed_with AbsoluteAddition v number = number +ℤ v
composed_with AbsoluteAdditionWord6 v number = number +ℤ v
composed_with AbsoluteSubtraction v number = number -ℤ v
composed_with AbsoluteSubtractionWord6 v number = number -ℤ v
composed_with kind v number = v

-- if it has a field in the bytes there
abbrev pub composed_by : List ℕ → Option (RowInfo × ℤ) → ℤ → ℤ
composed_by there None number = number
composed_by there (Some one) number =
    if nat_lt 0 (field_len (one.0) there) then composed_with (one.0).kind (one.1) number
    else number

-- What the relocations below an index that are at one offset of a section compose over a number, in
-- their order (gABI, "Relocation").
abbrev pub composed : Found → List ℕ → List ℕ → ℕ → ℤ → ℕ → ℤ
composed found bytes section at number zero = number
composed found bytes section at number (suc n) =
    if offset_at bytes n == at then
    composed_by (drop at section) (found n) (composed found bytes section at number n)
    else composed found bytes section at number n

-- ---- what fields hold

-- the low 6 bits of a number are those of a value, and those above are as before
pub record HoldsWord6 (len : ℕ) (value : ℤ) (before after : List ℕ) : Type 0 where
  pub low : pos (number_of_bytes len after % 64) ≡ int_rem_euclid value (pos 64)
  pub high : number_of_bytes len after / 64 ≡ number_of_bytes len before / 64

-- a number of whole bytes is a value, modulo 2 ^ 8 for each, or its low 6 bits are
abbrev pub HoldsNumber : RelocationKind → ℕ → ℤ → List ℕ → List ℕ → Type 0
HoldsNumber AbsoluteSetWord6 len value before after = HoldsWord6 len value before after
HoldsNumber AbsoluteAdditionWord6 len value before after = HoldsWord6 len value before after
HoldsNumber AbsoluteSubtractionWord6 len value before after = HoldsWord6 len value before after
HoldsNumber kind len value before after =
    pos (number_of_bytes len after) ≡ int_rem_euclid value (pos (2 ^ (8 * len)))

-- An instruction has the value of its relocation, and the machine reads it. Whole bytes have what
-- all relocations there compose over the number of the bytes before.
abbrev pub HoldsValue : RowSize → RowInfo → ℤ → (ℤ → ℤ) → List ℕ → List ℕ
    → Type 0
HoldsValue (BitMasking bits insn) row v compose before after = WritesRow row v before after
HoldsValue (ByteSize len) row v compose before after =
    HoldsNumber row.kind len (compose (pos (number_of_bytes len before))) before after

-- two relocations are a pair, whose values make a number over the ULEB128 number in bytes
pub record MakePair (found : Found) (bytes : List ℕ) (first : ℕ) (there : List ℕ) (number : ℕ)
    : Type 0 where
  pub row : RowInfo
  pub value : ℤ
  pub is_first : found first ≡ Some (row, value)
  pub begins : begins_pair row.size row.kind ≡ true
  pub other : RowInfo
  pub subtracted : ℤ
  pub is_second : found (first + 1) ≡ Some (other, subtracted)
  pub ends : ends_pair other.size other.kind ≡ true
  pub same_offset : offset_at bytes (first + 1) ≡ offset_at bytes first
  pub is_number : IsNumberOfPair other.kind there value subtracted number

-- what is said, by the first's index, of the pair of relocations below an index that one is of
abbrev pub OfPair : (ℕ → Type 0) → ℕ → ℕ → Type 0
OfPair Said n i =
    (first : ℕ) × (first + 1 < n) × ((i ≡ first) ⊎ (i ≡ first + 1)) × Said first

-- A field holds the number of a pair, in as many bytes as the one before.
pub record HoldsPair (found : Found) (bytes before after : List ℕ) (first : ℕ) : Type 0 where
  pub number : ℕ
  pub pair : MakePair found bytes first before number
  pub written : IsUlebWritten before number after

-- the bytes in a section that are the field of a relocation of a row in the section before
abbrev pub field_bytes : List ℕ → List ℕ → ℕ → RowInfo → List ℕ → List ℕ
field_bytes bytes before i row section =
    take (field_len row (drop (offset_at bytes i) before)) (drop (offset_at bytes i) section)

-- what the field of the relocation at an index holds, where all n are written
pub record IsHeld (found : Found) (bytes before after : List ℕ) (n i : ℕ)
    (row : RowInfo) (v : ℤ) : Type 0 where
  pub value : is_of_pair row ≡ false
      → HoldsValue row.size row v
      (λ number. composed found bytes before (offset_at bytes i) number n)
      (field_bytes bytes before i row before) (field_bytes bytes before i row after)
  pub pair : is_of_pair row ≡ true
      → OfPair (HoldsPair found bytes (field_bytes bytes before i row before)
      (field_bytes bytes before i row after)) n i

-- ---- values that are accepted

-- a row accepts a value at an offset of a section as it is before all writes
pub record IsAcceptedAt (row : RowInfo) (v : ℤ) (offset : ℕ) (section : List ℕ)
    : Type 0 where
  pub inside : offset ≤ length section
  pub length_shown : HasLength row offset section
  pub holds : holds_offset row v (drop offset section) ≡ true
  pub accepted : IsAccepted row v (drop offset section)

-- The number of a pair fits in the bytes of the one that is there.
pub record PairFits (found : Found) (bytes section : List ℕ) (first : ℕ) : Type 0 where
  pub number : ℕ
  pub pair : MakePair found bytes first (drop (offset_at bytes first) section) number
  pub old : ℕ
  pub rest : List ℕ
  pub there : Uleb (drop (offset_at bytes first) section) old rest
  pub fits : number < 128 ^ (there.last + 1)

-- the values below an index are accepted
abbrev pub AreAccepted : Found → List ℕ → List ℕ → ℕ → Type 0
AreAccepted found bytes section n =
    (i : ℕ) (row : RowInfo) (v : ℤ) → i < n → found i ≡ Some (row, v)
    → (is_of_pair row ≡ false → IsAcceptedAt row v (offset_at bytes i) section)
    × (is_of_pair row ≡ true → OfPair (PairFits found bytes section) n i)

-- ---- fields that nothing is written to

-- those of relocations below an index, which are left out, are in the section
abbrev pub AreInside : Architecture → List ℕ → Found → List ℕ → ℕ → Type 0
AreInside architecture bytes found section n =
    (i : ℕ) → i < n → found i ≡ None → IsInside architecture bytes section i

-- no field that a value is written to has the byte
abbrev pub IsUnwritten : Found → List ℕ → List ℕ → ℕ → ℕ → Type 0
IsUnwritten found bytes section n p =
    (i : ℕ) (row : RowInfo) (v : ℤ) → i < n → found i ≡ Some (row, v)
    → (p < offset_at bytes i) ⊎ (field_end bytes section i row ≤ p)

-- ---- all relocations

-- Each relocation has a value or none to write, fields that overlap compose, each value is accepted
-- by the bytes before all writes, and each field that none is written to is in the section.
pub record CanBeWrittenBy (architecture : Architecture) (addresses : Addresses) (bytes : List ℕ)
    (values : Values) (section : List ℕ) : Type 0 where
  pub found : Found
  pub are_found : AreFound architecture addresses bytes values (length bytes / 24) found
  pub apart : AreApart architecture bytes section (length bytes / 24)
  pub accepted : AreAccepted found bytes section (length bytes / 24)
  pub inside : AreInside architecture bytes found section (length bytes / 24)

-- so by a table of symbols
abbrev pub CanBeWritten : Architecture → Addresses → List ℕ → List Symbol → List ℕ → Type 0
CanBeWritten architecture addresses bytes symbols section =
    CanBeWrittenBy architecture addresses bytes (by_index symbols) section

-- A section that can be written is so: each field holds what its relocations compose over the bytes
-- that it had before, and each byte that no value is written to is as before.
pub record AreWrittenBy (architecture : Architecture) (addresses : Addresses) (bytes : List ℕ)
    (values : Values) (before after : List ℕ) : Type 0 where
  pub can : CanBeWrittenBy architecture addresses bytes values before
  pub fields : (i : ℕ) (row : RowInfo) (v : ℤ) → i < length bytes / 24
      → can.found i ≡ Some (row, v) → 0 < field_len row (drop (offset_at bytes i) before)
      → IsHeld can.found bytes before after (length bytes / 24) i row v
  pub left : (p : ℕ) → IsUnwritten can.found bytes before (length bytes / 24) p
      → slice_index after p ≡ slice_index before p
  pub same_length : length after ≡ length before

-- so by a table of symbols
abbrev pub AreWritten : Architecture → Addresses → List ℕ → List Symbol → List ℕ → List ℕ → Type 0
AreWritten architecture addresses bytes symbols before after =
    AreWrittenBy architecture addresses bytes (by_index symbols) before after

-- The relocation at an index is the first that can't be written, by the bytes before all writes. It
-- has no value, its field overlaps that of an earlier one with which it doesn't compose, or its
-- value isn't accepted. Those before it are found and accepted, except for the first of a pair of
-- which it is the second.
pub record IsFirstFaultBy (architecture : Architecture) (addresses : Addresses) (bytes : List ℕ)
    (values : Values) (section : List ℕ) (error : SectionError) : Type 0 where
  pub within : error.index < length bytes / 24
  pub written : ℕ
  pub is_next : (error.index ≡ written)
      ⊎ ((error.index ≡ written + 1) × BeginsPair architecture bytes written
      × IsOfValue error.error)
  pub found : Found
  pub are_found : AreFound architecture addresses bytes values written found
  pub apart : AreApart architecture bytes section error.index
  pub accepted : AreAccepted found bytes section written
  pub inside : AreInside architecture bytes found section written
  pub cause : IsCauseAt architecture addresses bytes values section error.index section error.error

-- so by a table of symbols
abbrev pub IsFirstFault : Architecture → Addresses → List ℕ → List Symbol → List ℕ → SectionError
    → Type 0
IsFirstFault architecture addresses bytes symbols section error =
    IsFirstFaultBy architecture addresses bytes (by_index symbols) section error
