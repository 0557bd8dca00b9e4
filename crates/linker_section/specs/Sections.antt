-- The values of a section's relocations, written.
use Rattle.std.specs.Prelude.{◌≡◌, ◌⊎◌, ℕ, ◌+◌, ◌/◌, ◌<◌, ◌≤◌, true, false, ℤ, List}
use Rattle.std.specs.Prelude.{◌++◌, length, take, drop, slice_index, Option, Some, None, Result}
use Rattle.std.specs.Prelude.{Ok, Err, ⊤}
use Rattle.linker_section.specs.Imports.{Addresses, Architecture, IsCause, IsRow, IsUlebCause}
use Rattle.linker_section.specs.Imports.{IsUlebWritten, NeedsStub, NotAligned, OtherLength}
use Rattle.linker_section.specs.Imports.{OutOfReach, Overlaps, PairSubtractionULEB128LoongArch}
use Rattle.linker_section.specs.Imports.{Rela, RelocationKind, RowInfo, SectionError, Symbol}
use Rattle.linker_section.specs.Imports.{TooShort, Uleb128, Uleb128Error, Value, ValueError, Write}
use Rattle.linker_section.specs.Imports.{WritesRow, cast_unsigned, w64, window_len}
use Rattle.linker_elf.specs.declared.elf.Uleb128Role.{Uleb128Role}
use Rattle.linker_elf.specs.declared.elf.Uleb128Role.TheVariants.{Sets, Adds}
use Rattle.linker_elf.specs.declared.elf.relocate.RelocateError.{RelocateError}
use Rattle.linker_section.specs.Conditions.{HasLength, IsInReach, holds_offset, is_filled}
use Rattle.linker_section.specs.Conditions.{lacks_stub, shows_length}
use Rattle.linker_section.specs.Fields.{begins_pair, ends_pair, field_end, IsField}
use Rattle.linker_section.specs.Fields.{AreApart, IsOverlapped}
use Rattle.linker_section.specs.Relocations.{relocation_in}
use Rattle.linker_section.specs.Values.{IsValueIn, IsValue, has_value, offset_at}
use Rattle.linker_section.specs.declared.sections.RelocationError.{RelocationError}
use Rattle.linker_section.specs.declared.values.ValueError.TheVariants as value_errors
use Rattle.linker_elf.specs.Uleb128.{IsPairNumber}

-- ---- one value, at an offset

-- The bytes from the offset on are what a write of the row makes of them, as many as before, and
-- those before it stay.
pub record IsWritten (row : RowInfo) (v : ℤ) (offset : ℕ) (before after : List ℕ)
    : Type 0 where
  pub inside : offset ≤ length before
  pub rest : List ℕ
  pub around : after ≡ take offset before ++ rest
  pub same_length : length after ≡ length before
  pub length_shown : HasLength row offset before
  pub holds : holds_offset row v (drop offset before) ≡ true
  pub written : WritesRow row v (drop offset before) rest

-- the row rejects the value there, or the offset is past the end
pub record IsRejected (row : RowInfo) (v : ℤ) (offset : ℕ) (before : List ℕ)
    (error : RelocateError) : Type 0 where
  pub outside : length before < offset → error ≡ TooShort
  pub inside : offset ≤ length before → IsCause row v (drop offset before) error

-- the value is an offset that an instruction with the thread pointer as its base doesn't hold
pub record IsBeyond (row : RowInfo) (v : ℤ) (offset : ℕ) (before : List ℕ)
    (error : RelocateError) : Type 0 where
  pub is_error : error ≡ OutOfReach
  pub inside : offset ≤ length before
  pub long : window_len row ≤ length (drop offset before)
  pub other : holds_offset row v (drop offset before) ≡ false

abbrev pub IsUnwritable : RowInfo → ℤ → ℕ → List ℕ → RelocateError → Type 0
IsUnwritable row v offset before error =
    IsRejected row v offset before error ⊎ IsBeyond row v offset before error

abbrev pub IsWrittenAt : RowInfo → ℤ → ℕ → List ℕ → List ℕ → Result Unit RelocateError
    → Type 0
IsWrittenAt row v offset before after (Ok u) = IsWritten row v offset before after
IsWrittenAt row v offset before after (Err error) =
    IsUnwritable row v offset before error × (after ≡ before)

-- ---- one relocation

-- a relocation among those of its section has a row and a value
pub record HasValue (architecture : Architecture) (addresses : Addresses) (bytes : List ℕ)
    (symbols : List Symbol) (r : Rela) (row : RowInfo) (v : ℤ) : Type 0 where
  pub is_row : IsRow architecture r.r_type (Some row)
  pub is_value : IsValueIn architecture addresses bytes symbols r (Some row) (Ok (Some v))
  pub keeps_toc : lacks_stub architecture symbols r ≡ false
  pub in_reach : IsInReach architecture bytes r v

-- A relocation has no value of its own, and if it is an alignment, it holds.
abbrev pub IsMark : Architecture → Addresses → List ℕ → List Symbol → Rela → Type 0
IsMark architecture addresses bytes symbols r =
    (row : Option RowInfo) × IsRow architecture r.r_type row
    × IsValueIn architecture addresses bytes symbols r row (Ok None)
    × (is_filled architecture addresses r ≡ true)

-- There is no value to write: the relocation has none, an alignment doesn't hold, a call may lose
-- its TOC pointer, or the instructions have no bits for all of it.
pub data IsValueless (architecture : Architecture) (addresses : Addresses) (bytes : List ℕ)
    (symbols : List Symbol) (r : Rela) : ValueError → Type 0 where
  no_value : {error : ValueError} → IsValue architecture addresses bytes symbols r (Err error)
      → IsValueless architecture addresses bytes symbols r error
  not_filled : IsValue architecture addresses bytes symbols r (Ok None)
      → is_filled architecture addresses r ≡ false
      → IsValueless architecture addresses bytes symbols r NotAligned
  no_stub : {v : ℤ} → IsValue architecture addresses bytes symbols r (Ok (Some v))
      → lacks_stub architecture symbols r ≡ true
      → IsValueless architecture addresses bytes symbols r NeedsStub
  beyond : {v : ℤ} → IsValue architecture addresses bytes symbols r (Ok (Some v))
      → ¬ IsInReach architecture bytes r v
      → IsValueless architecture addresses bytes symbols r value_errors.OutOfReach

-- its row and value, or none of a relocation without a value, or why there is none
abbrev pub IsRowValue : Architecture → Addresses → List ℕ → List Symbol → Rela
    → Result (Option (RowInfo × ℤ)) ValueError → Type 0
IsRowValue architecture addresses bytes symbols r (Ok (Some found)) =
    HasValue architecture addresses bytes symbols r (found.0) (found.1)
IsRowValue architecture addresses bytes symbols r (Ok None) =
    IsMark architecture addresses bytes symbols r
IsRowValue architecture addresses bytes symbols r (Err error) =
    IsValueless architecture addresses bytes symbols r error

-- ---- values, however they are found

-- the same of the relocation at an index
abbrev pub Outcome : Type 0
Outcome = Result (Option (RowInfo × ℤ)) ValueError

-- by which the values of a section's relocations are found: for each index what is so
abbrev pub Values : Type 1
Values = Architecture → Addresses → List ℕ → ℕ → Outcome → Type 0

-- by a table of symbols at the indexes that relocations name
abbrev pub by_index : List Symbol → Values
by_index symbols architecture addresses bytes i outcome =
    IsRowValue architecture addresses bytes symbols (relocation_in bytes i) outcome

-- the relocation at an index has a row and a value, and writes it
pub record IsValued (architecture : Architecture) (addresses : Addresses) (bytes : List ℕ)
    (values : Values) (i : ℕ) (row : RowInfo) (v : ℤ) : Type 0 where
  pub is_row : IsRow architecture (relocation_in bytes i).r_type (Some row)
  pub valued : has_value row.kind ≡ true
  pub is_value : values architecture addresses bytes i (Ok (Some (row, v)))

-- ---- a pair at a ULEB128 number

-- the role of the first relocation of a pair, by the formula of the second
abbrev pub first_role : RelocationKind → Uleb128Role
first_role PairSubtractionULEB128LoongArch = Adds
first_role kind = Sets

-- the number that the values of a pair write over another, modulo 2 ^ 64
abbrev pub IsNumberOfPair : RelocationKind → List ℕ → ℤ → ℤ → ℕ → Type 0
IsNumberOfPair kind before v w number =
    IsPairNumber (first_role kind) before (cast_unsigned w64 v) (cast_unsigned w64 w) number

-- the number stands at an offset in place of the one there, or the bytes there don't hold it
abbrev pub IsNumberWrittenAt : ℕ → ℕ → List ℕ → List ℕ → Result Unit Uleb128Error → Type 0
IsNumberWrittenAt number offset before after (Ok u) =
    (offset ≤ length before) × (rest : List ℕ) × (after ≡ take offset before ++ rest)
    × IsUlebWritten (drop offset before) number rest
IsNumberWrittenAt number offset before after (Err error) =
    IsUlebCause (drop offset before) number error × (after ≡ before)

-- the relocations at an index and the next are such a pair, whose values make the number over the
-- bytes there
pub record IsPair (architecture : Architecture) (addresses : Addresses) (bytes : List ℕ)
    (values : Values) (first : ℕ) (there : List ℕ) (number : ℕ) : Type 0 where
  pub same_offset : offset_at bytes (first + 1) ≡ offset_at bytes first
  pub row : RowInfo
  pub value : ℤ
  pub has_value : IsValued architecture addresses bytes values first row value
  pub begins : begins_pair row.size row.kind ≡ true
  pub other : RowInfo
  pub subtracted : ℤ
  pub has_subtracted : IsValued architecture addresses bytes values (first + 1) other subtracted
  pub ends : ends_pair other.size other.kind ≡ true
  pub is_number : IsNumberOfPair other.kind there value subtracted number

-- the number is written in place of the one there, in as many bytes, and all other bytes stay
pub record IsPairWritten (architecture : Architecture) (addresses : Addresses) (bytes : List ℕ)
    (values : Values) (first : ℕ) (before after : List ℕ) : Type 0 where
  pub inside : offset_at bytes first ≤ length before
  pub number : ℕ
  pub pair : IsPair architecture addresses bytes values first (drop (offset_at bytes first) before)
      number
  pub rest : List ℕ
  pub around : after ≡ take (offset_at bytes first) before ++ rest
  pub written : IsUlebWritten (drop (offset_at bytes first) before) number rest

-- there is no number to write over, as past the section's end, or it has too few bytes
pub record IsPairRejected (architecture : Architecture) (addresses : Addresses) (bytes : List ℕ)
    (values : Values) (first : ℕ) (before : List ℕ) (error : Uleb128Error) : Type 0 where
  pub number : ℕ
  pub pair : IsPair architecture addresses bytes values first (drop (offset_at bytes first) before)
      number
  pub cause : IsUlebCause (drop (offset_at bytes first) before) number error

-- the relocation at an index is followed by the second of a pair, whose first it is
pub record BeginsPair (architecture : Architecture) (bytes : List ℕ) (i : ℕ) : Type 0 where
  pub within : i + 1 < length bytes / 24
  pub same_offset : offset_at bytes (i + 1) ≡ offset_at bytes i
  pub row : RowInfo
  pub is_row : IsRow architecture (relocation_in bytes i).r_type (Some row)
  pub begins : begins_pair row.size row.kind ≡ true
  pub other : RowInfo
  pub is_other : IsRow architecture (relocation_in bytes (i + 1)).r_type (Some other)
  pub ends : ends_pair other.size other.kind ≡ true

-- ---- all relocations

-- the field of the relocation at an index, if it has one, is in the section
abbrev pub IsInside : Architecture → List ℕ → List ℕ → ℕ → Type 0
IsInside architecture bytes section i =
    (row : RowInfo) → IsField architecture bytes section i row
    → field_end bytes section i row ≤ length section

-- The values of those below an index are written, one after the other: nothing of a relocation
-- without a value or that is left out, and one number of two relocations that are a pair.
pub data AreRelocated (architecture : Architecture) (addresses : Addresses) (bytes : List ℕ)
    (values : Values) (before : List ℕ) : ℕ → List ℕ → Type 0 where
  none : AreRelocated architecture addresses bytes values before 0 before
  mark : {n : ℕ} {middle : List ℕ}
      → AreRelocated architecture addresses bytes values before n middle
      → values architecture addresses bytes n (Ok None)
      → IsInside architecture bytes before n
      → AreRelocated architecture addresses bytes values before (n + 1) middle
  one : {n : ℕ} {middle after : List ℕ} {row : RowInfo} {v : ℤ}
      → AreRelocated architecture addresses bytes values before n middle
      → IsValued architecture addresses bytes values n row v
      → IsWritten row v (offset_at bytes n) middle after
      → AreRelocated architecture addresses bytes values before (n + 1) after
  pair : {n : ℕ} {middle after : List ℕ}
      → AreRelocated architecture addresses bytes values before n middle
      → IsPairWritten architecture addresses bytes values n middle after
      → AreRelocated architecture addresses bytes values before (n + 2) after

-- ---- all bytes

-- no field has the byte
abbrev pub IsInNoField : Architecture → List ℕ → List ℕ → ℕ → ℕ → Type 0
IsInNoField architecture bytes section n p =
    (i : ℕ) (row : RowInfo) → i < n → IsField architecture bytes section i row
    → (p < offset_at bytes i) ⊎ (field_end bytes section i row ≤ p)

-- Fields that overlap compose. The values of all relocations are written, one after the other, and
-- all bytes that no field has stay.
pub record AreAllRelocatedBy (architecture : Architecture) (addresses : Addresses) (bytes : List ℕ)
    (values : Values) (before after : List ℕ) : Type 0 where
  pub apart : AreApart architecture bytes before (length bytes / 24)
  pub relocated : AreRelocated architecture addresses bytes values before (length bytes / 24) after
  pub others : (p : ℕ) → IsInNoField architecture bytes before (length bytes / 24) p
      → slice_index after p ≡ slice_index before p
  pub same_length : length after ≡ length before

-- so by a table of symbols
abbrev pub AreAllRelocated : Architecture → Addresses → List ℕ → List Symbol → List ℕ → List ℕ
    → Type 0
AreAllRelocated architecture addresses bytes symbols before after =
    AreAllRelocatedBy architecture addresses bytes (by_index symbols) before after

-- ---- errors

-- why the relocation at an index isn't written, where those before it are
pub record IsNotAccepted (architecture : Architecture) (addresses : Addresses) (bytes : List ℕ)
    (values : Values) (i : ℕ) (now : List ℕ) (error : RelocateError) : Type 0 where
  pub row : RowInfo
  pub value : ℤ
  pub has_value : IsValued architecture addresses bytes values i row value
  pub length_shown : HasLength row (offset_at bytes i) now
  pub rejected : IsUnwritable row value (offset_at bytes i) now error
  pub alone : ¬ BeginsPair architecture bytes i

-- no value is written to the field of the relocation at an index, which isn't in the section
pub record IsLeftPast (architecture : Architecture) (addresses : Addresses) (bytes : List ℕ)
    (values : Values) (i : ℕ) (before : List ℕ) (error : RelocateError) : Type 0 where
  pub is_error : error ≡ TooShort
  pub row : RowInfo
  pub is_field : IsField architecture bytes before i row
  pub no_value : values architecture addresses bytes i (Ok None)
  pub past : length before < field_end bytes before i row

-- the instruction there is shorter or longer than its form
pub record IsOtherLength (architecture : Architecture) (addresses : Addresses) (bytes : List ℕ)
    (values : Values) (i : ℕ) (now : List ℕ) : Type 0 where
  pub row : RowInfo
  pub value : ℤ
  pub has_value : IsValued architecture addresses bytes values i row value
  pub inside : offset_at bytes i ≤ length now
  pub long : window_len row ≤ length (drop (offset_at bytes i) now)
  pub other : shows_length row.size (drop (offset_at bytes i) now) ≡ false

-- The value is tested first, then the field, and then the bytes there: first the length of the
-- instruction.
abbrev pub IsCauseAt : Architecture → Addresses → List ℕ → Values → List ℕ → ℕ → List ℕ
    → RelocationError → Type 0
IsCauseAt architecture addresses bytes values before i now (Value error) =
    values architecture addresses bytes i (Err error)
IsCauseAt architecture addresses bytes values before i now Overlaps =
    IsOverlapped architecture bytes before i
IsCauseAt architecture addresses bytes values before i now OtherLength =
    AreApart architecture bytes before (i + 1)
    × IsOtherLength architecture addresses bytes values i now
IsCauseAt architecture addresses bytes values before i now (Write error) =
    AreApart architecture bytes before (i + 1)
    × (IsNotAccepted architecture addresses bytes values i now error
    ⊎ IsLeftPast architecture addresses bytes values i before error)
IsCauseAt architecture addresses bytes values before i now (Uleb128 error) =
    AreApart architecture bytes before (i + 1)
    × IsPairRejected architecture addresses bytes values i now error

abbrev pub IsOfValue : RelocationError → Type 0
IsOfValue (Value error) = ⊤
IsOfValue error = ⊥

-- Those before the index would be written, and that at the index not. Where it is the second of a
-- pair and has no value, the first has one.
pub record IsFirstRejectedBy (architecture : Architecture) (addresses : Addresses) (bytes : List ℕ)
    (values : Values) (before : List ℕ) (error : SectionError) : Type 0 where
  pub within : error.index < length bytes / 24
  pub apart : AreApart architecture bytes before error.index
  pub written : ℕ
  pub is_next : (error.index ≡ written)
      ⊎ ((error.index ≡ written + 1) × BeginsPair architecture bytes written
      × IsOfValue error.error)
  pub now : List ℕ
  pub relocated : AreRelocated architecture addresses bytes values before written now
  pub cause : IsCauseAt architecture addresses bytes values before error.index now error.error

-- so by a table of symbols
abbrev pub IsFirstRejected : Architecture → Addresses → List ℕ → List Symbol → List ℕ
    → SectionError → Type 0
IsFirstRejected architecture addresses bytes symbols before error =
    IsFirstRejectedBy architecture addresses bytes (by_index symbols) before error
