-- What is known of a section while values are written to it.
use Rattle.std.specs.Prelude.{◌≡◌, ℕ, ◌≢◌, ◌+◌, ◌/◌, ◌<◌, ◌≤◌, ◌==◌, ◌||◌, Bool, not, ℤ, List}
use Rattle.std.specs.Prelude.{length}
use Rattle.std.specs.Prelude.{drop, set, ◌⊎◌, ⊤, true, false, Option, Some, None, Result, Ok, Err}
use Rattle.linker_section.specs.Imports.{Addresses, Architecture, Field, IsRow, Overlaps, RowInfo}
use Rattle.linker_section.specs.Imports.{SectionError, TooShort, Uleb128, Uleb128Error, Value}
use Rattle.linker_section.specs.Imports.{ValueError, Write, window_len}
use Rattle.linker_section.specs.Fields.{AreApart, IsOverlapped, begins_pair, ends_pair, field_len}
use Rattle.linker_section.specs.Fields.{IsField, field_end, is_of_pair}
use Rattle.linker_section.specs.Inner.Claims.{AreClaimed, is_clear_of}
use Rattle.linker_section.specs.Inner.Quick.{IsQuickAt}
use Rattle.linker_section.specs.Inner.Saved.{IsSavedAt, Restores}
use Rattle.linker_section.specs.Relocations.{relocation_in}
use Rattle.linker_section.specs.Sections.{IsFirstRejectedBy, IsPairWritten, IsPairRejected}
use Rattle.linker_section.specs.Sections.{IsWritten}
use Rattle.linker_section.specs.Sections.{AreRelocated, AreAllRelocatedBy, IsInside, IsValued}
use Rattle.linker_section.specs.Sections.{Outcome, Values}
use Rattle.linker_section.specs.Values.{has_value, offset_at}
use Rattle.linker_section.specs.declared.sections.Step.{Step}
use Rattle.linker_section.specs.declared.sections.Stopped.{Stopped}

-- the field of a relocation of a row at an offset
abbrev pub field_of_row : RowInfo → ℕ → List ℕ → Field
field_of_row row offset section =
    record { offset = offset; len = field_len row (drop offset section); kind = row.kind }

-- The test of a field, by the last one where relocations ascend, and else by the index of the first
-- that overlaps an earlier one.
abbrev pub clear_in : Option ℕ → ℕ → Field → Field → Bool
clear_in None i field last = field.len == 0 || is_clear_of field last
clear_in (Some limit) i field last = not (i == limit)

-- why that index
abbrev pub IsLimit : Architecture → List ℕ → List ℕ → Option ℕ → Type 0
IsLimit architecture bytes section None = ⊤
IsLimit architecture bytes section (Some limit) =
    AreApart architecture bytes section limit
    × (limit < length bytes / 24 → IsOverlapped architecture bytes section limit)

-- the relocation after an index is the second of a pair at the same offset
pub record IsSecond (architecture : Architecture) (bytes : List ℕ) (i : ℕ) : Type 0 where
  pub within : i + 1 < length bytes / 24
  pub same_offset : offset_at bytes (i + 1) ≡ offset_at bytes i
  pub other : RowInfo
  pub is_other : IsRow architecture (relocation_in bytes (i + 1)).r_type (Some other)
  pub ends : ends_pair other.size other.kind ≡ true

-- the relocation at an index is of no pair
abbrev pub IsAlone : Architecture → List ℕ → ℕ → Type 0
IsAlone architecture bytes i =
    (row : RowInfo) → IsRow architecture (relocation_in bytes i).r_type (Some row)
    → is_of_pair row ≡ false

-- it has no value, and no field
abbrev pub HasNoValue : Architecture → List ℕ → ℕ → Type 0
HasNoValue architecture bytes i =
    (row : RowInfo) → IsRow architecture (relocation_in bytes i).r_type (Some row)
    → has_value row.kind ≡ false

-- why the number of the pair at an index isn't written
abbrev pub IsPairCause : Architecture → Addresses → List ℕ → Values → ℕ → List ℕ
    → SectionError → Type 0
IsPairCause architecture addresses bytes values i before error =
    ((why : ValueError) × (error ≡ record { index = i + 1; error = Value why })
    × values architecture addresses bytes (i + 1) (Err why))
    ⊎ ((why : Uleb128Error) × (error ≡ record { index = i; error = Uleb128 why })
    × IsPairRejected architecture addresses bytes values i before why)

abbrev pub IsPairOutcome : Architecture → Addresses → List ℕ → Values → ℕ → List ℕ → List ℕ
    → Result Unit SectionError → Type 0
IsPairOutcome architecture addresses bytes values i before after (Ok u) =
    IsPairWritten architecture addresses bytes values i before after
IsPairOutcome architecture addresses bytes values i before after (Err error) =
    (after ≡ before) × IsPairCause architecture addresses bytes values i before error

-- relocations below an index are apart, and what is after the last field is unchanged
pub record Ascends (architecture : Architecture) (bytes before now : List ℕ) (k : ℕ)
    (last : Field) : Type 0 where
  pub apart : AreApart architecture bytes before k
  pub claimed : AreClaimed architecture bytes before (λ i. i < k) last
  pub no_pair : (i : ℕ) (row : RowInfo) → i + 1 ≡ k
      → IsRow architecture (relocation_in bytes i).r_type (Some row)
      → begins_pair row.size row.kind ≡ false
  pub inside : 0 < last.len → last.offset + last.len ≤ length before
  pub following : (offset : ℕ) → last.offset + last.len ≤ offset → drop offset now ≡ drop offset before

abbrev pub IsInOrder : Option ℕ → Architecture → List ℕ → List ℕ → List ℕ → ℕ → Field → Type 0
IsInOrder None architecture bytes before now k last =
    Ascends architecture bytes before now k last
IsInOrder (Some limit) architecture bytes before now k last = k ≤ limit

-- the bytes of the relocations below a count can be put back
pub record IsStopped (architecture : Architecture) (addresses : Addresses) (bytes : List ℕ)
    (values : Values) (before now memory : List ℕ) (stopped : Stopped) : Type 0 where
  pub within : stopped.count ≤ length bytes / 24
  pub restores : Restores architecture bytes memory stopped.count now before
  pub rejected : IsFirstRejectedBy architecture addresses bytes values before stopped.error

-- ---- values, however they are found

-- The relocation at an index isn't of a pair. It has no value, or it is left out.
pub record IsUnvalued (architecture : Architecture) (addresses : Addresses) (bytes : List ℕ)
    (values : Values) (left_out : ℕ → Bool) (i : ℕ) : Type 0 where
  pub row : Option RowInfo
  pub is_row : IsRow architecture (relocation_in bytes i).r_type row
  pub is_value : values architecture addresses bytes i (Ok None)
  pub alone : IsAlone architecture bytes i
  pub none : left_out i ≡ false → HasNoValue architecture bytes i

-- what is found of the relocation at an index
abbrev pub IsOutcome : Architecture → Addresses → List ℕ → Values → (ℕ → Bool) → ℕ → Outcome
    → Type 0
IsOutcome architecture addresses bytes values left_out i (Ok (Some found)) =
    IsValued architecture addresses bytes values i (found.0) (found.1)
IsOutcome architecture addresses bytes values left_out i (Ok None) =
    IsUnvalued architecture addresses bytes values left_out i
IsOutcome architecture addresses bytes values left_out i (Err why) =
    values architecture addresses bytes i (Err why)

-- the next step after the relocation at an index, which is left out; or its field isn't clear, or
-- isn't in the section
abbrev pub IsLeftOut : Architecture → List ℕ → List ℕ → List ℕ → Option ℕ → ℕ
    → Result Step SectionError → Type 0
IsLeftOut architecture bytes before now limit i (Ok step) =
    (step.index ≡ i + 1) × IsInOrder limit architecture bytes before now (i + 1) step.last
    × IsInside architecture bytes before i
IsLeftOut architecture bytes before now limit i (Err error) =
    ((error ≡ record { index = i; error = Overlaps }) × IsOverlapped architecture bytes before i)
    ⊎ ((error ≡ record { index = i; error = Write TooShort })
    × AreApart architecture bytes before (i + 1)
    × (row : RowInfo) × IsField architecture bytes before i row
    × (length before < field_end bytes before i row))

-- ---- one step

-- the values of relocations below an index are written, and the bytes before can be put back
pub record AreWrittenBelow (architecture : Architecture) (addresses : Addresses) (bytes : List ℕ)
    (values : Values) (before now memory : List ℕ) (i : ℕ) : Type 0 where
  pub within : i ≤ length bytes / 24
  pub relocated : AreRelocated architecture addresses bytes values before i now
  pub restores : Restores architecture bytes memory i now before
  pub same_length : length now ≡ length before

-- and their fields are apart
pub record Reached (architecture : Architecture) (addresses : Addresses) (bytes : List ℕ)
    (values : Values) (limit : Option ℕ) (before now memory : List ℕ) (i : ℕ) (last : Field)
    : Type 0 where
  pub is_limit : IsLimit architecture bytes before limit
  pub below : AreWrittenBelow architecture addresses bytes values before now memory i
  pub order : IsInOrder limit architecture bytes before now i last

-- more values are written, or there is one that can't be
abbrev pub IsStep : Architecture → Addresses → List ℕ → Values → Option ℕ → List ℕ → ℕ
    → List ℕ → List ℕ → Result Step SectionError → Type 0
IsStep architecture addresses bytes values limit before i now memory (Ok step) =
    (i < step.index)
    × Reached architecture addresses bytes values limit before now memory step.index step.last
IsStep architecture addresses bytes values limit before i now memory (Err error) =
    IsStopped architecture addresses bytes values before now memory
    (record { count = i; error = error })

-- the field of a relocation that has a field of its own
pub record IsOwnField (architecture : Architecture) (bytes : List ℕ) (i : ℕ) (field : Field)
    : Type 0 where
  pub row : RowInfo
  pub is_row : IsRow architecture (relocation_in bytes i).r_type (Some row)
  pub is_field : field
      ≡ record { offset = offset_at bytes i; len = window_len row; kind = row.kind }

-- one more value is written, whose field begins at an offset or after it and ends at another
pub record IsQuickStep (architecture : Architecture) (addresses : Addresses) (bytes : List ℕ)
    (values : Values) (i end : ℕ) (now after memory kept : List ℕ) (own_end : ℕ)
    : Type 0 where
  pub row : RowInfo
  pub v : ℤ
  pub value : IsQuickAt architecture addresses bytes values i row v
  pub word : ℕ
  pub saved : IsSavedAt (offset_at bytes i) now word
  pub kept_is : kept ≡ set memory i word
  pub written : IsWritten row v (offset_at bytes i) now after
  pub following : end ≤ offset_at bytes i
  pub end_is : own_end ≡ offset_at bytes i + window_len row

-- The last field before an index is that of a step, or where the step was another, that of the
-- relocation before.
pub record IsLastOf (architecture : Architecture) (bytes : List ℕ) (i : ℕ) (step : Step)
    (last : Field) : Type 0 where
  pub same : step.index ≡ i → last ≡ step.last
  pub own : step.index ≢ i → (k : ℕ) → k + 1 ≡ i → IsOwnField architecture bytes k last

-- Fields of relocations below an index ascend, and none of these has a byte from an offset on.
pub record IsFront (architecture : Architecture) (bytes before now : List ℕ) (i : ℕ) (step : Step)
    (end : ℕ) : Type 0 where
  pub last : Field
  pub order : Ascends architecture bytes before now i last
  pub is_last : IsLastOf architecture bytes i step last
  pub within : last.offset + last.len ≤ end

-- more values are written, or there is one that can't be, or a relocation is before the last field
abbrev pub IsSlowStep : Architecture → Addresses → List ℕ → Values → List ℕ → ℕ
    → List ℕ → List ℕ → Result (Option Step) SectionError → Type 0
IsSlowStep architecture addresses bytes values before i now memory (Ok None) =
    AreWrittenBelow architecture addresses bytes values before now memory i
IsSlowStep architecture addresses bytes values before i now memory (Ok (Some step)) =
    IsStep architecture addresses bytes values None before i now memory (Ok step)
IsSlowStep architecture addresses bytes values before i now memory (Err error) =
    IsStep architecture addresses bytes values None before i now memory (Err error)

-- all values are written, or the bytes before can be put back
abbrev pub AreWrittenOrKept : Architecture → Addresses → List ℕ → Values → List ℕ → List ℕ
    → List ℕ → Option ℕ → Type 0
AreWrittenOrKept architecture addresses bytes values before now memory None =
    AreAllRelocatedBy architecture addresses bytes values before now
AreWrittenOrKept architecture addresses bytes values before now memory (Some count) =
    (count ≤ length bytes / 24) × Restores architecture bytes memory count now before

-- the values below an index are written, which are all or those of the first run
pub record IsFirstRun (architecture : Architecture) (addresses : Addresses) (bytes : List ℕ)
    (values : Values) (before now memory : List ℕ) (start : ℕ) : Type 0 where
  pub below : AreWrittenBelow architecture addresses bytes values before now memory start
  pub within : start ≤ length bytes / 24
  pub all : start ≡ length bytes / 24
      → AreAllRelocatedBy architecture addresses bytes values before now
