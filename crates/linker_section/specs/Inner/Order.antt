-- Indexes of relocations, sorted by offset, and what is known of fields that are gone through so.
use Rattle.std.specs.Prelude.{◌≡◌, ◌⊎◌, ℕ, ◌+◌, ◌*◌, ◌/◌, ◌^◌, ◌<◌, ◌≤◌, List, length, slice_index}
use Rattle.std.specs.Prelude.{drop, Option, Some, None}
use Rattle.linker_section.specs.Imports.{Architecture, Field, IsRow, Rela, RowInfo}
use Rattle.linker_section.specs.Fields.{IsField, IsOverlapped, Overlap, Composes}
use Rattle.linker_section.specs.Fields.{field_end, field_len}
use Rattle.linker_section.specs.Inner.Claims.{AreClaimed, HasField}
use Rattle.linker_section.specs.Relocations.{relocation_at, relocation_in}
use Rattle.linker_section.specs.Values.{offset_at}

-- ---- sorted indexes

-- the numbers from 0 up, each at its index
abbrev pub AreIndexes : List ℕ → Type 0
AreIndexes order = (i : ℕ) → i < length order → slice_index order i ≡ i

-- the first of two relocations has the lesser offset, or the same and the lesser index
abbrev pub IsBefore : List ℕ → ℕ → ℕ → Type 0
IsBefore bytes i j =
    (offset_at bytes i < offset_at bytes j) ⊎ ((offset_at bytes i ≡ offset_at bytes j) × (i < j))

-- a number by which they are sorted so
abbrev pub place_in : Option Rela → ℕ → ℕ
place_in None i = i
place_in (Some r) i = r.offset * 2 ^ 64 + i

abbrev pub place_of : List ℕ → ℕ → ℕ
place_of bytes i = place_in (relocation_at bytes i) i

-- the indexes of all relocations, sorted
pub record IsOrder (bytes order : List ℕ) : Type 0 where
  pub within : (p : ℕ) → p < length order → slice_index order p < length bytes / 24
  pub all : (i : ℕ) → i < length bytes / 24
      → (p : ℕ) × (p < length order) × (slice_index order p ≡ i)
  pub ascends : (p q : ℕ) → p < q → q < length order
      → IsBefore bytes (slice_index order p) (slice_index order q)

-- ---- fields in that order

-- of the relocations below an index, one overlaps an earlier one
abbrev pub IsOverlappedBelow : Architecture → List ℕ → List ℕ → ℕ → Type 0
IsOverlappedBelow architecture bytes section k =
    (j : ℕ) × (j < k) × IsOverlapped architecture bytes section j

-- an index below a count that stands before a place
abbrev pub IsSeen : List ℕ → ℕ → ℕ → ℕ → Type 0
IsSeen order count p i = (i < count) × (q : ℕ) × (q < p) × (slice_index order q ≡ i)

-- relocations that were seen compose where their fields overlap
abbrev pub ApartIn : Architecture → List ℕ → List ℕ → (ℕ → Type 0) → Type 0
ApartIn architecture bytes section IsSeen =
    (i j : ℕ) (row other : RowInfo) → IsSeen i → IsSeen j → i < j
    → IsField architecture bytes section i row → IsField architecture bytes section j other
    → Overlap bytes section i row j other → Composes bytes i row j other

-- the last field is that of a relocation that was seen
pub record IsLastAt (architecture : Architecture) (bytes section : List ℕ) (IsSeen : ℕ → Type 0)
    (index : ℕ) (last : Field) : Type 0 where
  pub seen : IsSeen index
  pub row : RowInfo
  pub field : HasField architecture bytes section index row last

-- what is known at a place
pub record AreSwept (architecture : Architecture) (bytes section order : List ℕ)
    (count p index : ℕ) (last : Field) : Type 0 where
  pub apart : ApartIn architecture bytes section (IsSeen order count p)
  pub claimed : AreClaimed architecture bytes section (IsSeen order count p) last
  pub is_last : 0 < last.len
      → IsLastAt architecture bytes section (IsSeen order count p) index last
  pub ascending : (q : ℕ) → p ≤ q → q < length order
      → last.offset ≤ offset_at bytes (slice_index order q)

-- ---- two runs by ascending offsets

-- the field of a relocation begins where that of another ends, which has at most ten bytes
abbrev pub IsPast : Architecture → Rela → Rela → Type 0
IsPast architecture last next =
    (last.offset ≤ next.offset)
    × ((row : RowInfo) (there : List ℕ) → IsRow architecture last.r_type (Some row)
    → field_len row there ≤ 10 → last.offset + field_len row there ≤ next.offset)

-- each field has at most ten bytes
abbrev pub AreSmall : Architecture → List ℕ → List ℕ → Type 0
AreSmall architecture bytes section =
    (i : ℕ) (row : RowInfo) → i < length bytes / 24
    → IsField architecture bytes section i row
    → field_len row (drop (offset_at bytes i) section) ≤ 10

-- a relocation of the first run below an index, or of the second below another
abbrev pub IsOfRuns : List ℕ → ℕ → ℕ → ℕ → ℕ → Type 0
IsOfRuns bytes start first second i =
    (i < length bytes / 24) × ((i < first) ⊎ ((start ≤ i) × (i < second)))

-- the fields that were seen are apart, and end where that of the last begins, or are its
pub record ArePast (architecture : Architecture) (bytes section : List ℕ) (IsSeen : ℕ → Type 0)
    (last : Rela) : Type 0 where
  pub apart : ApartIn architecture bytes section IsSeen
  pub before : (i : ℕ) (row : RowInfo) → IsSeen i
      → IsField architecture bytes section i row
      → (field_end bytes section i row ≤ last.offset) ⊎ (relocation_in bytes i ≡ last)
