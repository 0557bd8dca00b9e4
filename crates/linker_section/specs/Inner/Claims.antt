-- Which bytes the fields of relocations have that are gone through by ascending offsets: the last
-- field tells whether another overlaps one of them.
use Rattle.std.specs.Prelude.{◌≡◌, ◌⊎◌, ℕ, ◌+◌, ◌-◌, ◌<◌, ◌≤◌, ◌==◌, ◌&&◌, ◌||◌, Bool, true, false}
use Rattle.std.specs.Prelude.{nat_le, if◌then◌else◌, List}
use Rattle.linker_section.specs.Imports.{Architecture, Field, RelocationKind, RowInfo, window_len}
use Rattle.linker_section.specs.Fields.{IsField, is_of_pair, continues, field_end}
use Rattle.linker_section.specs.Values.{offset_at}

abbrev pub continues_at : Field → Field → Bool
continues_at field last = field.len == last.len && continues last.kind field.kind

-- a field at the same offset or after
abbrev pub is_clear_of : Field → Field → Bool
is_clear_of field last =
    nat_le last.len (field.offset - last.offset)
    || ((field.offset - last.offset == 0) && continues_at field last)

-- the last field after one that may be empty
abbrev pub next_field : Field → Field → Field
next_field field last = if field.len == 0 then last else field

-- the field of a relocation
pub record HasField (architecture : Architecture) (bytes section : List ℕ) (k : ℕ)
    (row : RowInfo) (field : Field) : Type 0 where
  pub is_field : IsField architecture bytes section k row
  pub offset_is : offset_at bytes k ≡ field.offset
  pub end_is : field_end bytes section k row ≡ field.offset + field.len
  pub kind_is : row.kind ≡ field.kind
  pub window_is : is_of_pair row ≡ false → window_len row ≡ field.len

-- what continues with the number of the last field continues with that of a relocation
abbrev pub IsContinued : RowInfo → Field → Type 0
IsContinued row last =
    (kind : RelocationKind) → continues last.kind kind ≡ true
    → (window_len row ≡ last.len) × (continues row.kind kind ≡ true)

-- a relocation has the last field
pub record IsLastField (architecture : Architecture) (bytes section : List ℕ)
    (IsSeen : ℕ → Type 0) (last : Field) : Type 0 where
  pub index : ℕ
  pub seen : IsSeen index
  pub row : RowInfo
  pub is_field : IsField architecture bytes section index row
  pub offset_is : offset_at bytes index ≡ last.offset
  pub end_is : field_end bytes section index row ≡ last.offset + last.len
  pub kind_is : row.kind ≡ last.kind
  pub continued : IsContinued row last

-- each field that was seen ends at or before the last, or is at the same bytes
pub record AreClaimed (architecture : Architecture) (bytes section : List ℕ)
    (IsSeen : ℕ → Type 0) (last : Field) : Type 0 where
  pub is_last : 0 < last.len → IsLastField architecture bytes section IsSeen last
  pub others : (i : ℕ) (row : RowInfo) → IsSeen i
      → IsField architecture bytes section i row
      → (field_end bytes section i row ≤ last.offset)
      ⊎ ((offset_at bytes i ≡ last.offset)
      × (field_end bytes section i row ≡ last.offset + last.len) × IsContinued row last)
