-- The bytes of a section that a relocation writes, its field, and which relocations compose.
use Rattle.std.specs.Prelude.{◌≡◌, ℕ, ◌+◌, ◌<◌, ◌==◌, ◌||◌, Bool, true, false}
use Rattle.std.specs.Prelude.{nat_lt, if◌then◌else◌, List, [], ◌∷◌, take, drop, Some}
use Rattle.linker_section.specs.Imports.{Architecture, ByteSize, IsRow, RelocationKind, RowInfo}
use Rattle.linker_section.specs.Imports.{RowSize, window_len}
use Rattle.linker_elf.specs.declared.elf.RelocationKind.TheVariants as kinds
use Rattle.linker_section.specs.Relocations.{relocation_in}
use Rattle.linker_section.specs.Values.{has_value, offset_at}

-- ---- pairs at a ULEB128 number

-- the rows of the first and of the second of a pair: RISC-V's sets the number to a difference of
-- symbols, LoongArch's adds one to it (RISC-V ELF psABI, "Relocations"; LoongArch ELF psABI,
-- "Relocation Types")
abbrev pub begins_pair : RowSize → RelocationKind → Bool
begins_pair (ByteSize n) kinds.Relative = n == 0
begins_pair size kind = false

abbrev pub ends_pair : RowSize → RelocationKind → Bool
ends_pair (ByteSize n) kinds.PairSubtractionULEB128RiscV = true
ends_pair (ByteSize n) kinds.PairSubtractionULEB128LoongArch = true
ends_pair size kind = false

-- a row of either
abbrev pub is_of_pair : RowInfo → Bool
is_of_pair row = begins_pair row.size row.kind || ends_pair row.size row.kind

-- ---- fields

-- how many bytes the ULEB128 number has that bytes begin with
abbrev pub uleb_len : List ℕ → ℕ
uleb_len [] = 0
uleb_len (byte ∷ rest) = if nat_lt byte 0x80 then 1 else 1 + uleb_len rest

-- How many bytes a relocation of a row writes: those of its row, and at a ULEB128 number as many as
-- the number has, of at most ten. A relocation without a value has none.
abbrev pub field_len : RowInfo → List ℕ → ℕ
field_len row bytes =
    if has_value row.kind then
    (if is_of_pair row then uleb_len (take 10 bytes) else window_len row)
    else 0

-- the relocation at an index has a row and a field in the section
pub record IsField (architecture : Architecture) (bytes section : List ℕ) (i : ℕ)
    (row : RowInfo) : Type 0 where
  pub is_row : IsRow architecture (relocation_in bytes i).r_type (Some row)
  pub some : 0 < field_len row (drop (offset_at bytes i) section)

-- where its field ends
abbrev pub field_end : List ℕ → List ℕ → ℕ → RowInfo → ℕ
field_end bytes section i row =
    offset_at bytes i + field_len row (drop (offset_at bytes i) section)

-- ---- relocations that compose

-- what changes the number that it is at, by addition or subtraction
abbrev pub changes_number : RelocationKind → Bool
changes_number kinds.AbsoluteAddition = true
changes_number kinds.AbsoluteSubtraction = true
changes_number kind = false

-- and in the low 6 bits of a byte
abbrev pub changes_bits : RelocationKind → Bool
changes_bits kinds.AbsoluteAdditionWord6 = true
changes_bits kinds.AbsoluteSubtractionWord6 = true
changes_bits kind = false

-- The second starts from the number that the first leaves. The first sets or changes it.
abbrev pub continues : RelocationKind → RelocationKind → Bool
continues kinds.AbsoluteSet second = changes_number second
continues kinds.AbsoluteAddition second = changes_number second
continues kinds.AbsoluteSubtraction second = changes_number second
continues kinds.AbsoluteSetWord6 second = changes_bits second
continues kinds.AbsoluteAdditionWord6 second = changes_bits second
continues kinds.AbsoluteSubtractionWord6 second = changes_bits second
continues first second = false

-- Two relocations at one offset, in this order, compose (gABI, "Relocation"): the second continues
-- with the number of the first, or they are a pair at a ULEB128 number, next to each other.
pub data Composes (bytes : List ℕ) (i : ℕ) (row : RowInfo) (j : ℕ)
    (other : RowInfo) : Type 0 where
  of_number : offset_at bytes i ≡ offset_at bytes j → window_len row ≡ window_len other
      → continues row.kind other.kind ≡ true → Composes bytes i row j other
  of_pair : offset_at bytes i ≡ offset_at bytes j → j ≡ i + 1
      → begins_pair row.size row.kind ≡ true → ends_pair other.size other.kind ≡ true
      → Composes bytes i row j other

-- ---- fields that overlap

-- they have a byte in common
abbrev pub Overlap : List ℕ → List ℕ → ℕ → RowInfo → ℕ → RowInfo → Type 0
Overlap bytes section i row j other =
    (offset_at bytes i < field_end bytes section j other)
    × (offset_at bytes j < field_end bytes section i row)

-- the field of a relocation overlaps that of an earlier one, with which it doesn't compose
pub record IsOverlapped (architecture : Architecture) (bytes section : List ℕ) (j : ℕ)
    : Type 0 where
  pub earlier : ℕ
  pub order : earlier < j
  pub row : RowInfo
  pub is_field : IsField architecture bytes section earlier row
  pub other : RowInfo
  pub is_other : IsField architecture bytes section j other
  pub overlap : Overlap bytes section earlier row j other
  pub apart : ¬ Composes bytes earlier row j other

-- of the relocations below an index, those compose whose fields overlap
abbrev pub AreApart : Architecture → List ℕ → List ℕ → ℕ → Type 0
AreApart architecture bytes section k =
    (i j : ℕ) (row other : RowInfo) → i < j → j < k
    → IsField architecture bytes section i row → IsField architecture bytes section j other
    → Overlap bytes section i row j other → Composes bytes i row j other
