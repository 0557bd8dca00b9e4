-- The vocabulary of rows: where a relocation's value comes from, where it is written, and which
-- values are allowed.
use Rattle.linker_elf.specs.Imports.{AnyForm, BitMasking, ByteSize, GotBase, GotEntryAndPosition}
use Rattle.linker_elf.specs.Imports.{PageMask, RelocationKind, RowSize, Signed}
use Rattle.linker_elf.specs.Imports.{SymbolPlusAddendAndPosition, Unsigned}
use Rattle.std.specs.Prelude.{Bool, List, None, Option, Some, false, true, ℕ, ℤ, if◌then◌else◌}
use Rattle.linker_elf.specs.Elf.{bit_bounds, signed_or_unsigned}
use Rattle.linker_elf.specs.ElfNames.{ElfName, named, unnamed}
use Rattle.linker_elf.specs.declared.elf.PageMaskPattern.TheVariants.{Size4KB}
use Rattle.linker_elf.specs.declared.elf.RowInfo.{RowInfo}

-- the bounds of values: from the first up, below the second, or none
abbrev pub Bounds : Type 0
Bounds = Option (ℤ × ℤ)

-- a row of a kind and a size: every value, no page mask, the addend beside the relocation
abbrev pub plain_row : RelocationKind → RowSize → RowInfo
plain_row kind size =
    record {
      kind = kind;
      size = size;
      mask = None;
      range = record { bounds = None };
      alignment = 1;
      bias = None;
      thunkable = false;
      implicit_addend = false;
    }

-- n whole bytes
abbrev pub bytes_row : RelocationKind → ℕ → RowInfo
bytes_row kind n = plain_row kind (ByteSize n)

-- bits `start` and up, below `end`, into an instruction
abbrev pub bits_row : RelocationKind → ℕ → ℕ → AnyForm → RowInfo
bits_row kind start end insn =
    plain_row kind (BitMasking (record { start = start; end = end }) insn)

-- values from the first bound up, below the second
abbrev pub within_row : ℤ × ℤ → RowInfo → RowInfo
within_row bounds row = record row { range = record { bounds = Some bounds } }

-- numbers of n bits, in two's complement
abbrev pub signed_row : ℕ → RowInfo → RowInfo
signed_row n = within_row (bit_bounds n Signed)

-- numbers of n bits, unsigned
abbrev pub unsigned_row : ℕ → RowInfo → RowInfo
unsigned_row n = within_row (bit_bounds n Unsigned)

-- numbers of n bits, in two's complement or unsigned
abbrev pub signed_or_unsigned_row : ℕ → RowInfo → RowInfo
signed_or_unsigned_row n = within_row (signed_or_unsigned n)

-- multiples of n
abbrev pub aligned_row : ℕ → RowInfo → RowInfo
aligned_row n row = record row { alignment = n }

-- values to which n is added first
abbrev pub biased_row : ℕ → RowInfo → RowInfo
biased_row n row = record row { bias = Some n }

-- addresses cut to their page
abbrev pub paged_row : PageMask → RowInfo → RowInfo
paged_row mask row = record row { mask = Some mask }

-- a thunk may stand in for a target out of range
abbrev pub thunkable_row : RowInfo → RowInfo
thunkable_row row = record row { thunkable = true }

abbrev pub place_pages : PageMask
place_pages = SymbolPlusAddendAndPosition Size4KB

abbrev pub entry_pages : PageMask
entry_pages = GotEntryAndPosition Size4KB

abbrev pub got_page : PageMask
got_page = GotBase Size4KB

-- what a list of relocations says of a name: how ELF files name it, what it means, if that is
-- known, and whether the crate that this one is a port of has no row for it
pub record Relocation : Type 0 where
  pub name : ElfName
  pub row : Option RowInfo
  pub is_own : Bool

abbrev pub with_row : ℕ → List ℕ → RowInfo → Relocation
with_row r_type text row = record { name = named r_type text; row = Some row; is_own = false }

abbrev pub with_own_row : ℕ → List ℕ → RowInfo → Relocation
with_own_row r_type text row = record (with_row r_type text row) { is_own = true }

abbrev pub unnamed_relocation : ℕ → Relocation
unnamed_relocation r_type = record { name = unnamed r_type; row = None; is_own = false }

-- the row that that crate has
abbrev pub raw_row : Relocation → Option RowInfo
raw_row relocation = if relocation.is_own then None else relocation.row
