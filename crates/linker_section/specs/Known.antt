-- Values by what is known of the symbol of each relocation, however it is found.
use Rattle.std.specs.Prelude.{◌≡◌, ℕ, ℤ, ◌&&◌, Bool, true, false, not, if◌then◌else◌}
use Rattle.std.specs.Prelude.{List, Option, Some, None, Result, Ok, Err, option_map}
use Rattle.linker_section.specs.Imports.{Addresses, Architecture, Entry, IsRow, NeedsStub}
use Rattle.linker_section.specs.Imports.{NoHighPart, NoSymbol, NotAligned, Operands, Rela, RowInfo}
use Rattle.linker_section.specs.Imports.{Symbol, UnknownType, ValueError, difference_64, is_offset}
use Rattle.linker_section.specs.Conditions.{IsInReach, changes_toc_if, is_filled, keeps_toc}
use Rattle.linker_section.specs.Fields.{is_of_pair}
use Rattle.linker_section.specs.Needed.{entry_of}
use Rattle.linker_section.specs.Relocations.{relocation_in}
use Rattle.linker_section.specs.Sections.{Outcome, Values}
use Rattle.linker_section.specs.Values.{IsHighPart, IsHighPartAt, has_value, low_by, names_label}
use Rattle.linker_section.specs.Values.{operands_by, value_by}
use Rattle.linker_section.specs.declared.values.ValueError.TheVariants.{OutOfReach}

-- A symbol, the address of the entry that a relocation of it requires, and whether the relocation's
-- value isn't written. The address is 0 where no entry is required, and None where a required one
-- is missing.
pub record Known : Type 0 where
  pub symbol : Symbol
  pub entry : Addresses → Option Entry → Option ℕ
  pub is_left_out : Bool

-- what is known of the symbol of a relocation with an index
abbrev pub Knowledge : Type 0
Knowledge = ℕ → Rela → Option Known

-- ---- operands

abbrev pub known_operands : Architecture → Addresses → RowInfo → Rela
    → Option Known → Result Operands ValueError
known_operands architecture addresses row r None = Err NoSymbol
known_operands architecture addresses row r (Some known) =
    operands_by architecture addresses row r known.symbol
    (known.entry addresses (entry_of row r.addend known.symbol.is_thread_local))

-- ---- values

abbrev pub is_defined_in : Option Known → Bool
is_defined_in None = false
is_defined_in (Some known) = not known.symbol.is_undefined_weak

-- of a relocation that stands alone
abbrev pub known_value : Architecture → Addresses → RowInfo → Rela → Option Known
    → Result (Option ℤ) ValueError
known_value architecture addresses row r known =
    if has_value row.kind then
    value_by (is_offset row.kind && (not addresses.has_tls && is_defined_in known)) row
    (known_operands architecture addresses row r known)
    else Ok None

-- of a low part of RISC-V, by the high part at an offset and what is known of that one's symbol
pub data IsLowResolved (architecture : Architecture) (addresses : Addresses) (bytes : List ℕ)
    (knowledge : Knowledge) (row : RowInfo) (at : ℕ) (result : Result (Option ℤ) ValueError)
    : Type 0 where
  without : IsHighPartAt architecture bytes row.kind at None → result ≡ Err NoHighPart
      → IsLowResolved architecture addresses bytes knowledge row at result
  by_high : {r : Rela} {high : RowInfo}
      → (part : IsHighPart architecture bytes row.kind at r high)
      → result
      ≡ low_by row high (known_operands architecture addresses high r (knowledge part.index r))
      → IsLowResolved architecture addresses bytes knowledge row at result

abbrev pub IsLabelResolved : Architecture → Addresses → List ℕ → Knowledge → RowInfo
    → Option Known → Result (Option ℤ) ValueError → Type 0
IsLabelResolved architecture addresses bytes knowledge row None result = result ≡ Err NoSymbol
IsLabelResolved architecture addresses bytes knowledge row (Some label) result =
    IsLowResolved architecture addresses bytes knowledge row
    (difference_64 label.symbol.address addresses.section) result

abbrev pub IsResolvedBy : Bool → Architecture → Addresses → List ℕ → Knowledge → RowInfo
    → Rela → Option Known → Result (Option ℤ) ValueError → Type 0
IsResolvedBy true architecture addresses bytes knowledge row r known result =
    IsLabelResolved architecture addresses bytes knowledge row known result
IsResolvedBy false architecture addresses bytes knowledge row r known result =
    result ≡ known_value architecture addresses row r known

-- of the relocation at an index, with its row
abbrev pub IsResolvedIn : Architecture → Addresses → List ℕ → Knowledge → ℕ
    → Option RowInfo → Result (Option ℤ) ValueError → Type 0
IsResolvedIn architecture addresses bytes knowledge i None result = result ≡ Err UnknownType
IsResolvedIn architecture addresses bytes knowledge i (Some row) result =
    IsResolvedBy (names_label row.size row.kind) architecture addresses bytes knowledge row
    (relocation_in bytes i) (knowledge i (relocation_in bytes i)) result

-- ---- what is written

-- a call keeps its TOC pointer, and its function may return with another one
abbrev pub lacks_known_stub : Architecture → Rela → Option Known → Bool
lacks_known_stub architecture r known =
    keeps_toc architecture r && changes_toc_if (option_map (λ k. k.symbol) known)

abbrev pub is_left_out : Option Known → Bool
is_left_out None = false
is_left_out (Some known) = known.is_left_out

-- Its value isn't written. Of a pair at a ULEB128 number it is.
abbrev pub is_skipped : Option RowInfo → Option Known → Bool
is_skipped None known = false
is_skipped (Some row) known = is_left_out known && not (is_of_pair row)

pub record IsResolvedValue (architecture : Architecture) (addresses : Addresses) (bytes : List ℕ)
    (knowledge : Knowledge) (i : ℕ) (row : Option RowInfo) (found : RowInfo × ℤ)
    : Type 0 where
  pub is_row : row ≡ Some (found.0)
  pub is_value : IsResolvedIn architecture addresses bytes knowledge i row (Ok (Some (found.1)))
  pub keeps : lacks_known_stub architecture (relocation_in bytes i)
      (knowledge i (relocation_in bytes i)) ≡ false
  pub in_reach : IsInReach architecture bytes (relocation_in bytes i) (found.1)

-- why there is no value to write
pub data IsUnresolved (architecture : Architecture) (addresses : Addresses) (bytes : List ℕ)
    (knowledge : Knowledge) (i : ℕ) (row : Option RowInfo) : ValueError → Type 0 where
  valueless : {error : ValueError}
      → IsResolvedIn architecture addresses bytes knowledge i row (Err error)
      → IsUnresolved architecture addresses bytes knowledge i row error
  unfilled : IsResolvedIn architecture addresses bytes knowledge i row (Ok None)
      → is_filled architecture addresses (relocation_in bytes i) ≡ false
      → IsUnresolved architecture addresses bytes knowledge i row NotAligned
  stubless : (v : ℤ) → IsResolvedIn architecture addresses bytes knowledge i row (Ok (Some v))
      → lacks_known_stub architecture (relocation_in bytes i)
      (knowledge i (relocation_in bytes i)) ≡ true
      → IsUnresolved architecture addresses bytes knowledge i row NeedsStub
  too_far : (v : ℤ) → IsResolvedIn architecture addresses bytes knowledge i row (Ok (Some v))
      → ¬ IsInReach architecture bytes (relocation_in bytes i) v
      → IsUnresolved architecture addresses bytes knowledge i row OutOfReach

abbrev pub IsResolvedUnless : Bool → Architecture → Addresses → List ℕ → Knowledge → ℕ
    → Option RowInfo → Outcome → Type 0
IsResolvedUnless true architecture addresses bytes knowledge i row outcome = outcome ≡ Ok None
IsResolvedUnless false architecture addresses bytes knowledge i row (Ok (Some found)) =
    IsResolvedValue architecture addresses bytes knowledge i row found
IsResolvedUnless false architecture addresses bytes knowledge i row (Ok None) =
    IsResolvedIn architecture addresses bytes knowledge i row (Ok None)
    × (is_filled architecture addresses (relocation_in bytes i) ≡ true)
IsResolvedUnless false architecture addresses bytes knowledge i row (Err error) =
    IsUnresolved architecture addresses bytes knowledge i row error

-- the values of a section's relocations by what is known of their symbols
abbrev pub by_known : Knowledge → Values
by_known knowledge architecture addresses bytes i outcome =
    (row : Option RowInfo) × IsRow architecture (relocation_in bytes i).r_type row
    × IsResolvedUnless (is_skipped row (knowledge i (relocation_in bytes i))) architecture addresses
    bytes knowledge i row outcome

-- the relocation at an index is left out
abbrev pub left_out : Knowledge → List ℕ → ℕ → Bool
left_out knowledge bytes i = is_left_out (knowledge i (relocation_in bytes i))
