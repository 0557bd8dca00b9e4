-- Values that are found by the facts of rows, with few tests.
use Rattle.std.specs.Prelude.{◌≡◌, ◌<◌, ℕ, true, false, ℤ, List, Option, Result, Some, Ok}
use Rattle.linker_section.specs.Imports.{Addresses, Architecture, Operands, Rela}
use Rattle.linker_section.specs.Imports.{RelativeRiscVLow12, RowInfo, ValueError, value_of}
use Rattle.linker_section.specs.Imports.{window_len}
use Rattle.linker_section.specs.Conditions.{is_tp_off}
use Rattle.linker_section.specs.Fields.{is_of_pair}
use Rattle.linker_section.specs.Inner.Facts.{is_high, low_result}
use Rattle.linker_section.specs.Known.{Knowledge, known_operands}
use Rattle.linker_section.specs.Sections.{IsValued, Values}
use Rattle.linker_section.specs.Values.{low_operands, offset_at, IsHighPart}
use Rattle.linker_section.specs.declared.quick.HighPart.{HighPart}

-- the operands of a relocation give a value
pub record IsPlainValue (found : Result Operands ValueError) (row : RowInfo) (v : ℤ)
    : Type 0 where
  pub operands : Operands
  pub is_found : found ≡ Ok operands
  pub value_is : value_of row operands ≡ Some v

-- the value of the relocation at an index, which has a field of its own, however it is found
pub record IsQuickAt (architecture : Architecture) (addresses : Addresses) (bytes : List ℕ)
    (values : Values) (i : ℕ) (row : RowInfo) (v : ℤ) : Type 0 where
  pub has : IsValued architecture addresses bytes values i row v
  pub single : is_of_pair row ≡ false
  pub some : 0 < window_len row
  pub unthreaded : is_tp_off row.kind ≡ false

-- the value that low parts take of a high part among a section's relocations
pub record IsHighValue (architecture : Architecture) (addresses : Addresses) (bytes : List ℕ)
    (knowledge : Knowledge) (high : HighPart) : Type 0 where
  pub r : Rela
  pub row : RowInfo
  pub part : IsHighPart architecture bytes RelativeRiscVLow12 high.offset r row
  pub operands : Operands
  pub found : known_operands architecture addresses row r (knowledge part.index r) ≡ Ok operands
  pub low : low_result (low_operands row operands) ≡ Some high.value

-- a value is that of a high part at an offset
abbrev pub IsValueAt : ℕ → Option HighPart → ℤ → Type 0
IsValueAt at high v =
    (part : HighPart) × (high ≡ Some part) × (at ≡ part.offset) × (v ≡ part.value)

-- the value of the relocation at an index, which low parts take if it is a high part
pub record IsQuickValue (architecture : Architecture) (addresses : Addresses) (bytes : List ℕ)
    (values : Values) (knowledge : Knowledge) (i : ℕ) (row : RowInfo) (v : ℤ) : Type 0 where
  pub at : IsQuickAt architecture addresses bytes values i row v
  pub high : is_high row ≡ true
      → IsHighValue architecture addresses bytes knowledge
      (record { offset = offset_at bytes i; value = v })
