-- What is written of an item.
use Rattle.linker_runs.specs.Imports.{Item, List, Machine, Some, [], false, length, true, ℕ, ⊤}
use Rattle.std.specs.Prelude.{◌≡◌, ◌%◌}
use Rattle.linker_runs.specs.Sites.{Template}
use Rattle.linker_runs.specs.Packing.{Section, is_fixed, kept_len, KeepsFirst, ItemBecomes, nops}
use Rattle.linker_runs.specs.Packing.{nop_len}
use Rattle.linker_runs.specs.declared.packing.Piece.{Piece}
use Rattle.linker_runs.specs.declared.packing.Piece.TheVariants.{Nothing, Nops, Code as Instruction}
use Rattle.linker_runs.specs.declared.packing.code.Code.{Code}
use Rattle.linker_runs.specs.declared.packing.code.Code.TheVariants.{Half, Word, Pair}
use Rattle.linker_runs.specs.declared.packing.code.Template.{Template as templates}

abbrev pub code_bytes : Code → List ℕ
code_bytes (Half bytes) = bytes
code_bytes (Word bytes) = bytes
code_bytes (Pair bytes) = bytes

abbrev pub template_is : templates → Template
template_is template = record { row = Some template.row; bytes = code_bytes template.code }

abbrev pub piece_bytes : Machine → Piece → List ℕ
piece_bytes machine Nothing = []
piece_bytes machine (Nops n) = nops machine n
piece_bytes machine (Instruction code) = code_bytes code

-- nops are whole
abbrev pub IsWhole : Machine → Piece → Type 0
IsWhole machine (Nops n) = n % nop_len machine ≡ 0
IsWhole machine piece = ⊤

-- what is written anew of an item
pub record IsNewPiece (machine : Machine) (s : Section) (item : Item) (piece : Piece) : Type 0 where
  pub keeps : KeepsFirst s.deletions item
  pub whole : IsWhole machine piece
  pub len : length (piece_bytes machine piece) ≡ kept_len s.deletions item
  pub becomes : ItemBecomes machine s item (piece_bytes machine piece)

-- what is written of an item: nothing, where the linker has decided what stays of it
pub record IsPieceOf (machine : Machine) (s : Section) (item : Item) (piece : Piece) : Type 0 where
  pub fixed : is_fixed item ≡ true → piece ≡ Nothing
  pub anew : is_fixed item ≡ false → IsNewPiece machine s item piece
