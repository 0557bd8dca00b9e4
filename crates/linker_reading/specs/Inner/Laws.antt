-- What an architecture's relocations keep.
use Rattle.linker_reading.specs.Imports.{Bool, Choice, List, Option, RowInfo, relaxation_matches, ℕ}
use Rattle.std.specs.Prelude.{◌≡◌}
use Rattle.std.proofs.Common.{refl}
use Rattle.linker_elf.specs.Inner.ChoiceTables.{Tables, IsChoice}
use Rattle.linker_elf.specs.declared.elf.choice.LinkFacts.{LinkFacts}
use Rattle.linker_reading.specs.Inner.Equality.{IsEquality}
use Rattle.linker_reading.specs.Recognised.{Recogniser, IsChosen}

-- what is chosen is meant for what is there
abbrev pub ChosenMatches : {K R : Type 0} → Recogniser K R → Type 0
ChosenMatches {K} {R} it =
    (name : R) (s : List ℕ) (o : ℕ) (facts : LinkFacts) (c : Choice K R)
    → IsChosen it name s o facts c → relaxation_matches (it.relaxation c.kind) s o

-- The code's tables have the definition's entries, and choose what is chosen; `==` is equality.
pub record AreLawsOf {K R : Type 0} (it : Recogniser K R) (tables : Tables K R)
    (row_of : R → Option RowInfo) (equal_kinds : K → K → Bool)
    (equal_names : R → R → Bool) : Type 0 where
  pub rows : row_of ≡ it.row
  pub no_op : tables.no_op ≡ it.no_op
  pub entries : (name : R) (s : List ℕ) (o : ℕ) → tables.entries name s o ≡ it.entries name s o
  pub chosen : (name : R) (s : List ℕ) (o : ℕ) (facts : LinkFacts) (c : Choice K R)
      → IsChoice tables row_of name s o facts c → IsChosen it name s o facts c
  pub kinds : IsEquality equal_kinds
  pub names : IsEquality equal_names
  pub chosen_matches : ChosenMatches it

-- those of a recogniser that is made of the tables
pub laws : {K R : Type 0} {it : Recogniser K R} {tables : Tables K R} {equal_kinds : K → K → Bool}
    {equal_names : R → R → Bool} → tables.no_op ≡ it.no_op
    → ((name : R) (s : List ℕ) (o : ℕ) → tables.entries name s o ≡ it.entries name s o)
    → ((name : R) (s : List ℕ) (o : ℕ) (facts : LinkFacts) (c : Choice K R)
    → IsChoice tables it.row name s o facts c → IsChosen it name s o facts c)
    → IsEquality equal_kinds → IsEquality equal_names → ChosenMatches it
    → AreLawsOf it tables it.row equal_kinds equal_names
laws no_op entries chosen kinds names matches =
    record {
      rows = refl;
      no_op = no_op;
      entries = entries;
      chosen = chosen;
      kinds = kinds;
      names = names;
      chosen_matches = matches;
    }
