-- How the code writes properties.
use Rattle.std.specs.Prelude.{◌≡◌, ◌≤◌, ◌<◌, ◌^◌, ℕ, ◌+◌, ◌*◌, ◌++◌, length, take, drop, true}
use Rattle.std.specs.Prelude.{List, [], ◌∷◌, Some, Err}
use Rattle.linker_output.specs.Imports.{Architecture, Property, PropertyError, PropertyRule}
use Rattle.linker_output.specs.Properties.{rule_of, fits, words_from, bytes_of}

-- what stands after properties are written where there is room
abbrev pub put_all : List Property → List Property → List Property
put_all [] before = before
put_all (property ∷ properties) [] = []
put_all (property ∷ properties) (first ∷ others) = property ∷ put_all properties others

-- a property's numbers have its fields' widths, and so have all of a list
pub record IsSlim (property : Property) : Type 0 where
  pub kind : property.kind < 2 ^ 32
  pub value : property.value < 2 ^ 64
  pub version : property.version < 2 ^ 64

abbrev pub AreSlim : List Property → Type 0
AreSlim [] = Unit {0}
AreSlim (property ∷ properties) = IsSlim property × AreSlim properties

-- a property can be written by a rule after types below the least one, or not
pub record IsWritable (architecture : Architecture) (least : ℕ) (property : Property)
    (rule : PropertyRule) : Type 0 where
  pub above : least ≤ property.kind
  pub known : rule_of architecture property.kind ≡ Some rule
  pub fit : fits rule property ≡ true
  pub slim : IsSlim property

abbrev pub IsNotWritable : Architecture → ℕ → ℕ → Property → PropertyError → Type 0
IsNotWritable architecture least index property error =
    (rest : List Property)
    → words_from architecture least index (property ∷ rest) ≡ Err error

-- words stand at an offset, if there is room, and all else is left
pub record Puts (at : ℕ) (words before after : List ℕ) : Type 0 where
  pub put : at + 8 * length words ≤ length before
      → after ≡ take at before ++ (bytes_of words ++ drop (at + 8 * length words) before)
