-- What was found of the first choices of a table.
use Rattle.linker_reading.specs.Imports.{Choice, FieldBits, List, None, Option, Recognised, Some}
use Rattle.linker_reading.specs.Imports.{[], choice, length, relaxation_matches, slice_get}
use Rattle.linker_reading.specs.Imports.{slice_index_or, ℕ}
use Rattle.std.specs.Prelude.{◌≡◌, ◌↔◌, ◌<◌, ◌∷◌}
use Rattle.linker_elf.specs.declared.elf.choice_table.ChoiceEntry.{ChoiceEntry}
use Rattle.linker_reading.specs.Recognised.{Recogniser, IsMade, IsOneOf, IsFirstPlace}
use Rattle.linker_reading.specs.Windows.{IsRecognisable}

-- that of an entry of the code
abbrev pub choice_in : {O K R : Type 0} → ChoiceEntry O K R → Choice K R
choice_in e = choice e.kind e.relocation

-- those of the code's entries, and the last one
abbrev pub choices_in : {O K R : Type 0} → List (ChoiceEntry O K R) → Choice K R → List (Choice K R)
choices_in [] otherwise = otherwise ∷ []
choices_in (e ∷ es) otherwise = choice_in e ∷ choices_in es otherwise

-- What is at that place of a list has a place before it, too.
abbrev pub IsRepeated : {A : Type 0} → List A → ℕ → Type 0
IsRepeated list n = (i : ℕ) × (i < n) × (slice_get list i ≡ slice_get list n)

-- The rewrite is meant for what is at the offset, and the choice was made.
abbrev pub IsMeant : {K R : Type 0} → Recogniser K R → List ℕ → ℕ → List FieldBits → List ℕ
    → Recognised K R → Type 0
IsMeant it original o others linked m =
    relaxation_matches (it.relaxation m.choice.kind) original o
    × IsMade it original o others linked m

-- Of the first n choices those were found that are so, each at its place.
pub record AreFoundOfFirst {A B : Type 0} (of : B → A) (IsSo : B → Type 0) (choices : List A)
    (found : List (Option B)) (n : ℕ) : Type 0 where
  pub lengths : length found ≡ 6
  pub first : (i : ℕ) (b : B) → slice_index_or found i None ≡ Some b → i < n
  pub placed : (i : ℕ) (b : B) → slice_index_or found i None ≡ Some b
      → IsFirstPlace (of b) choices i
  pub so : (i : ℕ) (b : B) → slice_index_or found i None ≡ Some b → IsSo b
  pub all : (i : ℕ) (b : B) → i < n → slice_get choices i ≡ Some (of b) → IsSo b
      → (j : ℕ) × (slice_index_or found j None ≡ Some b)

-- They are those that are there in bytes.
abbrev pub AreAllRecognisable : {K R : Type 0} → Recogniser K R → R → List ℕ → ℕ → List (Choice K R) → Type 0
AreAllRecognisable {K} {R} it name bytes o choices =
    (c : Choice K R) → IsOneOf c choices ↔ IsRecognisable it name bytes o c
