-- Where in a list of decisions those are that write or delete bytes, beside an offset.
use Rattle.std.specs.Prelude.{◌≡◌, ◌≢◌, ℕ, ◌<◌, ◌≤◌, ◌/◌, List, length}
use Rattle.linker_rewriting.specs.Imports.{Decision, offset_at}
use Rattle.linker_rewriting.specs.Decisions.{AreApart, start_at, end_at}
use Rattle.linker_rewriting.specs.Numbers.{decisions_in}
use Rattle.linker_rewriting.specs.declared.covered.Place.{Place}
use Rattle.linker_rewriting.specs.declared.covered.Windows.{Windows}

-- the decision with an index writes or deletes bytes
abbrev pub IsWindow : List ℕ → List Decision → ℕ → Type 0
IsWindow bytes decisions n = start_at bytes decisions n < end_at bytes decisions n

-- where offsets are numbers of 64 bits, ends are too
abbrev pub IsBounded : List ℕ → List Decision → ℕ → Type 0
IsBounded bytes decisions n =
    offset_at bytes n ≤ 0xffffffffffffffff → end_at bytes decisions n ≤ 0xffffffffffffffff

abbrev pub AreBounded : List ℕ → List Decision → ℕ → Type 0
AreBounded bytes decisions limit = (n : ℕ) → n < limit → IsBounded bytes decisions n

-- those below an index end at or below an end
abbrev pub AreBelow : List ℕ → List Decision → ℕ → ℕ → Type 0
AreBelow bytes decisions at end =
    (n : ℕ) → n < at → IsWindow bytes decisions n → end_at bytes decisions n ≤ end

-- those from an index on, and below a limit, begin at a start or after it
abbrev pub AreAbove : List ℕ → List Decision → ℕ → ℕ → ℕ → Type 0
AreAbove bytes decisions limit at start =
    (n : ℕ) → at ≤ n → n < limit → IsWindow bytes decisions n → start ≤ start_at bytes decisions n

pub record IsPlace (bytes : List ℕ) (decisions : List Decision) (limit : ℕ) (place : Place)
    : Type 0 where
  pub within : place.at ≤ limit
  pub below : AreBelow bytes decisions place.at place.below
  pub above : AreAbove bytes decisions limit place.at place.above

-- Of the decisions beside that with an index the first is there that ends after an offset, if any.
pub record IsPlaceBeside (bytes : List ℕ) (decisions : List Decision) (limit index offset : ℕ)
    (place : Place) : Type 0 where
  pub is_place : IsPlace bytes decisions limit place
  pub passed : (n : ℕ) → n < place.at → n ≢ index → IsWindow bytes decisions n
      → end_at bytes decisions n ≤ offset
  pub writes : place.at < limit → IsWindow bytes decisions place.at
  pub other : place.at < limit → place.at ≢ index
  pub ends : place.at < limit → offset < end_at bytes decisions place.at
  pub begins : place.at < limit → place.above ≡ start_at bytes decisions place.at

-- what holds of the decisions of a section, as the code passes them on
abbrev pub in_windows {ℓ} : {X : Type ℓ} → (List ℕ → List Decision → X) → Windows → X
in_windows Is windows = Is windows.relocations.now (decisions_in windows.decisions.now)

-- Each relocation has a decision. Bytes that begin below 2^64 end there, and all are apart.
pub record AreSearchable (windows : Windows) : Type 0 where
  pub enough : length windows.relocations.now / 24 ≤ length windows.decisions.now
  pub bounded : in_windows AreBounded windows (length windows.relocations.now / 24)
  pub apart : in_windows AreApart windows (length windows.relocations.now / 24)

-- the place, among all decisions
abbrev pub IsThePlace : Windows → ℕ → ℕ → Place → Type 0
IsThePlace windows = in_windows IsPlaceBeside windows (length windows.relocations.now / 24)
