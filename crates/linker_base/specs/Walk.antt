-- A cursor's walk through the deletions of a section.
use Rattle.std.specs.Prelude.{◌≡◌, ◌⊎◌, ℕ, ◌-◌, ◌<◌, ◌≤◌, List, length, slice_index, take, max}
use Rattle.std.specs.Prelude.{fold, All}
use Rattle.std.specs.List.Sorted.{IsNonDecreasing}
use Rattle.linker_base.specs.Deletions.{bytes_of, begun_below, rank}

-- a valid list of deletions, and how many of them are passed
pub record Walk : Type 0 where
  pub deletions : List (ℕ × ℕ)
  pub passed : ℕ

-- the walk that has passed n of the deletions
abbrev pub walk_at : List (ℕ × ℕ) → ℕ → Walk
walk_at deletions passed = record { deletions = deletions; passed = passed }

-- the bytes of the deletions that are passed
abbrev pub passed_bytes : Walk → ℕ
passed_bytes walk = bytes_of (take walk.passed walk.deletions)

-- the walk after a query at i: what begins strictly below i is passed, and what was passed stays so
abbrev pub walk_to : Walk → ℕ → Walk
walk_to walk i =
    record { deletions = walk.deletions; passed = max walk.passed (begun_below walk.deletions i) }

-- the walk after several queries, one after the other
abbrev pub walk_through : Walk → List ℕ → Walk
walk_through walk queries = fold walk_to walk queries

-- all that is passed begins strictly below i: a query at i is no step back
abbrev pub IsAhead : Walk → ℕ → Type 0
IsAhead walk i = All (λ d. d.0 < i) (take walk.passed walk.deletions)

-- i is no step back, or is at least the bytes that are passed
abbrev pub CanTranslate : Walk → ℕ → Type 0
CanTranslate walk i = IsAhead walk i ⊎ (passed_bytes walk ≤ i)

-- what a query at i gives: its output offset, and for a step back i less the bytes that are passed
pub record IsTranslation (walk : Walk) (i output : ℕ) : Type 0 where
  pub ahead : IsAhead walk i → output ≡ rank walk.deletions i
  pub back : ¬ (IsAhead walk i) → output ≡ i - passed_bytes walk

-- the queries don't decrease, and the first is no step back
pub record AreAhead (walk : Walk) (queries : List ℕ) : Type 0 where
  pub ascending : IsNonDecreasing queries
  pub first : 0 < length queries → IsAhead walk (slice_index queries 0)
