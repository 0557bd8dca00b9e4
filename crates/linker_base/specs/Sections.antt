-- The deletions of several sections, as a finite map from section index to deletions, and as the
-- sorted entries that hold it.
use Rattle.std.specs.Prelude.{◌≡◌, ℕ, ◌<◌, ◌≤◌, List, length, IsTrue, AllPairs, HoldsAt}
use Rattle.std.specs.List.{AllWithin}
use Rattle.std.specs.Ordering.{nat_cmp}
use Rattle.std.specs.FinMap.{FinMap, contains_key}

-- the deletions of each section that is there
abbrev pub Sections : Type 0
Sections = FinMap nat_cmp (List (ℕ × ℕ))

-- every section that is there has a lower index
pub record IsAboveAll (sections : Sections) (index : ℕ) : Type 0 where
  pub lower : (other : ℕ) → IsTrue (contains_key sections other) → other < index

-- the section is there, and no higher one
pub record IsLast (sections : Sections) (index : ℕ) : Type 0 where
  pub there : IsTrue (contains_key sections index)
  pub highest : (other : ℕ) → IsTrue (contains_key sections other) → other ≤ index

-- an index, then the deletions of that section
abbrev pub Entries : Type 0
Entries = List (ℕ × List (ℕ × ℕ))

-- the indices strictly rise
abbrev pub IndicesRise : Entries → Type 0
IndicesRise entries = AllPairs (λ a b. a.0 < b.0) entries

-- the entry `at` has the index
pub record IsAt (entries : Entries) (index at : ℕ) : Type 0 where
  pub within : at < length entries
  pub same : HoldsAt (λ e. e.0 ≡ index) entries at

-- the index would go there: lower ones before it, and higher ones from it on
pub record IsGap (entries : Entries) (index at : ℕ) : Type 0 where
  pub within : at ≤ length entries
  pub lower : AllWithin (λ e. e.0 < index) entries 0 at
  pub higher : AllWithin (λ e. index < e.0) entries at (length entries)
