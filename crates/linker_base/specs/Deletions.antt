-- Deletions in a section as pairs of an offset and a count of bytes, the positions that they leave,
-- and how these are counted.
use Rattle.std.specs.Prelude.{◌≡◌, ℕ, zero, suc, ◌+◌, ◌^◌, ◌<◌, ◌≤◌, List, Bool, not, ◌&&◌, ◌⊎◌}
use Rattle.std.specs.Prelude.{if◌then◌else◌, nat_le, nat_lt, IsTrue, All, Any, AllPairs, sum_by}
use Rattle.std.specs.Prelude.{count_by, IsPermutation}
use Rattle.std.specs.List.{list_any}

-- the first deletion lies below the second
abbrev pub IsBefore : ℕ × ℕ → ℕ × ℕ → Type 0
IsBefore a b = (a.0 < b.0) × (a.0 + a.1 ≤ b.0)

-- one of the two lies below the other
abbrev pub DoNotOverlap : ℕ × ℕ → ℕ × ℕ → Type 0
DoNotOverlap a b = IsBefore a b ⊎ IsBefore b a

-- the end is an offset of 64 bits
abbrev pub EndFits : ℕ × ℕ → Type 0
EndFits d = d.0 + d.1 < 2 ^ 64

-- deletions in any order: of any two one lies below the other
pub record AreDisjoint (deletions : List (ℕ × ℕ)) : Type 0 where
  pub apart : AllPairs DoNotOverlap deletions
  pub ends : All EndFits deletions

-- a valid list: disjoint deletions by ascending offset
pub record IsValid (deletions : List (ℕ × ℕ)) : Type 0 where
  pub ascending : AllPairs IsBefore deletions
  pub ends : All EndFits deletions

-- the deletions of `all`, sorted into a valid list
pub record IsSortedUnion (all deletions : List (ℕ × ℕ)) : Type 0 where
  pub same : IsPermutation all deletions
  pub valid : IsValid deletions

-- how many bytes the deletions take together
abbrev pub bytes_of : List (ℕ × ℕ) → ℕ
bytes_of deletions = sum_by (λ d. d.1) deletions

-- whether the deletion takes position p
abbrev pub covers : ℕ × ℕ → ℕ → Bool
covers d p = nat_le d.0 p && nat_lt p (d.0 + d.1)

-- whether no deletion takes position p
abbrev pub is_kept : List (ℕ × ℕ) → ℕ → Bool
is_kept deletions p = not (list_any (λ d. covers d p) deletions)

-- some deletion begins below i and ends above it
abbrev pub IsInsideDeletion : List (ℕ × ℕ) → ℕ → Type 0
IsInsideDeletion deletions i = Any (λ d. (d.0 < i) × (i < d.0 + d.1)) deletions

-- how many positions below i are kept, counted one by one
unfoldable pub rank : List (ℕ × ℕ) → ℕ → ℕ
rank deletions zero = 0
rank deletions (suc i) = (if is_kept deletions i then rank deletions i + 1 else rank deletions i)

-- p is the kept position of rank y
pub record IsSelected (deletions : List (ℕ × ℕ)) (y p : ℕ) : Type 0 where
  pub kept : IsTrue (is_kept deletions p)
  pub ranked : rank deletions p ≡ y

-- some 64-bit offset is the kept position of rank y
abbrev pub HasInput : List (ℕ × ℕ) → ℕ → Type 0
HasInput deletions y = (p : ℕ) × (p < 2 ^ 64) × IsSelected deletions y p

-- the `len` positions from `start` on are kept
abbrev pub AreKept : List (ℕ × ℕ) → ℕ → ℕ → Type 0
AreKept deletions start len = (k : ℕ) → k < len → IsTrue (is_kept deletions (start + k))

-- how many deletions begin strictly below i
abbrev pub begun_below : List (ℕ × ℕ) → ℕ → ℕ
begun_below deletions i = count_by (λ d. nat_lt d.0 i) deletions
