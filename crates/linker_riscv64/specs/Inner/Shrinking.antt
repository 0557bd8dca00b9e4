-- What holds while calls are chosen.
use Rattle.std.specs.Prelude.{◌≡◌, ℕ, ◌+◌, ◌-◌, ◌*◌, ◌<◌, ◌≤◌, ◌++◌, Bool, true, false, List, All}
use Rattle.std.specs.Prelude.{AllPairs}
use Rattle.std.specs.Prelude.{count_by, drop, length, map, slice_index_or, take, nat_le}
use Rattle.std.specs.Prelude.{if◌then◌else◌, ℤ, pos, ◌-ℤ◌}
use Rattle.linker_base.specs.Deletions.{AreDisjoint, AreKept, IsInsideDeletion}
use Rattle.linker_riscv64.specs.declared.shrinking.Runs.{Runs}
use Rattle.linker_riscv64.specs.Shrinking.{shrinking, with_chosen, IsInReach, AreInReach, IsPartOf}

-- how many calls a choice has
abbrev pub chosen_count : List Bool → ℕ
chosen_count chosen = count_by (λ b. b) chosen

-- and from one index up to another
abbrev pub chosen_between : List Bool → ℕ → ℕ → ℕ
chosen_between chosen from to = chosen_count (take (to - from) (drop from chosen))

-- the counts are those of the choice
pub record AreRunsOf (runs : Runs) (chosen : List Bool) : Type 0 where
  pub many : length runs.counts ≡ 1024
  pub some : 0 < runs.len
  pub reach_end : length chosen < 1024 * runs.len
  pub counted : (r : ℕ) (d : ℕ) → r < 1024
      → slice_index_or runs.counts r d
      ≡ chosen_between chosen (r * runs.len) (r * runs.len + runs.len)

-- the distance of two output offsets, once n calls between them have given up four bytes each
abbrev pub distance_over : ℕ → ℕ → ℕ → ℕ → ℕ → ℤ
distance_over from to index split count =
    if nat_le index split then pos (to - 4 * count) -ℤ pos from
    else pos to -ℤ pos (from - 4 * count)

-- the sites ascend by at least 8
abbrev pub AreEightApart : List (ℕ × ℕ) → Type 0
AreEightApart calls = AllPairs (λ a b. a.0 + 8 ≤ b.0) calls

-- the site at the index is so far above the one before it, if there is one
abbrev pub IsApartAt : List (ℕ × ℕ) → ℕ → Type 0
IsApartAt calls at = (call : ℕ × ℕ) → 0 < at
    → (slice_index_or calls (at - 1) call).0 + 8 ≤ (slice_index_or calls at call).0

-- the calls before the index have their second instruction below the offset, and the others don't
pub record IsSplit (calls : List (ℕ × ℕ)) (offset split : ℕ) : Type 0 where
  pub below : (i : ℕ) (call : ℕ × ℕ) → i < split → i < length calls
      → (slice_index_or calls i call).0 + 4 < offset
  pub others : (i : ℕ) (call : ℕ × ℕ) → split ≤ i → i < length calls
      → offset ≤ (slice_index_or calls i call).0 + 4

-- the call at the index is in reach once the chosen ones have given up their bytes
abbrev pub IsInReachAt : List (ℕ × ℕ) → List (ℕ × ℕ) → List Bool → ℕ → Type 0
IsInReachAt deletions calls chosen i = (call : ℕ × ℕ)
    → IsInReach (with_chosen deletions calls chosen) (slice_index_or calls i call)

-- each choice in reach that is part of the choice before is part of the choice after
abbrev pub KeepsOthers : List (ℕ × ℕ) → List (ℕ × ℕ) → List Bool → List Bool → Type 0
KeepsOthers deletions calls before after =
    (other : List Bool) → length other ≡ length calls → AreInReach deletions calls other
    → IsPartOf other before → IsPartOf other after

-- the call at the index has had its turn in a sweep of n turns, down from the last call or up
abbrev pub HadTurn : Bool → ℕ → ℕ → ℕ → Type 0
HadTurn true len turns i = len ≤ i + turns
HadTurn false len turns i = i < turns

-- the calls are shrinkable as far as their sites go
pub record HaveShrinkableSites (deletions calls : List (ℕ × ℕ)) : Type 0 where
  pub apart : AreEightApart calls
  pub kept : All (λ call. AreKept deletions call.0 8) calls
  pub mergeable : AreDisjoint (deletions ++ map shrinking calls)

-- and as far as their targets go
abbrev pub HaveShrinkableTargets : List (ℕ × ℕ) → Type 0
HaveShrinkableTargets calls = All (λ call. ¬ IsInsideDeletion (map shrinking calls) call.1) calls

-- the offset is strictly inside what the call at the index deletes
abbrev pub IsAround : List (ℕ × ℕ) → ℕ → ℕ → Type 0
IsAround calls offset at = (call : ℕ × ℕ)
    → ((slice_index_or calls at call).0 + 4 < offset)
    × (offset < (slice_index_or calls at call).0 + 8)

-- the target of the call at one index is strictly inside what the call at another deletes
abbrev pub IsHit : List (ℕ × ℕ) → ℕ → ℕ → Type 0
IsHit calls i j = (call : ℕ × ℕ) → IsAround calls (slice_index_or calls i call).1 j

-- among the first calls no target of those before an index is
abbrev pub AreClear : List (ℕ × ℕ) → ℕ → ℕ → Type 0
AreClear calls at upto = (i j : ℕ) → i < at → i < upto → j < upto → ¬ IsHit calls i j

-- with the call at an index one is
abbrev pub HaveHit : List (ℕ × ℕ) → ℕ → Type 0
HaveHit calls at = (i : ℕ) × (j : ℕ) × (i ≤ at) × (j ≤ at) × IsHit calls i j
