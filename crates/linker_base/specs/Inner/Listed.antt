-- What holds of the fields of deltas and of a cursor, and of what searches and tests in them find.
use Rattle.std.specs.Prelude.{◌≡◌, ℕ, ◌+◌, ◌-◌, ◌<◌, ◌≤◌, List, length, map, take, slice_index_or}
use Rattle.std.specs.Prelude.{All, Any, Bool, true, ◌^◌, nat_lt, if◌then◌else◌}
use Rattle.std.specs.Prelude.{false, ◌++◌, drop}
use Rattle.std.specs.Slice.Iter.{iter_rest}
use Rattle.linker_base.specs.declared.relaxation.RelaxDelta.{RelaxDelta}
use Rattle.linker_base.specs.declared.relaxation.blocks.BlockHead.{BlockHead}
use Rattle.linker_base.specs.declared.relaxation.walk.Reached.{Reached}
use Rattle.linker_base.specs.Deletions.{DoNotOverlap, AreDisjoint, IsValid}
use Rattle.linker_base.specs.Deletions.{bytes_of}
use Rattle.linker_base.specs.Deltas.{deletion_of}
use Rattle.linker_base.specs.Blocks.{AreHeads, blocks_of}
use Rattle.linker_base.specs.Listed.{AreValidDeltas}

-- how many heads a section keeps of n deltas: none of a single block
abbrev pub heads_of : ℕ → ℕ
heads_of len = if nat_lt 64 len then blocks_of len else 0

-- the heads are those of the blocks; of a single block there may be none
pub record KeepsHeads (list : List RelaxDelta) (blocks : List BlockHead) : Type 0 where
  pub many : 64 < length list → 0 < length blocks
  pub heads : 0 < length blocks → AreHeads list blocks

-- what holds of the fields of a section's deltas
pub record IsSound (list : List RelaxDelta) (blocks : List BlockHead) : Type 0 where
  pub deltas : AreValidDeltas list
  pub heads : KeepsHeads list blocks

-- the first `passed` deletions are those whose output offset, the offset less the bytes deleted
-- before, is at most y
pub record ArePlaced (deletions : List (ℕ × ℕ)) (y passed : ℕ) : Type 0 where
  pub before : (k : ℕ) (d : ℕ × ℕ) → k < passed
      → (slice_index_or deletions k d).0 ≤ y + bytes_of (take k deletions)
  pub after : (k : ℕ) (d : ℕ × ℕ) → passed ≤ k → k < length deletions
      → y + bytes_of (take k deletions) < (slice_index_or deletions k d).0

-- a valid list of deletions from an offset on, and the least offset that the next may have
pub record IsRun (from next : ℕ) (deletions : List (ℕ × ℕ)) : Type 0 where
  pub valid : IsValid deletions
  pub rise : from ≤ next
  pub begin : All (λ d. from ≤ d.0) deletions
  pub end : All (λ d. (d.0 < next) × (d.0 + d.1 ≤ next)) deletions
  pub least : (i : ℕ) → from ≤ i → All (λ d. (d.0 < i) × (d.0 + d.1 ≤ i)) deletions → next ≤ i

-- the lower of the next deletions of both lists is the first list's, or the second's
abbrev pub IsLower : List (ℕ × ℕ) → List (ℕ × ℕ) → ℕ → ℕ → ℕ × ℕ → Bool → Type 0
IsLower ds ps i j d true = (i < length ds) × (d ≡ slice_index_or ds i (0, 0))
    × (j < length ps → d.0 ≤ (slice_index_or ps j (0, 0)).0)
IsLower ds ps i j d false = (j < length ps) × (d ≡ slice_index_or ps j (0, 0))
    × (i < length ds → d.0 ≤ (slice_index_or ds i (0, 0)).0)

-- none of the first list overlaps one of the second
abbrev pub AreApart : List (ℕ × ℕ) → List (ℕ × ℕ) → Type 0
AreApart deletions others = All (λ other. All (λ d. DoNotOverlap d other) deletions) others

-- the deletions are disjoint, and apart from the others
pub record AreDisjointBeside (deletions others : List (ℕ × ℕ)) : Type 0 where
  pub disjoint : AreDisjoint deletions
  pub apart : AreApart deletions others

-- so are the first of them, some at least, of which the rest are others too
pub record AreFirstDisjoint (deletions others : List (ℕ × ℕ)) (count : ℕ) : Type 0 where
  pub some : 0 < count
  pub within : count ≤ length deletions
  pub first : AreDisjointBeside (take count deletions) (drop count deletions ++ others)

-- some deletion stands at the offset, and each that does has these bytes
pub record IsOnlyAt (deletions : List (ℕ × ℕ)) (offset bytes : ℕ) : Type 0 where
  pub some : Any (λ d. d.0 ≡ offset) deletions
  pub only : All (λ d. d.0 ≡ offset → bytes ≡ d.1) deletions

-- a delta ends there: the last of the first `passed`, or 0 is the end of none
pub record IsEndOf (deletions : List (ℕ × ℕ)) (passed end : ℕ) : Type 0 where
  pub none : passed ≡ 0 → end ≡ 0
  pub last : (d : ℕ × ℕ) → 0 < passed
      → (slice_index_or deletions (passed - 1) d).0 + (slice_index_or deletions (passed - 1) d).1
      ≡ end

-- the walk has passed the first n of the deltas
pub record IsWalked (deltas : List RelaxDelta) (passed : ℕ) (reached : Reached) : Type 0 where
  pub within : passed ≤ length deltas
  pub rest : iter_rest reached.rest ≡ drop passed deltas
  pub next : (d : RelaxDelta) → passed < length deltas
      → reached.next ≡ (slice_index_or deltas passed d).input_offset
  pub none : passed ≡ length deltas → reached.next ≡ 2 ^ 64 - 1
  pub sum : reached.deleted ≡ bytes_of (take passed (map deletion_of deltas))
  pub end : IsEndOf (map deletion_of deltas) passed reached.end

-- how many of the deltas a walk has passed
abbrev pub passed_in : List RelaxDelta → Reached → ℕ
passed_in deltas reached = length deltas - length (iter_rest reached.rest)

-- what holds of a cursor's fields
pub record IsWalking (deltas : List RelaxDelta) (reached : Reached) : Type 0 where
  pub listed : AreValidDeltas deltas
  pub walked : IsWalked deltas (passed_in deltas reached) reached
