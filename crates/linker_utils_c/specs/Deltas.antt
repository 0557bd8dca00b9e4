-- The deletions and deltas that C passes.
use Rattle.std.specs.Prelude.{◌≡◌, ℕ, ◌+◌, ◌/◌, ◌%◌, ◌^◌, ◌++◌, ◌<◌, ◌⊎◌, List, length, take}
use Rattle.std.specs.List.Sorted.{IsNonDecreasing}
use Rattle.linker_utils_c.specs.Imports.{AreDisjoint, AreValidDeltas, InvalidDeletions}
use Rattle.linker_utils_c.specs.Imports.{IsFirstInvalid, IsFirstOverlapping, IsSortedUnion, IsValid}
use Rattle.linker_utils_c.specs.Imports.{NotMergeable, RelaxDelta, Success, deletions_of}
pub use Rattle.linker_rewriting.specs.Decisions.{pair_of, pairs_in}
use Rattle.linker_utils_c.specs.declared.merges.MergeError.{MergeError}
use Rattle.linker_utils_c.specs.declared.merges.MergeError.TheVariants.{OutOfMemory, Invalid}
use Rattle.linker_utils_c.specs.declared.merges.MergeError.TheVariants.{Overlapping}
use Rattle.linker_utils_c.specs.declared.merges.Key.{Key}
use Rattle.linker_utils_c.specs.declared.status.Status.TheVariants as statuses
use Rattle.linker_utils_c.specs.Status.{code}

-- the pair that a key stands for
abbrev pub pair_of_key : Key → ℕ × ℕ
pair_of_key key = (key.bits / 2 ^ 24, key.bits % 2 ^ 24)

-- the deltas list these deletions, which are valid
pub record AreDeltasOf (deletions : List (ℕ × ℕ)) (deltas : List RelaxDelta) : Type 0 where
  pub same : deletions_of deltas ≡ deletions
  pub listed : AreValidDeltas deltas

-- the deltas list the old and the additional deletions, sorted
pub record AreMerged (all : List (ℕ × ℕ)) (deltas : List RelaxDelta) : Type 0 where
  pub union : IsSortedUnion all (deletions_of deltas)
  pub listed : AreValidDeltas deltas

-- why the additional deletions aren't merged: out of memory although they can be, the first of the
-- old ones that isn't valid, or the first of the additional ones that overlaps others
abbrev pub IsMergeError : List (ℕ × ℕ) → List (ℕ × ℕ) → MergeError → Type 0
IsMergeError deletions additional OutOfMemory = IsValid deletions
    × AreDisjoint (deletions ++ additional)
IsMergeError deletions additional (Invalid at) = IsFirstInvalid deletions at
IsMergeError deletions additional (Overlapping at) = IsValid deletions
    × IsFirstOverlapping deletions additional at

-- the deltas list the old and the additional deletions, or the status says why not, and the index
-- is that of the old or of the additional one that is at fault
abbrev pub AreMergedOrFaulty : List (ℕ × ℕ) → List (ℕ × ℕ) → List RelaxDelta → ℕ → ℕ → Type 0
AreMergedOrFaulty deletions additional merged faulty status =
    ((status ≡ code Success) × IsValid deletions × AreMerged (deletions ++ additional) merged)
    ⊎ ((status ≡ code statuses.OutOfMemory) × IsValid deletions
    × AreDisjoint (deletions ++ additional))
    ⊎ ((status ≡ code InvalidDeletions) × ¬ IsValid deletions × IsFirstInvalid deletions faulty)
    ⊎ ((status ≡ code NotMergeable) × IsValid deletions × ¬ AreDisjoint (deletions ++ additional)
    × IsFirstOverlapping deletions additional faulty)

-- the query at the index is the first that is less than the one before it
pub record IsFirstDecrease (queries : List ℕ) (at : ℕ) : Type 0 where
  pub within : at < length queries
  pub before : IsNonDecreasing (take at queries)
  pub here : ¬ IsNonDecreasing (take (at + 1) queries)
