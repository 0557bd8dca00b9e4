-- The deltas that a section lists of its deletions, and the pairs of several batches.
use Rattle.std.specs.Prelude.{◌≡◌, ℕ, ◌+◌, ◌<◌, List, length, map, take, slice_index_or}
use Rattle.std.specs.List.{flat_map}
use Rattle.std.specs.Global.{Vec}
use Rattle.linker_base.specs.declared.relaxation.RelaxDelta.{RelaxDelta}
use Rattle.linker_base.specs.Deletions.{bytes_of}

-- the deletion that a delta records
abbrev pub deletion_of : RelaxDelta → ℕ × ℕ
deletion_of delta = (delta.input_offset, delta.bytes_deleted)

-- the deletions that deltas record
abbrev pub deletions_of : List RelaxDelta → List (ℕ × ℕ)
deletions_of deltas = map deletion_of deltas

-- the pairs of all batches, one batch after the other
abbrev pub pairs_of : List (Vec (ℕ × ℕ)) → List (ℕ × ℕ)
pairs_of batches = flat_map (λ batch. batch.items) batches

-- the deltas record these deletions in this order, each with the bytes of all deletions up to it
pub record RecordsDeletions (deletions : List (ℕ × ℕ)) (deltas : List RelaxDelta) : Type 0 where
  pub same : map deletion_of deltas ≡ deletions
  pub sums : (k : ℕ) (d : RelaxDelta) → k < length deltas
      → (slice_index_or deltas k d).cumulative_deleted ≡ bytes_of (take (k + 1) deletions)
