-- Deltas in blocks of 64, and the head of each.
use Rattle.std.specs.Prelude.{◌≡◌, ℕ, ◌+◌, ◌-◌, ◌*◌, ◌/◌, ◌%◌, ◌^◌, ◌<◌, List, length}
use Rattle.std.specs.Prelude.{slice_index_or}
use Rattle.linker_base.specs.declared.relaxation.RelaxDelta.{RelaxDelta}
use Rattle.linker_base.specs.declared.relaxation.blocks.BlockHead.{BlockHead}
use Rattle.linker_base.specs.Listed.{AreValidDeltas}

-- the offset less the bytes deleted before, modulo 2^64
abbrev pub output_offset_of : RelaxDelta → ℕ
output_offset_of delta =
    (delta.input_offset + delta.bytes_deleted + (2 ^ 64 - delta.cumulative_deleted)) % 2 ^ 64

-- how many blocks there are; the last may be shorter
abbrev pub blocks_of : ℕ → ℕ
blocks_of len = (len + 63) / 64

-- the head of a block that begins with the delta
abbrev pub head_of : RelaxDelta → BlockHead
head_of delta = record { input_offset = delta.input_offset; output_offset = output_offset_of delta }

-- the heads of the blocks of the deltas
pub record AreHeads (deltas : List RelaxDelta) (heads : List BlockHead) : Type 0 where
  pub count : length heads ≡ blocks_of (length deltas)
  pub each : (b : ℕ) (h : BlockHead) (d : RelaxDelta) → b < length heads
      → slice_index_or heads b h ≡ head_of (slice_index_or deltas (64 * b) d)

-- a list of deltas, and how many looks at it were counted
pub record Counts : Type 0 where
  pub listed : List RelaxDelta
  pub looked : ℕ

-- deltas, and what stands for the heads of their blocks, or none
pub record View : Type 0 where
  pub deltas : List RelaxDelta
  pub heads : List BlockHead

-- the deltas list valid deletions, and the heads, if there are any, are theirs
pub record IsValidView (view : View) : Type 0 where
  pub valid : AreValidDeltas view.deltas
  pub heads : 0 < length view.heads → AreHeads view.deltas view.heads
