-- The boundaries at or below an offset.
use Rattle.linker_output.proofs.Imports.{List, at, leb-false, leb-true, length, nat_le, passed, prefix_len_passes, prefix_len_stops, ℕ, ◌<◌, ◌≤◌}

-- boundaries that are passed are at or below the offset, and the next one is above it
pub below_passed : (boundaries : List ℕ) (offset k : ℕ) → k < passed boundaries offset → at boundaries k ≤ offset
below_passed boundaries offset k h = leb-true _ _ (prefix_len_passes (λ b. nat_le b offset) boundaries k 0 h)

pub above_passed : (boundaries : List ℕ) (offset : ℕ) → passed boundaries offset < length boundaries → offset < at boundaries (passed boundaries offset)
above_passed boundaries offset h = leb-false _ _ (prefix_len_stops (λ b. nat_le b offset) boundaries 0 h)
