use Rattle.linker_base.proofs.Imports.{AreValidDeltas, IsPosition, delta_at, length, ◌-◌, ◌<◌, ◌≤◌}
use Rattle.linker_base.proofs.packing.position_from.Given as goal

-- the deltas that are passed begin below the offset
abbrev pub invariant-loop-begun : goal.invariant-loop-begun
invariant-loop-begun l = AreValidDeltas l.deltas → IsPosition l.deltas l.from → l.from.input_offset ≤ l.input_offset
    → (l.begun ≤ length l.deltas) × (0 < l.begun → (delta_at l.deltas (l.begun - 1)).input_offset < l.input_offset)

abbrev pub decreases-loop-begun : goal.decreases-loop-begun
decreases-loop-begun l = length l.deltas - l.begun
