use Rattle.linker_reading.proofs.Imports.{HasEach, length, ℕ, ◌-◌, ◌<◌, ◌≤◌}
use Rattle.linker_reading.proofs.windows.least_window.Given as goal

abbrev pub invariant-loop-begin : goal.invariant-loop-begin
invariant-loop-begin g l =
    (l.begin ≤ l.offset)
    × ((b : ℕ) → l.begin < b → b ≤ l.offset → HasEach g.N.RecognisedName.how l.fn.name l.original l.offset b (length l.original) → ⊥)

abbrev pub decreases-loop-begin : goal.decreases-loop-begin
decreases-loop-begin g l = l.begin

abbrev pub invariant-loop-end : goal.invariant-loop-end
invariant-loop-end g l =
    (l.offset ≤ l.end)
    × ((e : ℕ) → l.offset ≤ e → e < l.end → HasEach g.N.RecognisedName.how l.fn.name l.original l.offset l.begin e → ⊥)

abbrev pub decreases-loop-end : goal.decreases-loop-end
decreases-loop-end g l = l.len - l.end
