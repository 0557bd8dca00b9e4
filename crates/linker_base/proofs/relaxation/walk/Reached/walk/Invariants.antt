use Rattle.linker_base.proofs.Imports.{AreValidDeltas, IsWalked, List, RelaxDelta, ℕ}
use Rattle.linker_base.proofs.Walking.{IsWalkedAlong}
use Rattle.linker_base.proofs.relaxation.walk.Reached.walk.Given as goal

abbrev pub invariant-loop-at : goal.invariant-loop-at
invariant-loop-at l = (deltas : List RelaxDelta) (k : ℕ) → AreValidDeltas deltas → IsWalked deltas k l.initial.self → IsWalkedAlong deltas k l.queries l.at l.self l.out
