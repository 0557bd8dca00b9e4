use Rattle.linker_base.proofs.Imports.{AreValidDeltas, IsWalked, List, RelaxDelta, iter_rest, length, ℕ}
use Rattle.linker_base.proofs.Walking.{IsPassing}
use Rattle.linker_base.proofs.relaxation.walk.Reached.pass.Given as goal

abbrev pub invariant-loop-self : goal.invariant-loop-self
invariant-loop-self l = (deltas : List RelaxDelta) (k : ℕ) → AreValidDeltas deltas → IsWalked deltas k l.initial.self → IsPassing deltas k l.offset l.self

abbrev pub decreases-loop-self : goal.decreases-loop-self
decreases-loop-self l = length (iter_rest l.self.rest)
