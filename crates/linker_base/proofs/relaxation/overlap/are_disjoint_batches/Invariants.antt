use Rattle.linker_base.proofs.Imports.{AreDisjoint, drop, pairs_of}
use Rattle.linker_base.proofs.relaxation.overlap.are_disjoint_batches.Given as goal

abbrev pub invariant-loop-at : goal.invariant-loop-at
invariant-loop-at l = AreDisjoint (pairs_of (drop l.at l.batches)) → AreDisjoint (pairs_of l.batches)
