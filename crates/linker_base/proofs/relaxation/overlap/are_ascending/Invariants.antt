use Rattle.linker_base.proofs.Imports.{pairs_of, take, ◌++◌}
use Rattle.linker_base.proofs.Together.{IsBelow}
use Rattle.linker_base.proofs.relaxation.overlap.are_ascending.Given as goal

abbrev pub invariant-loop-batch : goal.invariant-loop-batch
invariant-loop-batch l = IsBelow l.next (pairs_of (take l.batch-index l.batches))

abbrev pub invariant-loop-pair : goal.invariant-loop-pair
invariant-loop-pair l = IsBelow l.next (pairs_of (take l.batch-index l.batches) ++ take l.pair-index l.pair-items)
