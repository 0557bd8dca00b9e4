use Rattle.linker_base.proofs.Imports.{pairs_of, take, ◌≡◌}
use Rattle.linker_base.proofs.relaxation.merge.all_pairs.Given as goal

abbrev pub invariant-loop-batch : goal.invariant-loop-batch
invariant-loop-batch l = l.pairs.items ≡ pairs_of (take l.batch-index l.batches)
