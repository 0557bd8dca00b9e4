use Rattle.linker_base.proofs.Imports.{length, min, pairs_of, take, ◌-◌, ◌^◌, ◌≡◌}
use Rattle.linker_base.proofs.relaxation.merge.count_pairs.Given as goal

abbrev pub invariant-loop-batch : goal.invariant-loop-batch
invariant-loop-batch l = l.count ≡ min (length (pairs_of (take l.batch-index l.batches))) (2 ^ 64 - 1)
