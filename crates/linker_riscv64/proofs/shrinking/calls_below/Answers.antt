use Rattle.linker_riscv64.proofs.Imports.{arith, nat_lt, rules}
use Rattle.std.proofs.lemmas.List.Sorted.{IsPartitionPoint-from_clause, IsPartitionedBy-ltb}
use Rattle.linker_riscv64.proofs.Shrunk.{sites_rise, split_by_test}
use Rattle.linker_riscv64.proofs.shrinking.calls_below.Goals as goal

pub returns-clause-split : goal.returns-clause-split
returns-clause-split g c = λ apart.
    let f = g.C.AsCall.call in
    let calls = c.args.calls.now in
    let bound = c.saturating_sub-bound.result in
    split_by_test f calls c.args.offset bound c.partition_point.result (omega (arith, c.saturating_sub-bound.ensures))
    (IsPartitionPoint-from_clause (λ call. nat_lt (f call).0 bound) calls c.partition_point.result c.partition_point.ensures.partitioned
    (IsPartitionedBy-ltb (λ call. (f call).0) calls bound (sites_rise f calls apart)) (λ a r f called. search rules))
