use Rattle.linker_base.proofs.Imports.{IsPartitionPoint-from_clause, arith, nat_tests, rules}
use Rattle.linker_base.proofs.Apart.{test_is, below_first, beside_by_next}
use Rattle.linker_base.proofs.Unions.{is_before}
use Rattle.linker_base.proofs.relaxation.overlap.is_beside.Goals as goal

pub returns-then-below-list : goal.returns-then-below-list
returns-then-below-list g c valid =
    let f = g.R.AsDeletion.deletion in
    let xs = c.args.list.now in
    let k = c.partition_point-below.result in
    let tells = beside_by_next f xs c.args.deletion k valid (IsPartitionPoint-from_clause (λ x. is_before (f x) c.args.deletion) xs k c.partition_point-below.ensures.partitioned (below_first f xs c.args.deletion valid) (λ a r q called. search (rules, test_is))) in
    (λ _. tells.0 (λ inside. absurd (omega (arith, c.if-below-list.true, inside))), λ _. grind (arith, nat_tests, c.if-below-list.true))

pub returns-else-below-list : goal.returns-else-below-list
returns-else-below-list g c valid =
    let f = g.R.AsDeletion.deletion in
    let xs = c.args.list.now in
    let k = c.partition_point-below.result in
    let tells = beside_by_next f xs c.args.deletion k valid (IsPartitionPoint-from_clause (λ x. is_before (f x) c.args.deletion) xs k c.partition_point-below.ensures.partitioned (below_first f xs c.args.deletion valid) (λ a r q called. search (rules, test_is))) in
    (λ holds. tells.0 (λ _. rw (← c.pair_at.ensures) (c.is_before.ensures.0 holds)), λ free. c.is_before.ensures.1 (rw c.pair_at.ensures (tells.1 free (omega (arith, c.partition_point-below.ensures.bound, c.if-below-list.false)))))
