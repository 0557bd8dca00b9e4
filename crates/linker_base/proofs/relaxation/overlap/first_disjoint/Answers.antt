use Rattle.linker_base.proofs.Imports.{arith, drop-map, length-map, map, pairs_of, take-map, take_rest}
use Rattle.linker_base.proofs.Apart.{first_if}
use Rattle.linker_base.proofs.Unions.{disjoint_from_valid}
use Rattle.linker_base.proofs.relaxation.overlap.first_disjoint.Goals as goal

pub returns-then-rising-count : goal.returns-then-rising-count
returns-then-rising-count g c =
    let f = g.D.AsDeletion.deletion in
    let xs = c.args.deletions.now in
    let n = c.min-count.result in
    rw c.then_some.ensures (first_if c.are_sorted_apart.result (map f xs) (pairs_of c.args.batches.now) n (omega (arith, c.min-count.ensures, c.requires)) (omega (arith, c.min-count.ensures, length-map xs f)) c.are_sorted_apart.ensures)

pub returns : goal.returns
returns g c =
    let f = g.D.AsDeletion.deletion in
    let xs = c.args.deletions.now in
    let n = c.valid_len-rising.result in
    let valid = c.valid_len-rising.ensures.valid in
    let apart = rw (take_rest xs n, ← drop-map f n xs, ← take-map f n xs) at (c.are_apart.ensures (rw (take-map f n xs) at valid)) in
    rw c.then_some-2.ensures (first_if c.are_apart.result (map f xs) (pairs_of c.args.batches.now) n (omega (arith, c.min-count.ensures, c.requires, c.if-rising-count.false)) (omega (arith, c.valid_len-rising.ensures.within, length-map xs f))
    (λ holds. record { disjoint = disjoint_from_valid _ valid; apart = apart.0 holds }, λ all. apart.1 all.apart))
