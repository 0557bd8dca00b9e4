use Rattle.linker_base.proofs.Imports.{arith, ◌%◌, ◌+◌, ◌^◌, ◌≡◌}
use Rattle.linker_base.proofs.Search.{rank_at_last, rank_at_none}
use Rattle.linker_base.proofs.relaxation.delta_slice.rank_past.Goals as goal

pub returns-then-last-deltas : goal.returns-then-last-deltas
returns-then-last-deltas c valid within parted =
    let deltas = c.args.deltas.now in
    let last = (c.args.below + 18446744073709551615) % 2 ^ 64 in
    let some : c.args.below ≡ last + 1 = omega (arith, c.if-last-deltas.true) in
    let ranked = rank_at_last deltas valid c.args.offset last (omega (arith, c.if-last-deltas.true)) (rw some at parted) in
    omega (arith, ranked.0, ranked.1, c.rank_after.ensures)

pub returns-else-last-deltas : goal.returns-else-last-deltas
returns-else-last-deltas c valid within parted =
    let none : c.args.below ≡ 0 = omega (arith, c.if-last-deltas.false) in
    rank_at_none c.args.deltas.now valid c.args.offset (rw none at parted)
