use Rattle.linker_base.proofs.Imports.{arith, length-map, map}
use Rattle.linker_base.proofs.Apart.{disjoint_from_falling}
use Rattle.linker_base.proofs.relaxation.overlap.falls.Goals as goal

pub returns : goal.returns
returns g c fits =
    let f = g.D.AsDeletion.deletion in
    let xs = c.args.deletions.now in
    disjoint_from_falling (map f xs) (λ k low. c.loop-at.invariant k (omega (arith, low, length-map xs f, c.loop-at-test.false))) (rw (← c.pair_at-2.ensures) (c.end_fits.ensures.0 fits))
