use Rattle.linker_runs.proofs.Imports.{arith, ◌≡◌}
use Rattle.linker_runs.proofs.Choices.{place_unique}
use Rattle.linker_runs.proofs.items.list.ItemList.place_of.Goals as goal

pub returns-clause-place : goal.returns-clause-place
returns-clause-place c apart =
    let ends : c.loop-low.low ≡ c.loop-low.high = omega (arith, c.loop-low.invariant.order, c.loop-low-test.false) in
    place_unique c.args.self.now apart c.args.offset c.loop-low.low (omega (arith, c.loop-low.invariant.within, ends)) c.loop-low.invariant.below
    (λ more. rw ends (c.loop-low.invariant.above (omega (arith, more, ends))))
