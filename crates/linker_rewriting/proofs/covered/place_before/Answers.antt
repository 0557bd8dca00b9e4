use Rattle.linker_rewriting.proofs.Imports.{arith, decision_in, length, map, subst, ◌/◌, ◌<◌, ◌≤◌}
use Rattle.linker_rewriting.proofs.Places.{below_last}
use Rattle.linker_rewriting.proofs.covered.place_before.Goals as goal

pub returns-then-end-offset-clause-below : goal.returns-then-end-offset-clause-below
returns-then-end-offset-clause-below c =
    let a = c.args in
    let within : c.loop-at.at ≤ length a.windows.now.relocations.now / 24 =
    (let i = c.loop-at.invariant in let w = c.requires.within in omega (arith, i, w)) in
    below_last a.windows.now.relocations.now (map decision_in a.windows.now.decisions.now) (length a.windows.now.relocations.now / 24) c.loop-at.at a.offset
    c.requires.searchable.apart c.loop-at-test.true within
    (subst (λ x. x.0 < x.1) c.span_at-start.ensures c.if-start-end.true)
    (subst (λ x. x.1 ≤ a.offset) c.span_at-start.ensures c.if-end-offset.true)
