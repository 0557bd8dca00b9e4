use Rattle.linker_output.proofs.Imports.{arith, false, false≢true, get_or_read, sym, ◌∙◌}
use Rattle.linker_output.proofs.placement.are_used.Goals as goal

pub returns-clause-used : goal.returns-clause-used
returns-clause-used c = λ _ j below.
    let found = c.loop-stub.invariant.found j (c.loop-index.invariant j (omega arith)) in
    (found.0, omega (arith, found.1), found.2)

pub returns-then-not-index-clause-unused : goal.returns-then-not-index-clause-unused
returns-then-not-index-clause-unused c = λ _ all.
    let found = all c.loop-index.index (omega arith) in
    let marked = c.loop-stub.invariant.marked found.0 c.loop-index.index (omega arith) (omega arith) found.2 in
    false≢true (sym c.if-not-index.true ∙ (get_or_read c.loop-stub.used.items c.loop-index.index c.index.result.now (omega (arith, found.1)) c.index.ensures false) ∙ marked)
