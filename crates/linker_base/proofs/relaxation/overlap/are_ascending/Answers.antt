use Rattle.linker_base.proofs.Imports.{[], append-nil, append_assoc, arith, get_or, pairs_of, take, take_all, take_more, ◌++◌, ◌∙◌, ◌∷◌, ◌≡◌}
use Rattle.linker_base.proofs.Apart.{pairs_more}
use Rattle.linker_base.proofs.Together.{below_push}
use Rattle.linker_base.proofs.relaxation.overlap.are_ascending.Goals as goal

pub loop-pair-init : goal.loop-pair-init
loop-pair-init c = rw (append-nil (pairs_of (take c.loop-batch.batch-index c.args.batches.now))) c.loop-batch.invariant

pub loop-pair-preserved : goal.loop-pair-preserved
loop-pair-preserved c =
    let before = pairs_of (take c.loop-batch.batch-index c.args.batches.now) in
    let items = c.deref-pair-items.result.now in
    let k = c.loop-pair.pair-index in
    rw (take_more items k (0, 0) c.loop-pair-test.true, ← append_assoc before (take k items) (get_or items k (0, 0) ∷ [])) (below_push (before ++ take k items) (get_or items k (0, 0)) c.loop-pair.next _ c.loop-pair.invariant (omega arith) (c.end_fits.ensures.0 c.if-not-end_fits.false) (omega arith))

pub loop-batch-preserved : goal.loop-batch-preserved
loop-batch-preserved c =
    let whole : take c.loop-pair.pair-index c.deref-pair-items.result.now ≡ c.batch-item.result.items = take_all c.loop-pair.pair-index c.deref-pair-items.result.now c.loop-pair-test.false ∙ c.deref-pair-items.ensures.value in
    rw (pairs_more c.args.batches.now c.loop-batch.batch-index c.batch-item.result c.loop-batch-test.true c.batch-item.is) (rw whole at c.loop-pair.invariant)

pub returns : goal.returns
returns c _ = rw (take_all c.loop-batch.batch-index c.args.batches.now c.loop-batch-test.false) at c.loop-batch.invariant.valid
