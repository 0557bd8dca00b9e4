use Rattle.linker_reading.proofs.Imports.{ap, arith, choice, choices_in, length, replicate, set, slice_index_or, suc, take, take_all, ◌++◌, ◌+◌, ◌-◌, ◌∙◌, ◌≡◌}
use Rattle.linker_reading.proofs.Tables.{filled_more, filled_all}
use Rattle.linker_reading.proofs.recognise.engine.choices_of.Goals as goal

pub loop-index-preserved : goal.loop-index-preserved
loop-index-preserved g c =
    let i = c.loop-index.index in
    let es = c.args.entries.now in
    let otherwise = choice c.args.kind c.args.relocation in
    let one = choice (slice_index_or es i c.index-entries-index.result).kind (slice_index_or es i c.index-entries-index-in-loop-index.result).relocation in
    c.put.ensures
    ∙ ap (λ l. set l i one) c.loop-index.invariant
    ∙ ap (λ n. set (choices_in (take i es) otherwise ++ replicate n otherwise) i one) (let e : 5 - i ≡ suc (5 - (i + 1)) = omega (arith, c.loop-index-test.true, c.requires) in e)
    ∙ filled_more es otherwise i (5 - (i + 1)) c.index-entries-index.result c.index-entries-index-in-loop-index.result c.loop-index-test.true
    ∙ ap (λ n. choices_in (take n es) otherwise ++ replicate (5 - (i + 1)) otherwise) (let e : suc i ≡ i + 1 = omega arith in e)

pub returns-clause-choices : goal.returns-clause-choices
returns-clause-choices g c =
    let es = c.args.entries.now in
    let otherwise = choice c.args.kind c.args.relocation in
    let rest = replicate (5 - c.loop-index.index) otherwise in
    ap (λ l. take (length es + 1) l) (c.loop-index.invariant ∙ ap (λ xs. choices_in xs otherwise ++ rest) (take_all c.loop-index.index es c.loop-index-test.false))
    ∙ ap (λ n. take n (choices_in es otherwise ++ rest)) (let e : length es + 1 ≡ suc (length es) = omega arith in e)
    ∙ filled_all es otherwise rest
