use Rattle.linker_runs.proofs.Imports.{ap, arith, below_more, choice_of, get_or, get_or-set_other, get_or-set_same, item_at, kept_by, length, offset_of, ◌<◌, ◌∙◌, ◌≢◌}
use Rattle.linker_runs.proofs.Layouts.{freed_fits}
use Rattle.linker_runs.proofs.relaxation.passes.keep.Goals as goal

pub kept_by-requires-clause-freed : goal.kept_by-requires-clause-freed
kept_by-requires-clause-freed c = omega (arith, c.requires.freed.each c.loop-index.index (omega arith), freed_fits c.args.start c.args.items.now (choice_of c.args.shapes.now) c.requires.in_order c.loop-index.index (omega arith), ap offset_of c.at-item.ensures)

pub loop-index-preserved : goal.loop-index-preserved
loop-index-preserved c = below_more _ _
    (λ k h. let ne : k ≢ c.loop-index.index = omega arith in rw get_or-set_other (c.loop-index.invariant k h))
    (let lt : c.loop-index.index < length c.loop-index.kept = omega arith in
    let there = c.requires.freed.each c.loop-index.index (omega arith) in
    rw get_or-set_same (c.kept_by.ensures.kept ∙ ap (λ it. kept_by c.args.start it (choice_of c.args.shapes.now c.loop-index.index) (get_or c.args.freed.now c.loop-index.index 0)) c.at-item.ensures ∙ ap (kept_by c.args.start (item_at c.args.items.now c.loop-index.index) (choice_of c.args.shapes.now c.loop-index.index)) there))
