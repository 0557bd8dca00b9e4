use Rattle.linker_runs.proofs.Imports.{Item, List, ap, arith, below_more, choice_of, end_of, freed_before, get_or-set_other, get_or-set_same, item_at, kept_by, len_of, length, offset_of, sym, ℕ, ◌+◌, ◌-◌, ◌<◌, ◌∙◌, ◌≡◌, ◌≢◌}
use Rattle.linker_runs.proofs.Layouts.{freed_next, freed_none, freed_fits, freed_ends}
use Rattle.linker_runs.proofs.relaxation.passes.lay_out.Goals as goal

pub loop-index-init : goal.loop-index-init
loop-index-init c = record { before = sym (freed_none c.args.start c.args.items.now (choice_of c.args.shapes.now)); written = λ k below. absurd (omega arith) }

pub kept_by-requires-clause-fits : goal.kept_by-requires-clause-fits
kept_by-requires-clause-fits c = let fits = c.requires.in_order.ends c.loop-index.index (omega arith) in omega (arith, ap end_of c.at-item.ensures)

pub kept_by-requires-clause-freed : goal.kept_by-requires-clause-freed
kept_by-requires-clause-freed c = omega (arith, c.loop-index.invariant.before, freed_fits c.args.start c.args.items.now (choice_of c.args.shapes.now) c.requires.in_order c.loop-index.index (omega arith), ap offset_of c.at-item.ensures)

step : (start : ℕ) (items : List Item) (shapes : List ℕ) (i before kept len : ℕ) → before ≡ freed_before start items (choice_of shapes) i → kept ≡ kept_by start (item_at items i) (choice_of shapes i) before → len ≡ len_of (item_at items i) → before + (len - kept) ≡ freed_before start items (choice_of shapes) (i + 1)
step start items shapes i before kept len e k l =
    omega (arith, k ∙ ap (kept_by start (item_at items i) (choice_of shapes i)) e, freed_next start items (choice_of shapes) i)

pub overflow_add-before : goal.overflow_add-before
overflow_add-before c =
    let next = step c.args.start c.args.items.now c.args.shapes.now c.loop-index.index c.loop-index.before c.kept_by.result c.len.result c.loop-index.invariant.before (c.kept_by.ensures.kept ∙ ap (λ it. kept_by c.args.start it (choice_of c.args.shapes.now c.loop-index.index) c.loop-index.before) c.at-item.ensures) (c.len.ensures ∙ ap len_of c.at-item.ensures) in
    let bound = freed_ends c.args.start c.args.items.now (choice_of c.args.shapes.now) c.requires.in_order c.loop-index.index (omega arith) in
    omega (arith, c.requires.in_order.ends c.loop-index.index (omega arith))

pub loop-index-preserved : goal.loop-index-preserved
loop-index-preserved c = record {
  before = step c.args.start c.args.items.now c.args.shapes.now c.loop-index.index c.loop-index.before c.kept_by.result c.len.result c.loop-index.invariant.before (c.kept_by.ensures.kept ∙ ap (λ it. kept_by c.args.start it (choice_of c.args.shapes.now c.loop-index.index) c.loop-index.before) c.at-item.ensures) (c.len.ensures ∙ ap len_of c.at-item.ensures);
  written = below_more _ _
      (λ k h. let ne : k ≢ c.loop-index.index = omega arith in rw get_or-set_other (c.loop-index.invariant.written k h))
      (let lt : c.loop-index.index < length c.loop-index.freed = omega arith in rw get_or-set_same c.loop-index.invariant.before);
}
