use Rattle.linkfix.proofs.Imports.{ap, arith, slice_range, strip_last, ◌+◌, ◌∙◌}
use Rattle.linkfix.proofs.LineLemmas.{next_line_at_end, next_line_at_lf, found_of, no_part, part_after}
use Rattle.linkfix.proofs.input.Lines.next_line.Goals as goal

pub returns-in-Some-clause-next : goal.returns-in-Some-clause-next
returns-in-Some-clause-next g c =
    let part = slice_range c.loop-at.self.buffer c.loop-at.self.start c.loop-at.self.end in
    let lf = c.in-Some.ensures.some in
    next_line_at_lf _ _ c.loop-at.line.items part _ _ c.in-Some.at c.loop-at.invariant.one_line c.loop-at.invariant.kept lf.0 lf.1 lf.2
    (c.strip_carriage_return.ensures ∙ ap (strip_last 13) c.in_ok-extend_from_slice.ensures.items)
    (part_after c.loop-at.self.buffer c.loop-at.self.start c.loop-at.self.end (c.in-Some.at + 1) c.loop-at.self.ordered (omega (arith, lf.0)))

pub returns-then-not-branch-clause-next : goal.returns-then-not-branch-clause-next
returns-then-not-branch-clause-next g c =
    let part = slice_range c.loop-at.self.buffer c.loop-at.self.start c.loop-at.self.end in
    next_line_at_end _ _ _ c.loop-at.line.items part _ _ c.in_ok-refill.field-0 _ c.loop-at.invariant.one_line c.in_default.ensures.none c.loop-at.invariant.kept
    c.in_ok-extend_from_slice-2.ensures.items (no_part c.loop-at.self.buffer c.loop-at.self.end) c.in_ok-refill.ensures.kept c.if-not-branch.true
    (found_of c.extend_from_slice-in-loop-at.new.self.items _ _ (omega arith) c.is_empty.ensures)
