use Rattle.linker_runs.proofs.Imports.{ap, arith, deletions_of, end_of, kept_len, len_of, offset_of, rank, rank_steps, ◌+◌, ◌∙◌, ◌≡◌}
use Rattle.linker_runs.proofs.packing.kept_of.Goals as goal

pub returns-then-kept-len-clause-none : goal.returns-then-kept-len-clause-none
returns-then-kept-len-clause-none c = λ valid position last keeps.
    let ds = deletions_of c.args.deltas.now in
    let item = c.args.item.now in
    let first : c.args.at.now.output_offset ≡ rank ds (offset_of item) = position.output ∙ ap (rank ds) c.requires.at in
    let to : c.args.end.now.output_offset ≡ rank ds (end_of item) = last.output ∙ ap (rank ds) c.requires.end in
    absurd (omega (arith, first, to, (rank_steps ds (offset_of item) (len_of item)), c.saturating_sub-kept.ensures, c.len.ensures, c.if-kept-len.true))

pub returns-then-following-at-clause-some : goal.returns-then-following-at-clause-some
returns-then-following-at-clause-some c = λ valid position last.
    let ds = deletions_of c.args.deltas.now in
    let item = c.args.item.now in
    let first : c.args.at.now.output_offset ≡ rank ds (offset_of item) = position.output ∙ ap (rank ds) c.requires.at in
    let kept : c.saturating_sub-kept.result ≡ kept_len ds item = omega (arith, c.saturating_sub-kept.ensures, first, (last.output ∙ ap (rank ds) c.requires.end)) in
    let place : c.position_from-following.result.input_offset ≡ offset_of item + kept_len ds item = omega (arith, c.position_from-following.ensures.offset, c.requires.at, kept) in
    let there : c.position_from-following.result.output_offset ≡ rank ds (offset_of item + kept_len ds item) = (c.position_from-following.ensures.position valid position (omega arith)).output ∙ ap (rank ds) place in
    (kept, omega (arith, rank_steps ds (offset_of item) (len_of item), there, first, kept, c.if-following-at.true))

pub returns-else-following-at-clause-none : goal.returns-else-following-at-clause-none
returns-else-following-at-clause-none c = λ valid position last keeps.
    let ds = deletions_of c.args.deltas.now in
    let item = c.args.item.now in
    let first : c.args.at.now.output_offset ≡ rank ds (offset_of item) = position.output ∙ ap (rank ds) c.requires.at in
    let kept : c.saturating_sub-kept.result ≡ kept_len ds item = omega (arith, c.saturating_sub-kept.ensures, first, (last.output ∙ ap (rank ds) c.requires.end)) in
    let place : c.position_from-following.result.input_offset ≡ offset_of item + kept_len ds item = omega (arith, c.position_from-following.ensures.offset, c.requires.at, kept) in
    let there : c.position_from-following.result.output_offset ≡ rank ds (offset_of item + kept_len ds item) = (c.position_from-following.ensures.position valid position (omega arith)).output ∙ ap (rank ds) place in
    c.if-following-at.false (omega (arith, rank_steps ds (offset_of item) (len_of item), there, first, kept, keeps))
