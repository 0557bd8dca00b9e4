use Rattle.linker_riscv64.proofs.Imports.{View, ap, arith, both_ways, deletions_of, distance_over, false, false≢true, get_or, get_or-map, length, length-map, map, max, min, rank, refl, rules, sym, ◌-◌, ◌<◌, ◌∙◌, ◌≡◌, ◌≤◌}
use Rattle.linker_riscv64.proofs.Shrunk.{at_index, distance_over-is, near_enough, too_far}
use Rattle.linker_riscv64.proofs.shrinking.is_in_reach.Goals as goal

pub returns-then-reaches : goal.returns-then-reaches
returns-then-reaches g c = λ valid shrinkable.
    let f = g.C.AsCall.call in
    let h = g.A.AsChoice.choice in
    let xs = c.args.calls.now in
    let bs = c.args.answer.now in
    let ds = deletions_of c.args.deltas.now in
    let k = c.args.index in
    let site = c.as_call-site.result.0 in
    let target = c.as_call-site.result.1 in
    let inside : k < length (map f xs) = omega (arith, c.requires.within, length-map xs f) in
    let same : length (map h bs) ≡ length (map f xs) = omega (arith, c.requires.one_each, length-map bs h, length-map xs f) in
    let here : get_or (map f xs) k (0, 0) ≡ (site, target) = get_or-map f xs k c.index-calls-index.result (0, 0) c.requires.within ∙ ap f (sym c.index-calls-index.is) ∙ sym c.as_call-site.ensures in
    let view = c.new-deltas.ensures.valid valid in
    let from_is = c.input_to_output_offset-from.ensures view ∙ ap (λ (v : View). rank (deletions_of v.deltas) site) c.new-deltas.ensures.same in
    let to_is = c.input_to_output_offset-to.ensures view ∙ ap (λ (v : View). rank (deletions_of v.deltas) target) c.new-deltas.ensures.same in (
      λ _. near_enough ds (map f xs) (map h bs) k site target c.input_to_output_offset-from.result c.input_to_output_offset-to.result shrinkable same inside here from_is to_is (c.reaches.ensures.0 c.if-reaches.true),
      λ _. refl,
    )

pub returns-then-not-reaches_over : goal.returns-then-not-reaches_over
returns-then-not-reaches_over g c = λ valid shrinkable.
    let f = g.C.AsCall.call in
    let h = g.A.AsChoice.choice in
    let xs = c.args.calls.now in
    let bs = c.args.answer.now in
    let ds = deletions_of c.args.deltas.now in
    let k = c.args.index in
    let site = c.as_call-site.result.0 in
    let target = c.as_call-site.result.1 in
    let inside : k < length (map f xs) = omega (arith, c.requires.within, length-map xs f) in
    let same : length (map h bs) ≡ length (map f xs) = omega (arith, c.requires.one_each, length-map bs h, length-map xs f) in
    let here : get_or (map f xs) k (0, 0) ≡ (site, target) = get_or-map f xs k c.index-calls-index.result (0, 0) c.requires.within ∙ ap f (sym c.index-calls-index.is) ∙ sym c.as_call-site.ensures in
    let view = c.new-deltas.ensures.valid valid in
    let from_is = c.input_to_output_offset-from.ensures view ∙ ap (λ (v : View). rank (deletions_of v.deltas) site) c.new-deltas.ensures.same in
    let to_is = c.input_to_output_offset-to.ensures view ∙ ap (λ (v : View). rank (deletions_of v.deltas) target) c.new-deltas.ensures.same in
    let split = c.calls_below-split.result in
    let bound : split ≤ length (map f xs) = omega (arith, c.calls_below-split.ensures.within, length-map xs f) in
    let counted : c.abs_diff.result ≡ max k split - min k split = omega (arith, c.abs_diff.ensures) in
    let far : c.reaches_over.result ≡ false = search rules in (
      λ f. absurd (false≢true f),
      λ reach. absurd (too_far ds (map f xs) (map h bs) k split site target c.input_to_output_offset-from.result c.input_to_output_offset-to.result c.abs_diff.result shrinkable same inside here (c.calls_below-split.ensures.split shrinkable.apart)
          from_is to_is bound counted (λ near. both_ways c.reaches_over.result far (c.reaches_over.ensures.1 near)) reach),
    )

pub returns : goal.returns
returns g c = λ valid shrinkable.
    let f = g.C.AsCall.call in
    let h = g.A.AsChoice.choice in
    let xs = c.args.calls.now in
    let bs = c.args.answer.now in
    let ds = deletions_of c.args.deltas.now in
    let k = c.args.index in
    let site = c.as_call-site.result.0 in
    let target = c.as_call-site.result.1 in
    let from = c.input_to_output_offset-from.result in
    let to = c.input_to_output_offset-to.result in
    let inside : k < length (map f xs) = omega (arith, c.requires.within, length-map xs f) in
    let same : length (map h bs) ≡ length (map f xs) = omega (arith, c.requires.one_each, length-map bs h, length-map xs f) in
    let here : get_or (map f xs) k (0, 0) ≡ (site, target) = get_or-map f xs k c.index-calls-index.result (0, 0) c.requires.within ∙ ap f (sym c.index-calls-index.is) ∙ sym c.as_call-site.ensures in
    let view = c.new-deltas.ensures.valid valid in
    let from_is = c.input_to_output_offset-from.ensures view ∙ ap (λ (v : View). rank (deletions_of v.deltas) site) c.new-deltas.ensures.same in
    let to_is = c.input_to_output_offset-to.ensures view ∙ ap (λ (v : View). rank (deletions_of v.deltas) target) c.new-deltas.ensures.same in
    let split = c.calls_below-split.result in
    let count = c.count_between-count.result in
    at_index ds (map f xs) (map h bs) k site target (distance_over from to k split count) c.reaches_over-2.result inside here
    (distance_over-is ds (map f xs) (map h bs) k split site target from to shrinkable same inside here (c.calls_below-split.ensures.split shrinkable.apart)
    from_is to_is c.min-first.result c.max-end.result count c.min-first.ensures c.max-end.ensures c.count_between-count.ensures)
    c.reaches_over-2.ensures
