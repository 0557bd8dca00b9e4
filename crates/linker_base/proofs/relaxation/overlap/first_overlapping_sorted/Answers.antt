use Rattle.linker_base.proofs.Imports.{arith, cases_lt, deletion_of, false≢true, inl, inr, length, length-map, length-take, map, sym, take, take-map, take_all, ◌∙◌}
use Rattle.linker_base.proofs.Apart.{disjoint_with_none}
use Rattle.linker_base.proofs.relaxation.overlap.first_overlapping_sorted.Goals as goal

pub loop-high-init : goal.loop-high-init
loop-high-init g c =
    let f = g.D.AsDeletion.deletion in
    let ds = map deletion_of c.args.deltas.now in
    let xs = c.args.additional.now in
    record {
      within = omega arith;
      order = omega arith;
      some = λ valid. elim (cases_lt 0 (length xs)) [
        | inl some ↦ some
        | inr none ↦ absurd (false≢true (sym c.if-can_be_merged_sorted.false ∙ (c.can_be_merged_sorted.ensures valid).1 (disjoint_with_none ds (map f xs) valid (omega (arith, none, length-map xs f)))))
      ];
      below = λ valid. disjoint_with_none ds (take 0 (map f xs)) valid (omega (arith, length-take 0 (map f xs)));
      above = λ valid all. false≢true (sym c.if-can_be_merged_sorted.false ∙ (c.can_be_merged_sorted.ensures valid).1 (rw (take_all (length xs) (map f xs) (omega (arith, length-map xs f))) at all));
    }

pub loop-high-preserved-then-can_be_merged_sorted-2 : goal.loop-high-preserved-then-can_be_merged_sorted-2
loop-high-preserved-then-can_be_merged_sorted-2 g c =
    record {
      within = c.loop-high.invariant.within;
      order = omega (arith, c.inner_or_middle-middle.ensures.1);
      some = λ valid. c.inner_or_middle-middle.ensures.1;
      below = λ valid. rw (take-map g.D.AsDeletion.deletion c.inner_or_middle-middle.result c.args.additional.now) ((c.can_be_merged_sorted-in-loop-high.ensures valid).0 c.if-can_be_merged_sorted-2.true);
      above = c.loop-high.invariant.above;
    }

pub loop-high-preserved : goal.loop-high-preserved
loop-high-preserved g c =
    record {
      within = omega (arith, c.inner_or_middle-middle.ensures.1, c.loop-high.invariant.within);
      order = omega (arith, c.inner_or_middle-middle.ensures.0);
      some = λ valid. c.inner_or_middle-middle.ensures.0;
      below = c.loop-high.invariant.below;
      above = λ valid all. false≢true (sym c.if-can_be_merged_sorted-2.false ∙ (c.can_be_merged_sorted-in-loop-high.ensures valid).1 (rw (take-map g.D.AsDeletion.deletion c.inner_or_middle-middle.result c.args.additional.now) at all));
    }
