use Rattle.linker_runs.proofs.Imports.{AreForced, IsInReachExactly, after_rounds, arith, below_more, choice_of, subst, sym, ◌∙◌}
use Rattle.linker_runs.proofs.Rounds.{next_round, no_round, reach_agrees}
use Rattle.linker_runs.proofs.Choices.{relaxed_cautious}
use Rattle.linker_runs.proofs.relaxation.passes.settle.Goals as goal

pub loop-round-init : goal.loop-round-init
loop-round-init c = record {
  freed = c.lay_out.ensures;
  short = λ i. omega (arith, c.shorten.ensures i);
  same = λ i. c.shorten.ensures i ∙ sym (no_round c.args.start c.args.items.now i);
  none = λ r h. absurd (omega arith);
}

pub returns-then-not-lengthen-clause-forced : goal.returns-then-not-lengthen-clause-forced
returns-then-not-lengthen-clause-forced c =
    subst (AreForced c.args.items.now) (sym (c.lengthen.ensures.same c.if-not-lengthen.true))
    (relaxed_cautious c.args.start c.args.items.now c.loop-round.shapes c.loop-round._round c.requires.items c.loop-round.invariant.same)

pub loop-round-preserved : goal.loop-round-preserved
loop-round-preserved c =
    let start = c.args.start in
    let items = c.args.items.now in
    let round = c.loop-round._round in
    record {
      freed = c.lay_out-in-loop-round.ensures;
      short = c.lengthen.ensures.short;
      same = next_round start items c.loop-round.shapes c.lengthen.new.shapes round (omega arith) (omega arith) c.lengthen.ensures.lengthened c.loop-round.invariant.same;
      none = below_more (λ r. ¬ IsInReachExactly start items (after_rounds start items r)) round c.loop-round.invariant.none
          (λ all. c.lengthen.ensures.out c.if-not-lengthen.false (λ i within. reach_agrees start items (choice_of c.loop-round.shapes) (after_rounds start items round) c.loop-round.invariant.same i ∙ all i within));
    }

pub returns-clause-forced : goal.returns-clause-forced
returns-clause-forced c = relaxed_cautious c.args.start c.args.items.now c.loop-round.shapes c.loop-round._round c.requires.items c.loop-round.invariant.same
