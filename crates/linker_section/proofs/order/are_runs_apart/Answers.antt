use Rattle.linker_section.proofs.Imports.{ArePast, IsOfRuns, IsPast, arith, eqb-true, subst, sym, ◌+◌, ◌∙◌}
use Rattle.linker_section.proofs.Runs.{past_first, past_second, past_end, past_none, past_all}
use Rattle.linker_section.proofs.order.are_runs_apart.Goals as goal
use Rattle.linker_section.proofs.order.are_runs_apart.Goals.{then-second-len-2+else-not-is_past-2, else-second-len-2}

pub loop-second-init : goal.loop-second-init
loop-second-init c =
    let a = c.args in
    record { within = omega arith; past = λ section small. past_none a.architecture a.relocations.now section a.start _ }

pub loop-first-init : goal.loop-first-init
loop-first-init c = record { within = c.loop-second.invariant.within; past = c.loop-second.invariant.past }

pub loop-first-preserved : goal.loop-first-preserved
loop-first-preserved c =
    let a = c.args in
    let bytes = a.relocations.now in
    let l = c.loop-first in
    let there = c.loop-first-test.true in
    let next = c.relocation_in-next.ensures in
    record {
      within = omega (arith, there);
      past = λ section small. subst (ArePast a.architecture bytes section (IsOfRuns bytes a.start (l.first + 1) c.loop-second.second)) (sym next)
          (past_first a.architecture bytes section a.start l.first c.loop-second.second l.last there c.requires small
          (subst (IsPast a.architecture l.last) next (c.is_past.ensures c.if-not-is_past.false)) (l.invariant.past section small));
    }

pub loop-second-preserved : goal.loop-second-preserved
loop-second-preserved c =
    let a = c.args in
    let bytes = a.relocations.now in
    let l = c.loop-first in
    let second = c.loop-second.second in
    let len = c.relocations_len-len.ensures in
    record {
      within = l.invariant.within;
      past = λ section small. elim c.if-second-len-2.branch [
        | then-second-len-2+else-not-is_past-2 w ↦
            let next = w.relocation_in-next-then-second-len-2.ensures in
            subst (ArePast a.architecture bytes section (IsOfRuns bytes a.start l.first (second + 1))) (sym (w.last-is ∙ next))
            (past_second a.architecture bytes section a.start l.first second l.last c.loop-second.auto.second (omega (arith, w.if-second-len-2.true, len)) small
            (subst (IsPast a.architecture l.last) next (w.is_past-then-second-len-2.ensures w.if-not-is_past-2.false)) (l.invariant.past section small))
        | else-second-len-2 w ↦
            subst (ArePast a.architecture bytes section (IsOfRuns bytes a.start l.first (second + 1))) (sym w.last-is)
            (past_end a.architecture bytes section a.start l.first second l.last (omega (arith, w.if-second-len-2.false, len)) (l.invariant.past section small))
      ];
    }

pub returns : goal.returns
returns c is section small =
    let a = c.args in
    let l = c.loop-second in
    let all = eqb-true l.first a.start is in
    let len = c.relocations_len-len.ensures in
    past_all a.architecture a.relocations.now section a.start l.first l.second l.last (omega (arith, all)) (omega (arith, c.loop-second-test.false, len)) (l.invariant.past section small)
