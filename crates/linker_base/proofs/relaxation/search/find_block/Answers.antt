use Rattle.linker_base.proofs.Imports.{arith, cases_lt, inl, inr, refl, ◌-◌, ◌∙◌}
use Rattle.linker_base.proofs.Halving.{digits_left, heads_narrowed, block_narrowed}
use Rattle.linker_base.proofs.relaxation.search.find_block.Goals as goal

pub loop-count-preserved : goal.loop-count-preserved
loop-count-preserved g c =
    let at = c.loop-count.invariant in
    let step = c.halve-last.ensures in
    record {
      same = step.probes.same ∙ at.same;
      some = omega arith;
      room = omega (arith, at.room, step.probes.counted);
      within = omega (arith, at.within, step.end);
      narrowed = λ given. step.narrowed _ _ (omega arith) (omega arith) (at.narrowed given);
      spent = λ digits few.
          let can = at.spent digits few in
          let left = digits_left 1 can.0 c.loop-count.count (omega arith) can.1 in
          (can.0 - 1, omega (arith, left.1, can.1), omega (arith, left.0, can.2, step.probes.counted));
    }

pub returns-clause-narrowed : goal.returns-clause-narrowed
returns-clause-narrowed g c parted agree passes =
    let s = (g.P.Probe.state c.args.probe.now).subject in
    let at = c.loop-count.invariant in
    let all = at.narrowed (rw c.requires.all (heads_narrowed s c.args.test parted agree passes)) in
    let block = c.narrow-block.ensures.narrowed _ 1 (omega arith) (omega (arith, at.some)) (c.narrow-some.ensures.narrowed _ _ (omega arith) refl all) in
    let same = c.narrow-block.ensures.probes.same ∙ c.narrow-some.ensures.probes.same ∙ at.same in
    block_narrowed s c.args.test parted agree c.narrow-block.result c.min.result 64 (omega (arith, c.requires.all, at.within, at.some, c.narrow-some.ensures.end, c.narrow-block.ensures.end)) (rw same at block) (omega (arith, c.min.ensures)) (λ low. omega (arith, c.requires.all, c.min.ensures, c.requires.many))

pub returns-clause-spent : goal.returns-clause-spent
returns-clause-spent g c digits few =
    let can = c.loop-count.invariant.spent digits (omega arith) in
    elim (cases_lt 64 c.loop-count.count) [
      | inr short ↦ omega (arith, can.2, c.narrow-some.ensures.spent 0 (omega arith), c.narrow-block.ensures.spent can.0 (omega (arith, can.1)))
      | inl long ↦
          let left = digits_left 6 can.0 c.loop-count.count long can.1 in
          omega (arith, can.2, left.0, c.narrow-some.ensures.spent (can.0 - 6) (omega (arith, left.1, can.1)), c.narrow-block.ensures.probes.counted)
    ]
