use Rattle.linker_elf.proofs.Imports.{ap, arith, bit_or, take_all, ◌∙◌}
use Rattle.linker_elf.proofs.Steps.{taken, taken_more, read_by}
use Rattle.linker_elf.proofs.elf.engine.number_in.Goals as goal

pub loop-step-preserved : goal.loop-step-preserved
loop-step-preserved c =
    ap (λ y. bit_or y c.rotate_right-number.result) c.loop-step.invariant
    ∙ ap (bit_or _) c.rotate_right-number.ensures
    ∙ taken_more c.args.steps.now c.loop-step.step-index _ c.args.window 0 c.loop-step-test.true

pub returns : goal.returns
returns c = λ places h.
    let all = take_all c.loop-step.step-index c.args.steps.now (let past = c.loop-step-test.false in omega arith) in
    c.loop-step.invariant ∙ ap (λ ss. taken ss c.args.window 0) all
    ∙ read_by c.args.window c.ranges.window.fits c.args.steps.now places h
