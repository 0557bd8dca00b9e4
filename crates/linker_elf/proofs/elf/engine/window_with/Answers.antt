use Rattle.linker_elf.proofs.Imports.{Step, ap, arith, bit_and, bit_or, get_or, laid, take, take_all, ◌-◌, ◌^◌, ◌∙◌}
use Rattle.linker_elf.proofs.Steps.{laid_more}
use Rattle.linker_elf.proofs.elf.engine.window_with.Goals as goal

pub loop-step-preserved : goal.loop-step-preserved
loop-step-preserved c =
    let x = bit_and c.args.window (2 ^ 64 - 1 - c.args.replaced) in
    let none : Step = record { added = 0; up = 0; mask = 0 } in
    let mask = (get_or c.args.steps.now c.loop-step.step-index none).mask in
    ap (λ y. bit_or y (bit_and c.rotate_left.result mask)) c.loop-step.invariant
    ∙ ap (λ t. bit_or (laid (take c.loop-step.step-index c.args.steps.now) c.args.value x) (bit_and t mask)) c.rotate_left.ensures
    ∙ laid_more c.args.steps.now c.loop-step.step-index none c.args.value x c.loop-step-test.true

pub returns : goal.returns
returns c =
    let x = bit_and c.args.window (2 ^ 64 - 1 - c.args.replaced) in
    let all = take_all c.loop-step.step-index c.args.steps.now (let past = c.loop-step-test.false in omega arith) in
    c.loop-step.invariant ∙ ap (λ ss. laid ss c.args.value x) all
