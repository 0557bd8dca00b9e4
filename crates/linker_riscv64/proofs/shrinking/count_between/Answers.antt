use Rattle.linker_riscv64.proofs.Imports.{ap, arith, chosen_count, drop, drop-map, false, get_or, get_or-map, length, length-map, map, sym, take, take-map, take_all, ◌-◌, ◌<◌, ◌∙◌, ◌≡◌}
use Rattle.linker_riscv64.proofs.Shrunk.{count_more}
use Rattle.linker_riscv64.proofs.shrinking.count_between.Goals as goal

pub loop-choice-preserved : goal.loop-choice-preserved
loop-choice-preserved g c =
    let h = g.A.AsChoice.choice in
    let items = take (c.args.to - c.args.from) (drop c.args.from c.args.answer.now) in
    let k = c.loop-choice.choice-index in
    let within = c.loop-choice-test.true in
    let inside : k < length (map h items) = omega (arith, length-map items h) in
    let here : get_or (map h items) k false ≡ c.as_choice.result = get_or-map h items k c.choice-item.result false within ∙ ap h (sym c.choice-item.is) ∙ sym c.as_choice.ensures in
    omega (arith, count_more (map h items) k c.as_choice.result inside here, c.loop-choice.invariant, c.from-count.ensures)

pub returns : goal.returns
returns g c =
    let h = g.A.AsChoice.choice in
    let xs = c.args.answer.now in
    let items = take (c.args.to - c.args.from) (drop c.args.from xs) in
    c.loop-choice.invariant
    ∙ ap chosen_count (take_all c.loop-choice.choice-index (map h items) (omega (arith, length-map items h)))
    ∙ ap chosen_count (sym (take-map h (c.args.to - c.args.from) (drop c.args.from xs)) ∙ ap (take (c.args.to - c.args.from)) (sym (drop-map h c.args.from xs)))
