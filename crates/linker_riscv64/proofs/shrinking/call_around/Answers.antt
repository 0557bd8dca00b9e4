use Rattle.linker_riscv64.proofs.Imports.{ap, arith, get_or, get_or-map, length, length-map, map, subst, sym, ℕ, ◌+◌, ◌-◌, ◌<◌, ◌∙◌, ◌≡◌, ◌≤◌}
use Rattle.linker_riscv64.proofs.Shrunk.{none_around}
use Rattle.linker_riscv64.proofs.shrinking.call_around.Goals as goal

pub returns-else-offset-site-lt8-clause-around : goal.returns-else-offset-site-lt8-clause-around
returns-else-offset-site-lt8-clause-around g c = λ apart.
    let f = g.C.AsCall.call in
    let xs = c.args.calls.now in
    let k = c.in-Some.last in
    let split = c.calls_below.result in
    let within : k < length xs = omega (arith, c.calls_below.ensures.within, c.in-Some.ensures) in
    let here : get_or (map f xs) k (0, 0) ≡ c.as_call-site.result = get_or-map f xs k c.index-calls-last.result (0, 0) within ∙ ap f (sym c.index-calls-last.is) ∙ sym c.as_call-site.ensures in
    let below : c.as_call-site.result.0 + 4 < c.args.offset = subst (λ (call : ℕ × ℕ). call.0 + 4 < c.args.offset) here ((c.calls_below.ensures.split apart).below k (0, 0) (omega (arith, c.in-Some.ensures)) (omega (arith, length-map xs f))) in
    let past : c.as_call-site.result.0 + 8 ≤ c.args.offset = omega arith in
    λ at low. none_around (map f xs) c.args.offset split apart (omega (arith, c.calls_below.ensures.within, length-map xs f)) (c.calls_below.ensures.split apart)
    (λ _. let last : split - 1 ≡ k = omega (arith, c.in-Some.ensures) in rw (last, here) past) at (omega (arith, length-map xs f))

pub returns-in_default-clause-around : goal.returns-in_default-clause-around
returns-in_default-clause-around g c = λ apart.
    let f = g.C.AsCall.call in
    let xs = c.args.calls.now in
    let split = c.calls_below.result in
    let none : split < 1 = omega (arith, c.in_default.ensures) in
    λ at low. none_around (map f xs) c.args.offset split apart (omega (arith, c.calls_below.ensures.within, length-map xs f)) (c.calls_below.ensures.split apart)
    (λ some. absurd (omega arith)) at (omega (arith, length-map xs f))
