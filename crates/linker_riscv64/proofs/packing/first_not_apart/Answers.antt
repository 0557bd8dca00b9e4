use Rattle.linker_riscv64.proofs.Imports.{ap, arith, get_or, get_or-map, length, length-map, map, sym, ◌-◌, ◌<◌, ◌∙◌, ◌≡◌}
use Rattle.linker_riscv64.proofs.Packed.{apart_more, apart_taken, not_apart}
use Rattle.linker_riscv64.proofs.packing.first_not_apart.Goals as goal

pub loop-index-init : goal.loop-index-init
loop-index-init g c = λ i j d low high. absurd (omega arith)

pub loop-index-preserved : goal.loop-index-preserved
loop-index-preserved g c =
    let f = g.C.AsCall.call in
    let xs = c.args.calls.now in
    let k = c.loop-index.index in
    let within = c.loop-index-test.true in
    let inside : k < length (map f xs) = omega (arith, length-map xs f) in
    let here : get_or (map f xs) k (0, 0) ≡ c.as_call-site.result = get_or-map f xs k c.index-calls-index-in-loop-index.result (0, 0) within ∙ ap f (sym c.index-calls-index-in-loop-index.is) ∙ sym c.as_call-site.ensures in
    let before : get_or (map f xs) (k - 1) (0, 0) ≡ c.as_call-before.result = get_or-map f xs (k - 1) c.index-calls-index.result (0, 0) (omega arith) ∙ ap f (sym c.index-calls-index.is) ∙ sym c.as_call-before.ensures in
    apart_more (map f xs) k c.as_call-before.result c.as_call-site.result (omega arith) inside c.loop-index.invariant before here (omega (arith, c.saturating_sub.ensures))

pub returns-then-saturating_sub-lt4 : goal.returns-then-saturating_sub-lt4
returns-then-saturating_sub-lt4 g c =
    let f = g.C.AsCall.call in
    let xs = c.args.calls.now in
    let k = c.loop-index.index in
    let within = c.loop-index-test.true in
    let inside : k < length (map f xs) = omega (arith, length-map xs f) in
    let here : get_or (map f xs) k (0, 0) ≡ c.as_call-site.result = get_or-map f xs k c.index-calls-index-in-loop-index.result (0, 0) within ∙ ap f (sym c.index-calls-index-in-loop-index.is) ∙ sym c.as_call-site.ensures in
    let before : get_or (map f xs) (k - 1) (0, 0) ≡ c.as_call-before.result = get_or-map f xs (k - 1) c.index-calls-index.result (0, 0) (omega arith) ∙ ap f (sym c.index-calls-index.is) ∙ sym c.as_call-before.ensures in
    record {
      within = inside;
      before = apart_taken (map f xs) k c.loop-index.invariant;
      here = not_apart (map f xs) k c.as_call-before.result c.as_call-site.result (omega arith) inside before here (omega (arith, c.saturating_sub.ensures));
    }

pub returns : goal.returns
returns g c = λ i j d low high. c.loop-index.invariant i j d low (omega (arith, length-map c.args.calls.now g.C.AsCall.call))
