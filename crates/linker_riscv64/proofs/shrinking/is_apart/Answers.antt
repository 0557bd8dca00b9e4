use Rattle.linker_riscv64.proofs.Imports.{ap, arith, get_or, get_or-map, get_or_default, le-leb, leb-true, length, length-map, map, sym, ◌-◌, ◌<◌, ◌∙◌, ◌≡◌}
use Rattle.linker_riscv64.proofs.shrinking.is_apart.Goals as goal

pub returns : goal.returns
returns g c =
    let f = g.C.AsCall.call in
    let xs = c.args.calls.now in
    let k = c.args.index in
    let j = c.in-Some.before in
    let inside : k < length (map f xs) = omega (arith, c.requires, length-map xs f) in
    let lower : j < length (map f xs) = omega (arith, c.in-Some.ensures, length-map xs f) in
    let at : get_or (map f xs) k (0, 0) ≡ c.as_call-site.result =
    get_or-map f xs k c.index-calls-index.result (0, 0) c.requires ∙ ap f (sym c.index-calls-index.is) ∙ sym c.as_call-site.ensures in
    let before : get_or (map f xs) j (0, 0) ≡ c.as_call-site_before.result =
    get_or-map f xs j c.index-calls-before.result (0, 0) (omega (arith, c.requires, c.in-Some.ensures)) ∙ ap f (sym c.index-calls-before.is) ∙ sym c.as_call-site_before.ensures in
    let previous : k - 1 ≡ j = omega (arith, c.in-Some.ensures) in (
      λ t call some. rw (previous, get_or_default (map f xs) j call (0, 0) lower, get_or_default (map f xs) k call (0, 0) inside, before, at) (omega (arith, c.saturating_sub.ensures, leb-true 8 c.saturating_sub.result t)),
      λ apart. le-leb 8 c.saturating_sub.result (omega (arith, c.saturating_sub.ensures, rw (previous, before, at) at (apart (0, 0) (omega (arith, c.in-Some.ensures))))),
    )
