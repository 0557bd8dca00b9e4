use Rattle.linker_riscv64.proofs.Imports.{ap, arith, both_ways, deletions_of, false, get_or, get_or-map, length, length-map, map, rules, sym, true, ◌<◌, ◌∙◌, ◌≡◌}
use Rattle.linker_riscv64.proofs.Shrunk.{sites_more, apart_there, kept_there, beside_there}
use Rattle.linker_riscv64.proofs.shrinking.shrinkable_sites_len.Goals as goal
use Rattle.linker_riscv64.proofs.shrinking.shrinkable_sites_len.Goals.{then-not-is_apart-via-then-not-is_apart, then-not-is_apart-via-else-not-is_apart+then-not-is_shrinkable_site}

pub returns-then-not-is_apart-clause-next : goal.returns-then-not-is_apart-clause-next
returns-then-not-is_apart-clause-next g c = λ valid _ all.
    let f = g.C.AsCall.call in
    let xs = c.args.calls.now in
    let k = c.loop-index.index in
    let ds = deletions_of c.args.deltas.now in
    let within = c.loop-index-test.true in
    let inside : k < length (map f xs) = omega (arith, length-map xs f) in
    let here : get_or (map f xs) k (0, 0) ≡ c.as_call-site.result = get_or-map f xs k c.index-calls-index.result (0, 0) within ∙ ap f (sym c.index-calls-index.is) ∙ sym c.as_call-site.ensures in
    let site = c.as_call-site.result.0 in
    let target = c.as_call-site.result.1 in
    elim c.then-not-is_apart.branch [
      | then-not-is_apart-via-then-not-is_apart w ↦
          let not_apart : c.is_apart.result ≡ false = search rules in
          both_ways c.is_apart.result not_apart (c.is_apart.ensures.1 (apart_there ds (map f xs) k site target inside here all))
      | then-not-is_apart-via-else-not-is_apart+then-not-is_shrinkable_site w ↦
          let not_placed : w.is_shrinkable_site.result ≡ false = search rules in
          both_ways w.is_shrinkable_site.result not_placed ((w.is_shrinkable_site.ensures valid).1 (kept_there ds (map f xs) k site target inside here all, beside_there ds (map f xs) k site target inside here all))
    ]

pub loop-index-preserved : goal.loop-index-preserved
loop-index-preserved g c = λ valid.
    let f = g.C.AsCall.call in
    let xs = c.args.calls.now in
    let k = c.loop-index.index in
    let ds = deletions_of c.args.deltas.now in
    let within = c.loop-index-test.true in
    let inside : k < length (map f xs) = omega (arith, length-map xs f) in
    let here : get_or (map f xs) k (0, 0) ≡ c.as_call-site.result = get_or-map f xs k c.index-calls-index.result (0, 0) within ∙ ap f (sym c.index-calls-index.is) ∙ sym c.as_call-site.ensures in
    let apart : c.is_apart.result ≡ true = search rules in
    let placed : c.is_shrinkable_site.result ≡ true = search rules in
    let parts = (c.is_shrinkable_site.ensures valid).0 placed in
    sites_more ds (map f xs) k c.as_call-site.result.0 c.as_call-site.result.1 inside here (c.loop-index.invariant valid) (c.is_apart.ensures.0 apart) parts.0 parts.1
