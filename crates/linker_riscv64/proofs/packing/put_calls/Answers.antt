use Rattle.linker_riscv64.proofs.Imports.{CanJump, IsRejected, ap, arith, deletions_of, get_or, get_or-map, get_or-take, get_or_default, length, length-map, length-take, map, subst, sym, ℕ, ◌<◌, ◌∙◌, ◌≡◌}
use Rattle.linker_riscv64.proofs.Packed.{calls_more, calls_start, calls_step, calls_end}
use Rattle.linker_riscv64.proofs.packing.put_calls.Goals as goal

pub loop-index-init : goal.loop-index-init
loop-index-init g c = record {
  can = λ valid i call low. absurd (omega arith);
  put = λ valid room apart filled.
      calls_start c.args.link (deletions_of c.args.deltas.now.deltas) c.args.section.now (map g.C.AsCall.call c.args.calls.now) c.args.packed.now filled;
}

pub returns-in-Err-clause-rejected : goal.returns-in-Err-clause-rejected
returns-in-Err-clause-rejected g c = λ valid.
    let f = g.C.AsCall.call in
    let xs = c.args.calls.now in
    let k = c.loop-index.index in
    let can = CanJump c.args.link (deletions_of c.args.deltas.now.deltas) c.args.section.now in
    let within = c.loop-index-test.true in
    let inside : k < length (map f xs) = omega (arith, length-map xs f) in
    let here : get_or (map f xs) k (0, 0) ≡ c.as_call-site.result = get_or-map f xs k c.index-calls-index.result (0, 0) within ∙ ap f (sym c.index-calls-index.is) ∙ sym c.as_call-site.ensures in
    record {
      within = inside;
      before = λ i d low.
          let short : i < k = omega (arith, length-take k (map f xs)) in
          subst can (sym (get_or-take k (map f xs) i d short)) (c.loop-index.invariant.can valid i d short);
      here = λ call. subst (λ (j : ℕ × ℕ). IsRejected c.args.link (deletions_of c.args.deltas.now.deltas) c.args.section.now j c.in-Err.error) (sym (get_or_default (map f xs) k call (0, 0) inside ∙ here)) (c.in-Err.ensures.rejected valid);
    }

pub loop-index-preserved : goal.loop-index-preserved
loop-index-preserved g c =
    let f = g.C.AsCall.call in
    let xs = c.args.calls.now in
    let k = c.loop-index.index in
    let ds = deletions_of c.args.deltas.now.deltas in
    let s = c.args.section.now in
    let within = c.loop-index-test.true in
    let inside : k < length (map f xs) = omega (arith, length-map xs f) in
    let here : get_or (map f xs) k (0, 0) ≡ c.as_call-site.result = get_or-map f xs k c.index-calls-index.result (0, 0) within ∙ ap f (sym c.index-calls-index.is) ∙ sym c.as_call-site.ensures in
    record {
      can = λ valid. calls_more (CanJump c.args.link ds s) (map f xs) k c.as_call-site.result inside (c.loop-index.invariant.can valid) here (c.in_default.ensures.accepted valid);
      put = λ valid room apart filled.
          let held = sym c.put_call.auto.packed ∙ room in
          calls_step c.args.link ds s (map f xs) k c.loop-index.packed c.put_call.new.packed c.as_call-site.result inside here apart
          (calls_more (CanJump c.args.link ds s) (map f xs) k c.as_call-site.result inside (c.loop-index.invariant.can valid) here (c.in_default.ensures.accepted valid))
          (c.loop-index.invariant.put valid held apart filled)
          (c.in_default.ensures.jumps valid held);
    }

pub returns-clause-accepted : goal.returns-clause-accepted
returns-clause-accepted g c = λ valid k d low. c.loop-index.invariant.can valid k d (omega (arith, length-map c.args.calls.now g.C.AsCall.call))

pub returns-clause-packed : goal.returns-clause-packed
returns-clause-packed g c = λ valid room apart filled.
    let held = c.loop-index.auto.packed ∙ room in
    calls_end c.args.link (deletions_of c.args.deltas.now.deltas) c.args.section.now (map g.C.AsCall.call c.args.calls.now) c.loop-index.index c.loop-index.packed
    (omega (arith, length-map c.args.calls.now g.C.AsCall.call)) held (c.loop-index.invariant.put valid held apart filled)
