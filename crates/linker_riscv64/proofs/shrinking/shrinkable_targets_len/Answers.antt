use Rattle.linker_riscv64.proofs.Imports.{AreClear, ap, arith, get_or, get_or-map, length, length-map, map, max, min, subst, sym, ℕ, ◌<◌, ◌∙◌, ◌≡◌, ◌≤◌}
use Rattle.linker_riscv64.proofs.Shrunk.{clear_more, clear_on, hit_more, targets_first, not_targets}
use Rattle.linker_riscv64.proofs.shrinking.shrinkable_targets_len.Goals as goal
use Rattle.linker_riscv64.proofs.shrinking.shrinkable_targets_len.Goals.{in-Some, in_default}

pub loop-index-preserved : goal.loop-index-preserved
loop-index-preserved g c =
    let f = g.C.AsCall.call in
    let xs = c.args.calls.now in
    let k = c.loop-index.index in
    let old = c.loop-index.invariant in
    let within = c.loop-index-test.true in
    let same = length-map xs f in
    let inside : k < length (map f xs) = omega arith in
    let here : get_or (map f xs) k (0, 0) ≡ c.as_call-target.result = get_or-map f xs k c.index-calls-index.result (0, 0) within ∙ ap f (sym c.index-calls-index.is) ∙ sym c.as_call-target.ensures in
    let site = c.as_call-target.result.0 in
    let target = c.as_call-target.result.1 in
    elim c.match-call_around.branch [
      | in-Some w ↦
          let bound : c.match-call_around.first ≤ length xs = omega (arith, w.first-is, w.min-first.ensures, old.within) in
          let other : w.in-Some.other < length (map f xs) = omega (arith, w.in-Some.ensures.within) in
          let next : c.match-call_around.first ≡ min c.loop-index.first (max k w.in-Some.other) = omega (arith, w.first-is, w.min-first.ensures, w.max.ensures) in
          record {
            within = bound;
            clear = λ apart. clear_more (map f xs) k c.loop-index.first site target w.in-Some.other c.match-call_around.first apart inside here other
                (w.in-Some.ensures.around apart) (omega (arith, old.within)) next (old.clear apart);
            found = λ apart low. hit_more (map f xs) k c.loop-index.first site target w.in-Some.other c.match-call_around.first inside here
                (w.in-Some.ensures.around apart) next (omega arith) (λ below. old.found apart (omega arith));
          }
      | in_default w ↦
          let stays : c.loop-index.first ≡ c.match-call_around.first = omega (arith, w.first-is) in
          rw (← stays) (record {
            within = old.within;
            clear = λ apart. clear_on (map f xs) k c.loop-index.first site target here (λ j low. w.in_default.ensures.around apart j (omega arith)) (omega (arith, old.within)) (old.clear apart);
            found = old.found;
          })
    ]

pub returns-clause-targets : goal.returns-clause-targets
returns-clause-targets g c = λ apart.
    let f = g.C.AsCall.call in
    let xs = c.args.calls.now in
    let same = length-map xs f in
    let all : c.loop-index.index ≡ length (map f xs) = omega arith in
    targets_first (map f xs) c.loop-index.first (omega (arith, c.loop-index.invariant.within)) (subst (λ (n : ℕ). AreClear (map f xs) n c.loop-index.first) all (c.loop-index.invariant.clear apart))

pub returns-clause-next : goal.returns-clause-next
returns-clause-next g c = λ apart low.
    let f = g.C.AsCall.call in
    let xs = c.args.calls.now in
    not_targets (map f xs) c.loop-index.first (omega (arith, length-map xs f)) (c.loop-index.invariant.found apart low)
