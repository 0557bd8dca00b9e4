use Rattle.linker_riscv64.proofs.Imports.{Bool, HadTurn, IsChosen, IsInReachAt, KeepsOthers, List, ap, arith, both_ways, cases_lt, chosen_count, cond, deletions_of, false, false≢true, get_or, get_or-map, inl, inr, length, length-map, map, subst, sym, true, ℕ, ◌+◌, ◌-◌, ◌<◌, ◌∙◌, ◌≡◌, ◌⊎◌}
use Rattle.linker_riscv64.proofs.Shrunk.{drop_keeps, count_dropped}
use Rattle.linker_riscv64.proofs.shrinking.sweep.Goals as goal
use Rattle.linker_riscv64.proofs.shrinking.sweep.Goals.{then-down, else-down, then-as_choice+then-not-is_in_reach, else-as_choice, else-as_choice-via-then-as_choice+else-not-is_in_reach, else-as_choice-via-else-as_choice}

-- with one turn more the call of that turn has had it too
turn_taken : (down : Bool) (len turn i k : ℕ) → turn < len → k ≡ cond down (len - 1 - turn) turn → HadTurn down len (turn + 1) i → i < len → (i ≡ k) ⊎ HadTurn down len turn i
turn_taken true len turn i k more is had within = elim (cases_lt (i + turn) len) [ inl low ↦ inl (omega arith) | inr high ↦ inr high ]
turn_taken false len turn i k more is had within = elim (cases_lt i turn) [ inl low ↦ inr low | inr high ↦ inl (omega arith) ]

pub loop-turn-preserved : goal.loop-turn-preserved
loop-turn-preserved g c =
    let f = g.C.AsCall.call in
    let h = g.A.AsChoice.choice in
    let xs = c.args.calls.now in
    let bs = c.loop-turn.answer in
    let ds = deletions_of c.args.deltas.now in
    let k = c.if-down.index in
    let old = c.loop-turn.invariant in
    let more : c.loop-turn.turn < length xs = c.loop-turn-test.true in
    let at : k ≡ cond c.args.down (length xs - 1 - c.loop-turn.turn) c.loop-turn.turn = elim c.if-down.branch [
      | then-down w ↦ rw w.if-down.true (omega (arith, w.index-is))
      | else-down w ↦ rw w.if-down.false (omega (arith, w.index-is))
    ] in
    let within : k < length xs = elim c.if-down.branch [ then-down w ↦ omega (arith, w.index-is) | else-down w ↦ omega (arith, w.index-is) ] in
    let inside : k < length (map f xs) = omega (arith, length-map xs f) in
    let same : length (map h bs) ≡ length (map f xs) = omega (arith, c.requires.one_each, c.loop-turn.auto.answer, length-map bs h, length-map xs f) in
    let told : get_or (map h bs) k false ≡ c.as_choice.result = get_or-map h bs k c.index-answer-index.result false (omega (arith, c.requires.one_each, c.loop-turn.auto.answer)) ∙ ap h (sym c.index-answer-index.is) ∙ sym c.as_choice.ensures in
    elim c.if-as_choice.branch [
      | then-as_choice+then-not-is_in_reach w ↦
          let after = map h w.drop_call.new.answer in
          let fewer : chosen_count after < chosen_count (map h bs) =
          subst (λ (after : List Bool). chosen_count after < chosen_count (map h bs)) (sym w.drop_call.ensures.dropped) (count_dropped (map h bs) k (omega (arith, same, inside)) (told ∙ w.if-as_choice.true)) in
          rw (w.answer-is, w.runs-is, w.dropped-is) (record {
            runs = w.drop_call.ensures.runs;
            keeps = λ valid shrinkable other long reach part.
                let kept : KeepsOthers ds (map f xs) (map h bs) after =
                subst (λ (after : List Bool). KeepsOthers ds (map f xs) (map h bs) after) (sym w.drop_call.ensures.dropped)
                (drop_keeps ds (map f xs) (map h bs) k shrinkable same inside (λ reach. both_ways w.is_in_reach.result w.if-not-is_in_reach.true ((w.is_in_reach.ensures valid shrinkable).1 reach))) in
                kept other long reach (old.keeps valid shrinkable other long reach part);
            in_reach = λ valid shrinkable none i low had chosen. absurd (false≢true (sym none));
            no_more = omega (arith, fewer, old.no_more);
            fewer = λ _. omega (arith, fewer, old.no_more);
            written = λ all. w.drop_call.ensures.written (old.written all);
          })
      | else-as_choice w ↦ rw (w.answer-is, w.runs-is, w.dropped-is) (record {
        runs = old.runs;
        keeps = old.keeps;
        in_reach = λ valid shrinkable none i low had chosen. elim (turn_taken c.args.down (length xs) c.loop-turn.turn i k more at had low) [
          | inl here ↦ elim w.else-as_choice.branch [
            | else-as_choice-via-then-as_choice+else-not-is_in_reach w' ↦ subst (IsInReachAt ds (map f xs) (map h bs)) (sym here) ((w'.is_in_reach.ensures valid shrinkable).0 w'.if-not-is_in_reach.false)
            | else-as_choice-via-else-as_choice w' ↦ absurd (false≢true (sym w'.if-as_choice.false ∙ sym told ∙ subst (IsChosen (map h bs)) here chosen))
          ]
          | inr before ↦ old.in_reach valid shrinkable none i low before chosen
        ];
        no_more = old.no_more;
        fewer = old.fewer;
        written = old.written;
      })
    ]
