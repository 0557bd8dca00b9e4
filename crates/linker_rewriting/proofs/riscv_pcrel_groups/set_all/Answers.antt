use Rattle.linker_rewriting.proofs.Imports.{All, IsWrittenDecision, Kept, ap, arith, cases_lt, decision_at, decision_in, drop-set-lt, get_or-set_other, get_or-set_same, inl, inr, length, length-map, map, map-set, slice_set, subst, take, written_more, ◌/◌, ◌<◌, ◌∙◌, ◌≡◌}
use Rattle.linker_rewriting.proofs.riscv_pcrel_groups.set_all.Goals as goal

pub loop-index-preserved : goal.loop-index-preserved
loop-index-preserved c =
    let f = decision_in in
    let xs = c.loop-index.decisions in
    let ds = map f xs in
    let k = c.loop-index.index in
    let d = c.args.decision in
    let less : k < length c.args.relocations.now / 24 =
    (let t = c.loop-index-test.true in let n = c.relocations_len-index-end.ensures in omega arith) in
    let within : k < length ds =
    (let e = length-map xs f in let r = c.requires in let l = c.loop-index.auto.decisions in omega (arith, e, less, r, l)) in
    let written : map f (slice_set xs k c.from_decision-made.result) ≡ slice_set ds k d =
    map-set f xs k c.from_decision-made.result ∙ ap (slice_set ds k) c.from_decision-made.ensures.decision in
    record {
      set = λ n below. ap (λ l. decision_at l n) written ∙ elim (cases_lt n k) [
        | inl before ↦ get_or-set_other ds k n d Kept (λ e. absurd (omega (arith, e, before))) ∙ c.loop-index.invariant.set n before
        | inr from ↦
            let here : k ≡ n = omega (arith, from, below) in
            subst (λ m. decision_at (slice_set ds k d) m ≡ d) here (get_or-set_same ds k d Kept within)
      ];
      form = written_more IsWrittenDecision xs k c.from_decision-made.result
          (let r = c.requires in let l = c.loop-index.auto.decisions in omega (arith, less, r, l))
          c.from_decision-made.ensures.form c.loop-index.invariant.form;
      others = drop-set-lt (length c.args.relocations.now / 24) xs k c.from_decision-made.result less ∙ c.loop-index.invariant.others;
    }

pub returns-clause-form : goal.returns-clause-form
returns-clause-form c =
    let end : c.loop-index.index ≡ length c.args.relocations.now / 24 =
    (let t = c.loop-index-test.false in let e = c.relocations_len-index-end.ensures in let n = c.loop-index.auto.index-end in omega arith) in
    subst (λ n. All IsWrittenDecision (take n c.loop-index.decisions)) end c.loop-index.invariant.form
