use Rattle.linker_rewriting.proofs.Imports.{All, CanBeMade, CanRewrite, IsKeptDecision, IsWrittenDecision, KeepsBytes, Kept, Rewritten, ap, arith, decision_at, decision_in, get_or, get_or-map, is_kept, length, map, number_of, of_fate, relaxation_rewrite, relocation_in, subst, sym, take, window_number, window_of_rewrite, ◌/◌, ◌<◌, ◌∙◌, ◌≡◌}
use Rattle.linker_rewriting.proofs.KeptBytes.{keeps_none, written_at, replaced, passed, unchanged_at}
use Rattle.linker_rewriting.proofs.sections.keep_bytes.Goals as goal

pub loop-index-preserved : goal.loop-index-preserved
loop-index-preserved c =
    let a = c.args in
    let f = decision_in in
    let h = number_of in
    let k = c.loop-index.index in
    let now = c.loop-index.decisions in
    let d = of_fate 0 in
    let x = c.from_choice.result in
    let choice = c.in-Rewritten.choice in
    let less = subst (λ n. k < n) c.relocations_len-index-end.ensures c.loop-index-test.true in
    let within : k < length now = (let n = c.requires.enough in let l = c.loop-index.auto.decisions in omega (arith, n, l, less)) in
    let held : f (get_or now k d) ≡ c.decision_in.result = sym (c.decision_in.ensures ∙ get_or-map f now k d Kept within) in
    let keeps : KeepsBytes (Rewritten choice) (h x) a.section.now (relocation_in a.relocations.now k).offset =
    c.from_choice.ensures.bytes ∙ (c.window_number-number.ensures
    ∙ ap (λ r. window_number (window_of_rewrite (relaxation_rewrite choice.kind)) a.section.now r.offset) c.relocation_in-offset.ensures) in
    replaced f h IsKeptDecision a.relocations.now a.section.now a.decisions.now now k x d c.loop-index.invariant within
    (c.from_choice.ensures.decision ∙ sym (held ∙ c.in-Rewritten.is))
    (subst (λ y. KeepsBytes y (h x) a.section.now (relocation_in a.relocations.now k).offset) (sym c.from_choice.ensures.decision) keeps)
    c.from_choice.ensures.form

pub loop-index-preserved-in_default : goal.loop-index-preserved-in_default
loop-index-preserved-in_default c =
    let a = c.args in
    let f = decision_in in
    let h = number_of in
    let IsKept = IsKeptDecision in
    let k = c.loop-index.index in
    let now = c.loop-index.decisions in
    let d = of_fate 0 in
    let less = subst (λ n. k < n) c.relocations_len-index-end.ensures c.loop-index-test.true in
    let within : k < length now = (let n = c.requires.enough in let l = c.loop-index.auto.decisions in omega (arith, n, l, less)) in
    let held : f (get_or now k d) ≡ c.decision_in.result = sym (c.decision_in.ensures ∙ get_or-map f now k d Kept within) in
    passed f h IsKept a.relocations.now a.section.now a.decisions.now now k d c.loop-index.invariant within
    (keeps_none (f (get_or now k d)) (h (get_or now k d)) a.section.now (relocation_in a.relocations.now k).offset
    (λ chosen e. c.in_default.not-Rewritten chosen (sym held ∙ e)))
    (is_kept (get_or now k d)
    (subst IsWrittenDecision (sym (unchanged_at f h IsKept a.relocations.now a.section.now a.decisions.now now k d c.loop-index.invariant))
    (written_at IsWrittenDecision a.decisions.now (length a.relocations.now / 24) k d c.requires.form less c.requires.enough)))

pub window_number-number-requires : goal.window_number-number-requires
window_number-number-requires c =
    let a = c.args in
    let f = decision_in in
    let k = c.loop-index.index in
    let now = c.loop-index.decisions in
    let d = of_fate 0 in
    let choice = c.in-Rewritten.choice in
    let less = subst (λ n. k < n) c.relocations_len-index-end.ensures c.loop-index-test.true in
    let within : k < length now = (let n = c.requires.enough in let l = c.loop-index.auto.decisions in omega (arith, n, l, less)) in
    let held : f (get_or now k d) ≡ c.decision_in.result = sym (c.decision_in.ensures ∙ get_or-map f now k d Kept within) in
    let is : decision_at (map f a.decisions.now) k ≡ Rewritten choice =
    ap (λ ds. decision_at ds k) (sym c.loop-index.invariant.decisions)
    ∙ (get_or-map f now k d Kept within ∙ (held ∙ c.in-Rewritten.is)) in
    let can = subst (λ y. CanBeMade y a.section.now (relocation_in a.relocations.now k).offset) is (c.requires.made k less) in
    subst (λ r. CanRewrite (relaxation_rewrite choice.kind) a.section.now r.offset) (sym c.relocation_in-offset.ensures) (can.0)

pub returns-clause-form : goal.returns-clause-form
returns-clause-form c =
    let end : c.loop-index.index ≡ length c.args.relocations.now / 24 =
    (let t = c.loop-index-test.false in let e = c.relocations_len-index-end.ensures in let n = c.loop-index.auto.index-end in omega arith) in
    subst (λ n. All IsKeptDecision (take n c.loop-index.decisions)) end c.loop-index.invariant.form
