use Rattle.linker_rewriting.proofs.Imports.{All, Decision, IfNone, IfSome, IsEndAfter, IsMadeBy, IsWrittenDecision, Kept, None, Some, ap, arith, by_index, decision_in, drop-set-lt, inl, inr, is_note, length, length-map, map, map-set, slice_set, subst, sym, take, written_more, ℕ, ◌+◌, ◌/◌, ◌<◌, ◌∙◌, ◌≡◌, ◌≤◌}
use Rattle.linker_rewriting.proofs.Deciding.{AreDecidedTo, IsGrown, all_decided, by_rule, bytes_apart, more_decided, more_kept, overlapping}
use Rattle.linker_rewriting.proofs.rules.decide_by.Goals as goal

pub returns-in_default-clause-rejected : goal.returns-in_default-clause-rejected
returns-in_default-clause-rejected g c =
    let a = c.args in
    let k = c.loop-index.index in
    let enough : length a.relocations.now / 24 ≤ length (map decision_in c.loop-index.decisions) =
    (let e = c.relocations_len-index-end.ensures in let f = c.requires.enough in let l = c.loop-index.auto.decisions in let m = length-map c.loop-index.decisions decision_in in omega (arith, e, f, l, m)) in
    let less : k < length a.relocations.now / 24 =
    (let t = c.loop-index-test.true in let e = c.relocations_len-index-end.ensures in omega (arith, t, e)) in (
      less,
      λ n below. (c.loop-index.invariant.decided.decided n below).decides,
      subst (g.R.Rule.lacks a.rule.now a.relocations.now a.section.now k) c.relocation_in.ensures
          (subst (λ x. IfNone x (g.R.Rule.lacks a.rule.now a.relocations.now a.section.now k c.relocation_in.result)) c.in_default.is c.decide.ensures.lacking),
      enough,
    )

pub returns-in_default-end_after-clause-rejected : goal.returns-in_default-end_after-clause-rejected
returns-in_default-end_after-clause-rejected g c =
    let a = c.args in
    let k = c.loop-index.index in
    let S = g.R.Rule.start in
    let E = g.R.Rule.end in
    let D = g.R.Rule.decides a.rule.now a.relocations.now a.section.now in
    let Decides = by_index a.relocations.now D in
    let d = c.in-Some.decision in
    let end = c.loop-index.end in
    let are = c.loop-index.invariant.decided in
    let enough : length a.relocations.now / 24 ≤ length (map decision_in c.loop-index.decisions) =
    (let e = c.relocations_len-index-end.ensures in let f = c.requires.enough in let l = c.loop-index.auto.decisions in let m = length-map c.loop-index.decisions decision_in in omega (arith, e, f, l, m)) in
    let less = subst (λ n. k < n) c.relocations_len-index-end.ensures c.loop-index-test.true in
    let e = c.decide.ensures in
    let made = subst (λ x. IfSome x (IsMadeBy Decides S E a.relocations.now a.section.now k c.loop-index.is_taken)) c.in-Some.is
    (by_rule D S E a.relocations.now a.section.now k c.loop-index.is_taken c.relocation_in.result c.decide.result c.relocation_in.ensures e.decided e.there e.within) in
    inl (
      less,
      λ n below. (are.decided n below).decides,
      overlapping Decides S E a.relocations.now (map decision_in c.loop-index.decisions) end k c.loop-index.is_taken d
          made.decides are.taken_is
          (subst (λ x. IsEndAfter (S d x.offset) (E d x.offset) end None) c.relocation_in.ensures
          (subst (λ x. IsEndAfter (x.0) (x.1) end None) c.span-start.ensures
          (subst (IsEndAfter (c.span-start.result.0) (c.span-start.result.1) end) c.in_default-end_after.is c.end_after.ensures)))
          are.ends.reached,
      enough,
    )

pub loop-index-preserved : goal.loop-index-preserved
loop-index-preserved g c =
    let a = c.args in
    let k = c.loop-index.index in
    let S = g.R.Rule.start in
    let E = g.R.Rule.end in
    let D = g.R.Rule.decides a.rule.now a.relocations.now a.section.now in
    let Each = IsMadeBy (by_index a.relocations.now D) S E a.relocations.now a.section.now in
    let IsNoted : ℕ → Decision → Type 0 = λ n d. g.R.Rule.is_noted a.rule.now a.relocations.now a.section.now n (is_note d) in
    let d = c.in-Some.decision in
    let e = c.decide.ensures in
    let end = c.in-Some-end_after.new_end in
    let len = length a.relocations.now / 24 in
    let less : k < len = (let t = c.loop-index-test.true in let e = c.relocations_len-index-end.ensures in omega (arith, t, e)) in
    let within : k < length c.loop-index.decisions =
    (let t = c.loop-index-test.true in let e = c.relocations_len-index-end.ensures in let f = c.requires.enough in let l = c.loop-index.auto.decisions in omega (arith, t, e, f, l)) in
    let grow : IsGrown S E a.relocations.now k d c.loop-index.end end =
    subst (λ x. IsEndAfter (S d x.offset) (E d x.offset) c.loop-index.end (Some end)) c.relocation_in.ensures
    (subst (λ x. IsEndAfter (x.0) (x.1) c.loop-index.end (Some end)) c.span-start.ensures
    (subst (IsEndAfter (c.span-start.result.0) (c.span-start.result.1) c.loop-index.end) c.in-Some-end_after.is c.end_after.ensures)) in
    let f = decision_in in
    let xs = c.loop-index.decisions in
    let ds = map f xs in
    let x = c.from_decision-in-loop-index.result in
    let within_map : k < length ds = (let e = length-map xs f in omega (arith, e, within)) in
    let written : map f (slice_set xs k x) ≡ slice_set ds k d =
    map-set f xs k x ∙ ap (slice_set ds k) c.from_decision-in-loop-index.ensures.decision in
    record {
      decided = subst (λ l. AreDecidedTo Each IsNoted S E a.relocations.now l end c.takes_next-is_taken.result len (k + 1)) (sym written)
          (subst (λ t. AreDecidedTo Each IsNoted S E a.relocations.now (slice_set ds k d) end t len (k + 1)) (sym c.takes_next-is_taken.ensures)
          (more_decided Each IsNoted S E a.relocations.now ds c.loop-index.end end c.loop-index.is_taken len k d
          c.loop-index.invariant.decided within_map
          (subst (λ x. IfSome x (Each k c.loop-index.is_taken)) c.in-Some.is
          (by_rule D S E a.relocations.now a.section.now k c.loop-index.is_taken c.relocation_in.result c.decide.result c.relocation_in.ensures e.decided e.there e.within))
          grow));
      form = written_more IsWrittenDecision xs k x within c.from_decision-in-loop-index.ensures.form c.loop-index.invariant.form;
      others = drop-set-lt len xs k x less ∙ c.loop-index.invariant.others;
    }

pub loop-index-preserved-then-leaves : goal.loop-index-preserved-then-leaves
loop-index-preserved-then-leaves g c =
    let a = c.args in
    let k = c.loop-index.index in
    let S = g.R.Rule.start in
    let E = g.R.Rule.end in
    let Each = IsMadeBy (by_index a.relocations.now (g.R.Rule.decides a.rule.now a.relocations.now a.section.now)) S E a.relocations.now a.section.now in
    let IsNoted : ℕ → Decision → Type 0 = λ n d. g.R.Rule.is_noted a.rule.now a.relocations.now a.section.now n (is_note d) in
    let len = length a.relocations.now / 24 in
    let less : k < len = (let t = c.loop-index-test.true in let e = c.relocations_len-index-end.ensures in omega (arith, t, e)) in
    let within : k < length c.loop-index.decisions =
    (let t = c.loop-index-test.true in let e = c.relocations_len-index-end.ensures in let f = c.requires.enough in let l = c.loop-index.auto.decisions in omega (arith, t, e, f, l)) in
    let f = decision_in in
    let xs = c.loop-index.decisions in
    let ds = map f xs in
    let x = c.from_decision.result in
    let within_map : k < length ds = (let e = length-map xs f in omega (arith, e, within)) in
    let written : map f (slice_set xs k x) ≡ slice_set ds k Kept =
    map-set f xs k x ∙ ap (slice_set ds k) c.from_decision.ensures.decision in
    record {
      decided = subst (λ l. AreDecidedTo Each IsNoted S E a.relocations.now l c.loop-index.end c.loop-index.is_taken len (k + 1)) (sym written)
          (more_kept Each IsNoted S E a.relocations.now ds c.loop-index.end c.loop-index.is_taken len k
          c.loop-index.invariant.decided within_map (c.leaves.ensures.not_taken c.if-leaves.true)
          (c.leaves.ensures.left c.if-leaves.true a.section.now) (c.leaves.ensures.none c.if-leaves.true));
      form = written_more IsWrittenDecision xs k x within c.from_decision.ensures.form c.loop-index.invariant.form;
      others = drop-set-lt len xs k x less ∙ c.loop-index.invariant.others;
    }

pub decide-requires-clause-noted : goal.decide-requires-clause-noted
decide-requires-clause-noted g c =
    let a = c.args in
    let k = c.loop-index.index in
    let less = subst (λ n. k < n) c.relocations_len-index-end.ensures c.loop-index-test.true in
    subst (g.R.Rule.is_noted a.rule.now a.relocations.now a.section.now k) (ap is_note (sym c.decision_in.ensures) ∙ sym c.is_note-stays.ensures)
    (c.loop-index.invariant.decided.noted k (omega arith) less)

pub span-start-requires : goal.span-start-requires
span-start-requires g c =
    let o = c.relocation_in.result.offset in
    subst (λ x. IfSome x (λ d. (limit : ℕ) → o ≤ limit → length c.args.section.now ≤ limit → g.R.Rule.end d o ≤ limit))
    c.in-Some.is c.decide.ensures.ends 0xffffffffffffffff (omega arith) (omega arith)

pub returns-in-None-clause-form : goal.returns-in-None-clause-form
returns-in-None-clause-form g c =
    let end : c.loop-index.index ≡ length c.args.relocations.now / 24 =
    (let t = c.loop-index-test.false in let e = c.relocations_len-index-end.ensures in let n = c.loop-index.auto.index-end in omega (arith, t, e, n)) in
    subst (λ n. All IsWrittenDecision (take n c.loop-index.decisions)) end c.loop-index.invariant.form

pub first_covered-requires-clause-made : goal.first_covered-requires-clause-made
first_covered-requires-clause-made g c =
    let t = c.loop-index-test.false in
    let e = c.relocations_len-index-end.ensures in
    λ n less. (c.loop-index.invariant.decided.decided n (omega (arith, t, e, less))).made

pub first_covered-requires-clause-apart : goal.first_covered-requires-clause-apart
first_covered-requires-clause-apart g c =
    let a = c.args in
    let t = c.loop-index-test.false in
    let e = c.relocations_len-index-end.ensures in
    let are = c.loop-index.invariant.decided in
    bytes_apart (by_index a.relocations.now (g.R.Rule.decides a.rule.now a.relocations.now a.section.now)) g.R.Rule.start g.R.Rule.end a.relocations.now a.section.now
    (map decision_in c.loop-index.decisions) (length a.relocations.now / 24)
    (λ n less. are.decided n (omega (arith, t, e, less)))
    (λ i j ij less some_i some_j. are.apart i j ij (omega (arith, t, e, less)) some_i some_j)

pub returns-in-Some-first_covered-clause-rejected : goal.returns-in-Some-first_covered-clause-rejected
returns-in-Some-first_covered-clause-rejected g c =
    let t = c.loop-index-test.false in
    let e = c.relocations_len-index-end.ensures in
    let enough : length c.args.relocations.now / 24 ≤ length (map decision_in c.loop-index.decisions) =
    (let f = c.requires.enough in let l = c.loop-index.auto.decisions in let m = length-map c.loop-index.decisions decision_in in omega (arith, e, f, l, m)) in
    inr (
      λ n less. (c.loop-index.invariant.decided.decided n (omega (arith, t, e, less))).decides,
      c.in-Some-first_covered.ensures,
      enough,
    )

pub returns-in-None-clause-decided : goal.returns-in-None-clause-decided
returns-in-None-clause-decided g c =
    let a = c.args in
    let t = c.loop-index-test.false in
    let e = c.relocations_len-index-end.ensures in
    let are = c.loop-index.invariant.decided in
    all_decided (by_index a.relocations.now (g.R.Rule.decides a.rule.now a.relocations.now a.section.now)) g.R.Rule.start g.R.Rule.end a.architecture a.relocations.now a.section.now
    (map decision_in c.loop-index.decisions)
    (λ n less. are.decided n (omega (arith, t, e, less)))
    (λ i j ij less some_i some_j. are.apart i j ij (omega (arith, t, e, less)) some_i some_j) c.in-None.ensures
