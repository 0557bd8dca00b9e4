use Rattle.linker_rewriting.proofs.Imports.{IsEndAfter, None, Some, StillFits, arith, decision_in, end_by, get_or, get_or-map, length, length-map, map, number_of, of_fate, relocation_in, start_by, subst, sym, ◌/◌, ◌<◌, ◌∙◌, ◌≡◌, ◌≤◌}
use Rattle.linker_rewriting.proofs.Makeable.{more_checked, kept_checked, overlaps}
use Rattle.linker_rewriting.proofs.Deciding.{IsGrown, ends_within}
use Rattle.linker_rewriting.proofs.sections.check_decisions.Goals as goal

pub loop-index-preserved-in-Kept : goal.loop-index-preserved-in-Kept
loop-index-preserved-in-Kept c =
    let a = c.args in
    let f = decision_in in
    let numbers = map number_of a.decisions.now in
    let k = c.loop-index.index in
    kept_checked a.relocations.now a.section.now (map f a.decisions.now) numbers c.loop-index.end k c.loop-index.invariant
    (sym c.decision_in-decision.ensures ∙ c.in-Kept.is)

pub span_of-start-requires : goal.span_of-start-requires
span_of-start-requires c =
    let both = c.fits.ensures.0 c.if-not-fits.false in
    ends_within c.decision_in-decision.result c.args.section.now c.relocation_in-offset.result.offset 0xffffffffffffffff (omega arith) (omega arith) (both.0)

pub returns-in_default-end_after-clause-unmade : goal.returns-in_default-end_after-clause-unmade
returns-in_default-end_after-clause-unmade c =
    let a = c.args in
    let f = decision_in in
    let numbers = map number_of a.decisions.now in
    let k = c.loop-index.index in
    let d = c.decision_in-decision.result in
    let same = c.relocation_in-offset.ensures in
    let less = subst (λ n. k < n) c.relocations_len-len.ensures c.loop-index-test.true in
    let within : k < length a.decisions.now =
    (let t = c.loop-index-test.true in let e = c.relocations_len-len.ensures in let n = c.if-decisions-len.false in omega arith) in
    let enough : length a.relocations.now / 24 ≤ length (map f a.decisions.now) =
    (let e = c.relocations_len-len.ensures in let n = c.if-decisions-len.false in let m = length-map a.decisions.now f in omega arith) in
    let here = sym c.decision_in-decision.ensures in
    let both = c.fits.ensures.0 c.if-not-fits.false in
    let number : get_or numbers k 0 ≡ c.bytes.result = get_or-map number_of a.decisions.now k (of_fate 0) 0 within ∙ sym c.bytes.ensures in
    overlaps a.relocations.now a.section.now (map f a.decisions.now) numbers c.loop-index.end k d c.loop-index.invariant here
    (subst (λ n. StillFits d n a.section.now (relocation_in a.relocations.now k).offset) (sym number)
    (subst (λ y. StillFits d c.bytes.result a.section.now y.offset) same both))
    (subst (λ x. IsEndAfter (start_by d x.offset) (end_by d x.offset) c.loop-index.end None) same
    (subst (λ x. IsEndAfter (x.0) (x.1) c.loop-index.end None) c.span_of-start.ensures
    (subst (IsEndAfter (c.span_of-start.result.0) (c.span_of-start.result.1) c.loop-index.end) c.in_default-end_after.is c.end_after.ensures)))
    less enough

pub loop-index-preserved : goal.loop-index-preserved
loop-index-preserved c =
    let a = c.args in
    let f = decision_in in
    let numbers = map number_of a.decisions.now in
    let k = c.loop-index.index in
    let d = c.decision_in-decision.result in
    let end = c.in-Some.new_end in
    let same = c.relocation_in-offset.ensures in
    let within : k < length a.decisions.now =
    (let t = c.loop-index-test.true in let e = c.relocations_len-len.ensures in let n = c.if-decisions-len.false in omega arith) in
    let here = sym c.decision_in-decision.ensures in
    let both = c.fits.ensures.0 c.if-not-fits.false in
    let number : get_or numbers k 0 ≡ c.bytes.result = get_or-map number_of a.decisions.now k (of_fate 0) 0 within ∙ sym c.bytes.ensures in
    let grow : IsGrown start_by end_by a.relocations.now k d c.loop-index.end end =
    subst (λ x. IsEndAfter (start_by d x.offset) (end_by d x.offset) c.loop-index.end (Some end)) same
    (subst (λ x. IsEndAfter (x.0) (x.1) c.loop-index.end (Some end)) c.span_of-start.ensures
    (subst (IsEndAfter (c.span_of-start.result.0) (c.span_of-start.result.1) c.loop-index.end) c.in-Some.is c.end_after.ensures)) in
    more_checked a.relocations.now a.section.now (map f a.decisions.now) numbers c.loop-index.end end k d c.loop-index.invariant here
    (subst (λ n. StillFits d n a.section.now (relocation_in a.relocations.now k).offset) (sym number)
    (subst (λ y. StillFits d c.bytes.result a.section.now y.offset) same both))
    grow

pub returns-clause-apart : goal.returns-clause-apart
returns-clause-apart c =
    let t = c.loop-index-test.false in
    let e = c.relocations_len-len.ensures in
    λ i j ij less some_i some_j. c.loop-index.invariant.apart i j ij (omega arith) some_i some_j
