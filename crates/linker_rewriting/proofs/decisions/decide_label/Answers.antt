use Rattle.linker_rewriting.proofs.Imports.{Decision, IfSome, IsHighOf, IsLabelCandidate, IsLabelNote, IsThere, Rewritten, context_of, inl, refl, subst, sym}
use Rattle.linker_rewriting.proofs.LabelGroups.{rewritten_label, never_kept, either_label, noted_high}
use Rattle.linker_rewriting.proofs.decisions.decide_label.Goals as goal

pub returns-in-Some-label_candidate-clause-decision : goal.returns-in-Some-label_candidate-clause-decision
returns-in-Some-label_candidate-clause-decision c =
    let a = c.args in
    rewritten_label (context_of a.context.now) a.site.now.relocations.now a.site.now.section.now a.site.now.index a.site.now.relocation c.in-Some.high
    c.in-Some-label_candidate.chosen c.relocation_in-part.result c.label_decision.result
    (subst (IsLabelNote (context_of a.context.now) a.site.now.relocations.now a.site.now.section.now a.site.now.relocation) c.if-stays.false c.requires.noted)
    (λ ascending. subst (IsHighOf a.context.now.phase a.context.now.addresses.now a.context.now.values.now a.site.now.relocations.now a.site.now.relocation) c.in-Some.is (c.high_of.ensures.high ascending))
    (subst (IsLabelCandidate (context_of a.context.now) a.site.now.relocations.now a.site.now.section.now a.site.now.index a.site.now.relocation c.in-Some.high)
    c.in-Some-label_candidate.is c.label_candidate.ensures.candidate)
    c.relocation_in-part.ensures c.label_decision.ensures

pub returns-in-Some-label_candidate-clause-there : goal.returns-in-Some-label_candidate-clause-there
returns-in-Some-label_candidate-clause-there c =
    let a = c.args in
    let There : Decision → Type 0 = λ d. IsThere d a.site.now.section.now a.site.now.relocation.offset in
    let there : There (Rewritten c.in-Some-label_candidate.chosen) =
    subst (λ x. IfSome x (λ y. There (Rewritten y))) c.in-Some-label_candidate.is c.label_candidate.ensures.there in
    subst There (sym c.label_decision.ensures)
    (either_label There a.context.now.phase c.in-Some-label_candidate.chosen c.relocation_in-part.result there there)

pub returns-in-None-clause-decision : goal.returns-in-None-clause-decision
returns-in-None-clause-decision c =
    let a = c.args in
    absurd (never_kept (context_of a.context.now) a.site.now.relocations.now a.site.now.section.now a.site.now.index a.site.now.relocation c.in-Some.high
    (subst (IsLabelNote (context_of a.context.now) a.site.now.relocations.now a.site.now.section.now a.site.now.relocation) c.if-stays.false c.requires.noted)
    (λ ascending. subst (IsHighOf a.context.now.phase a.context.now.addresses.now a.context.now.values.now a.site.now.relocations.now a.site.now.relocation) c.in-Some.is (c.high_of.ensures.high ascending))
    (subst (IsLabelCandidate (context_of a.context.now) a.site.now.relocations.now a.site.now.section.now a.site.now.index a.site.now.relocation c.in-Some.high)
    c.in-None.is c.label_candidate.ensures.candidate)
    c.requires.there c.requires.within c.requires.in_label)

pub returns-then-stays-clause-decision : goal.returns-then-stays-clause-decision
returns-then-stays-clause-decision c =
    let a = c.args in
    inl (
      subst (IsLabelNote (context_of a.context.now) a.site.now.relocations.now a.site.now.section.now a.site.now.relocation) c.if-stays.true c.requires.noted,
      refl,
    )

pub returns-in_default-clause-decision : goal.returns-in_default-clause-decision
returns-in_default-clause-decision c =
    let a = c.args in
    absurd (noted_high (context_of a.context.now) a.site.now.relocations.now a.site.now.section.now a.site.now.relocation
    (subst (IsLabelNote (context_of a.context.now) a.site.now.relocations.now a.site.now.section.now a.site.now.relocation) c.if-stays.false c.requires.noted)
    (λ ascending. c.in_default.ensures.high ascending))
