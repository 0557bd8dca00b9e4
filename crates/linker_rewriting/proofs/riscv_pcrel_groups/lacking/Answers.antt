use Rattle.linker_rewriting.proofs.Imports.{IsHighOf, IsInLabel, IsLabelCandidate, context_of, subst}
use Rattle.linker_rewriting.proofs.LabelGroups.{unlabelled_lacks, rewritten_lacks}
use Rattle.linker_rewriting.proofs.riscv_pcrel_groups.lacking.Goals as goal

pub returns-then-not-is_in_label-clause-lacking : goal.returns-then-not-is_in_label-clause-lacking
returns-then-not-is_in_label-clause-lacking c =
    let a = c.args in
    λ ascending. unlabelled_lacks (context_of a.context.now)
    a.site.now.relocations.now a.site.now.section.now a.site.now.index a.site.now.relocation
    (subst (IsInLabel a.context.now.architecture a.context.now.phase a.site.now.relocation.r_type) c.if-not-is_in_label.true c.is_in_label.ensures)

pub returns-in-Some-clause-lacking : goal.returns-in-Some-clause-lacking
returns-in-Some-clause-lacking c =
    let a = c.args in
    λ ascending. rewritten_lacks (context_of a.context.now)
    a.site.now.relocations.now a.site.now.section.now a.site.now.index a.site.now.relocation c.in_ok-high.high _
    (subst (IsHighOf a.context.now.phase a.context.now.addresses.now a.context.now.values.now a.site.now.relocations.now a.site.now.relocation) c.in_ok-high.was
    (c.high_of.ensures.high ascending))
    (subst (IsLabelCandidate (context_of a.context.now) a.site.now.relocations.now a.site.now.section.now a.site.now.index a.site.now.relocation c.in_ok-high.high)
    c.in-Some.is c.label_candidate.ensures.candidate)
