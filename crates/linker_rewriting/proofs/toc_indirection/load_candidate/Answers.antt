use Rattle.linker_rewriting.proofs.Imports.{IsCandidateWith, ap, context_of, false, link_facts, relocation_in, subst, ◌∙◌}
use Rattle.linker_rewriting.proofs.toc_indirection.load_candidate.Goals as goal

pub returns-clause-candidate : goal.returns-clause-candidate
returns-clause-candidate c =
    let a = c.args in
    let s = context_of a.words.now.context.now in
    let candidate = c.candidate_by.result in
    subst (λ r. IsCandidateWith s a.site.now.relocations.now a.site.now.section.now a.site.now.index r
    (link_facts s a.site.now.relocation (relocation_in a.words.now.relocations.now (a.load.1)) false) candidate)
    c.with_r_type.ensures
    (subst (λ facts. IsCandidateWith s a.site.now.relocations.now a.site.now.section.now a.site.now.index c.with_r_type.result facts candidate)
    (c.link_facts-facts.ensures ∙ ap (λ w. link_facts s a.site.now.relocation w false) c.relocation_in-word.ensures)
    c.candidate_by.ensures.candidate)
