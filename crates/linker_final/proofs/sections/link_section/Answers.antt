use Rattle.linker_final.proofs.Imports.{refl, rules}
use Rattle.linker_final.proofs.SectionRuns.{has_rewritten, linked_by_slices as is_linked}
use Rattle.linker_final.proofs.sections.link_section.Goals as goal

pub returns-in-Err-clause-cause : goal.returns-in-Err-clause-cause
returns-in-Err-clause-cause c = (
  c.in-Err.ensures.rejected,
  (c.in-Err.ensures.entries, c.in-Err.ensures.section),
)

pub returns-in-Ok-clause-linked : goal.returns-in-Ok-clause-linked
returns-in-Ok-clause-linked c = (
  c.rewrite_section.new.section,
  is_linked _ (has_rewritten _ _ _ _ _ _ _ c.in_default.ensures.rewritten (search rules) (search rules)) (refl, refl)
      c.in-Ok.ensures.fields (λ i. search rules) (λ i. search rules) (λ i. search rules),
)

pub returns-in-Err-relocate_rewritten_section-clause-cause : goal.returns-in-Err-relocate_rewritten_section-clause-cause
returns-in-Err-relocate_rewritten_section-clause-cause c =
    let stopped = c.in-Err-relocate_rewritten_section.ensures in
    rw stopped.unchanged
    (has_rewritten _ _ _ _ _ _ _ c.in_default.ensures.rewritten (search rules) (search rules), stopped.cause)
