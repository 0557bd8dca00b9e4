use Rattle.linker_final.proofs.Imports.{refl, rules}
use Rattle.linker_final.proofs.SectionRuns.{has_rewritten, linked_by_slices as is_linked, listed_so}
use Rattle.linker_final.proofs.sections.link_section_in_two_phases.Goals as goal

pub returns-in-Err-clause-cause : goal.returns-in-Err-clause-cause
returns-in-Err-clause-cause c = (
  c.args.relocations.now,
  c.args.section.now,
  (
    c.in-Err.ensures.rejected,
    (refl, refl),
    (c.in-Err.ensures.entries, c.in-Err.ensures.section),
    refl,
  ),
)

pub returns-in-Err-rewrite_placed_section-clause-cause :
    goal.returns-in-Err-rewrite_placed_section-clause-cause
returns-in-Err-rewrite_placed_section-clause-cause c =
    let stopped = c.in-Err-rewrite_placed_section.ensures in (
      c.rewrite_section.new.relocations,
      c.rewrite_section.new.section,
      (
        has_rewritten _ _ _ _ _ _ _ c.in_default.ensures.rewritten (search rules) (search rules),
        stopped.rejected,
        (stopped.entries, stopped.section),
      ),
    )

pub returns-in-Ok-clause-linked : goal.returns-in-Ok-clause-linked
returns-in-Ok-clause-linked c =
    let before = c.args.relocations.now in
    let section = c.args.section.now in
    let between = c.rewrite_section.new.relocations in
    let bytes = c.rewrite_section.new.section in
    let last = c.rewrite_placed_section.new.relocations in
    let rewritten = c.rewrite_placed_section.new.section in
    let placed = c.in_default-rewrite_placed_section.ensures in
    let made = has_rewritten _ _ _ _ _ _ _ c.in_default.ensures.rewritten (search rules) (search rules) in
    let made_too = has_rewritten _ _ _ _ _ _ _ placed.rewritten (search rules) (search rules) in (
      between,
      bytes,
      rewritten,
      (
        record { same_relocations = refl {a = before}; same_section = refl {a = section} },
        is_linked _ made (record { same_relocations = refl {a = between}; same_section = refl {a = bytes} }, made_too, (refl {a = last}, refl {a = rewritten}))
            c.in-Ok.ensures.fields (λ i. search rules) (λ i. search rules) (λ i. search rules),
        (
          record { same_relocations = refl {a = between}; same_section = refl {a = bytes} },
          is_linked _ made_too (refl {a = last}, refl {a = rewritten}) c.in-Ok.ensures.fields
              (λ i. search rules) (λ i. search rules) (λ i. search rules),
          tt,
        ),
      ),
      listed_so _ _ _ c.in_default-rewrite_placed_section.field-0 placed.listed placed.deletions_stay,
    )

pub returns-in-Err-relocate_rewritten_section-clause-cause : goal.returns-in-Err-relocate_rewritten_section-clause-cause
returns-in-Err-relocate_rewritten_section-clause-cause c =
    let placed = c.in_default-rewrite_placed_section.ensures in
    let stopped = c.in-Err-relocate_rewritten_section.ensures in
    rw stopped.unchanged (
      c.rewrite_section.new.relocations,
      c.rewrite_section.new.section,
      (
        has_rewritten _ _ _ _ _ _ _ c.in_default.ensures.rewritten (search rules) (search rules),
        has_rewritten _ _ _ _ _ _ _ placed.rewritten (search rules) (search rules),
        listed_so _ _ _ c.in_default-rewrite_placed_section.field-0 placed.listed placed.deletions_stay,
        stopped.cause,
      ),
    )
