use Rattle.linker_section.proofs.Imports.{IsRow, None, Some, ap, needs_in, of_z, refl, requirements_by, subst, to_z, to_z-of_z, w64, ◌∙◌}
use Rattle.linker_section.proofs.RowFacts.{says}
use Rattle.linker_section.proofs.needed.needs.Goals as goal

pub returns-in-Some : goal.returns-in-Some
returns-in-Some c =
    let a = c.args in
    let row = c.in-Some.row in
    let is = subst (IsRow a.architecture a.r_type) c.in-Some.is c.row.ensures in (
      Some row,
      is,
      ap Some (c.requirements_by.ensures ∙ ap (λ f. requirements_by f (to_z w64 (of_z w64 a.addend)) a.is_thread_local) c.facts.ensures)
          ∙ (ap Some (says a.architecture a.r_type row is (to_z w64 (of_z w64 a.addend)) a.is_thread_local)
          ∙ ap (λ x. needs_in (Some row) x a.is_thread_local) (to_z-of_z w64 a.addend c.ranges.addend)),
    )

pub returns-in-None : goal.returns-in-None
returns-in-None c =
    (None, subst (IsRow c.args.architecture c.args.r_type) c.in-None.is c.row.ensures, refl)
