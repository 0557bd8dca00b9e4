use Rattle.linker_section.proofs.Imports.{IsRow, Some, ap, ends_pair, relocation_in, subst, sym, true≢false, ◌+◌, ◌∙◌, ◌≡◌}
use Rattle.linker_section.proofs.Rows.{one_row, one_info}
use Rattle.linker_section.proofs.Valued.{none_is_some}
use Rattle.linker_section.proofs.sections.next_of_pair.Goals as goal

pub returns-in_default-clause-none : goal.returns-in_default-clause-none
returns-in_default-clause-none c second =
    let a = c.args in
    none_is_some (sym c.in_default.is ∙ one_row a.architecture _ c.row.result (Some second.other)
    (subst (λ r. IsRow a.architecture r.r_type c.row.result) c.relocation_in-second.ensures c.row.ensures) second.is_other)

pub returns-else-ends_pair-clause-none : goal.returns-else-ends_pair-clause-none
returns-else-ends_pair-clause-none c second =
    let a = c.args in
    let is_row = subst (λ x. IsRow a.architecture (relocation_in a.relocations.now (a.index + 1)).r_type x) (c.in-Some.is ∙ ap Some (sym c.info-info.ensures.row))
    (subst (λ r. IsRow a.architecture r.r_type c.row.result) c.relocation_in-second.ensures c.row.ensures) in
    let same : c.info-info.result ≡ second.other = one_info a.architecture _ c.info-info.result second.other is_row second.is_other in
    true≢false (sym second.ends ∙ (sym (ap (λ x. ends_pair x.size x.kind) same) ∙ (sym c.ends_pair.ensures ∙ c.if-ends_pair.false)))
