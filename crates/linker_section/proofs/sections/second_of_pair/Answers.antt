use Rattle.linker_section.proofs.Imports.{ap, begins_pair, sym, true≢false, ◌∙◌, ◌≡◌}
use Rattle.linker_section.proofs.Rows.{one_info}
use Rattle.linker_section.proofs.sections.second_of_pair.Goals as goal

pub returns-else-begins_pair-clause-none : goal.returns-else-begins_pair-clause-none
returns-else-begins_pair-clause-none c pair =
    let a = c.args in
    let same : pair.row ≡ a.row.now = one_info a.architecture _ pair.row a.row.now pair.is_row c.requires.row in
    true≢false (sym pair.begins ∙ (ap (λ x. begins_pair x.size x.kind) (same ∙ sym c.info-info.ensures.row) ∙ (sym c.begins_pair.ensures ∙ c.if-begins_pair.false)))
