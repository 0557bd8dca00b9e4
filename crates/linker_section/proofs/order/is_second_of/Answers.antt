use Rattle.linker_section.proofs.Imports.{IsRow, Some, subst, sym, ◌∙◌}
use Rattle.linker_section.proofs.Rows.{one_row}
use Rattle.linker_section.proofs.Valued.{none_is_some}
use Rattle.linker_section.proofs.Claims.{begun_of}
use Rattle.linker_section.proofs.order.is_second_of.Goals as goal

pub returns-in_default-clause-no : goal.returns-in_default-clause-no
returns-in_default-clause-no c same next pair =
    let a = c.args in
    none_is_some (sym c.in_default.is ∙ one_row a.architecture _ c.row.result (Some pair.row)
    (subst (λ r. IsRow a.architecture r.r_type c.row.result) c.relocation_in.ensures c.row.ensures) pair.is_row)

pub returns-clause-yes : goal.returns-clause-yes
returns-clause-yes c answer = (
  c.if-index-first.false,
  begun_of c.args.architecture c.args.relocations.now c.args.first c.second_of_pair.result (sym c.is_some.ensures ∙ answer) c.second_of_pair.ensures.found,
)
