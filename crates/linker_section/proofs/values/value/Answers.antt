use Rattle.linker_section.proofs.Imports.{IsResolvedBy, IsRow, Some, known_in, names_label, subst, value_by_is}
use Rattle.linker_section.proofs.RowFacts.{says}
use Rattle.linker_section.proofs.values.value.Goals as goal

pub value_of-requires : goal.value_of-requires
value_of-requires c =
    let a = c.args in
    says a.architecture a.relocation.now.r_type c.in-Some.row
    (subst (IsRow a.architecture a.relocation.now.r_type) c.in-Some.is c.row.ensures)

pub returns : goal.returns
returns c =
    let a = c.args in
    let row = c.in-Some.row in
    let labelled = names_label row.size row.kind in (
      Some row,
      subst (IsRow a.architecture a.relocation.now.r_type) c.in-Some.is c.row.ensures,
      value_by_is labelled a.architecture a.addresses.now a.relocations.now a.symbols.now row a.relocation.now 0 c.value_of.result
          (subst (λ k. IsResolvedBy labelled a.architecture a.addresses.now a.relocations.now (known_in a.symbols.now) row a.relocation.now k c.value_of.result) c.find-known.ensures c.value_of.ensures),
    )
