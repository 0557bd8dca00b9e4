use Rattle.linker_section.proofs.Imports.{Err, IfNone, IsHighPart, IsHighPartAt, IsLowResolved, IsResolvedBy, NoHighPart, NoSymbol, None, Ok, Operands, Option, Result, Some, ValueError, ap, difference_64, is_high_part, known_operands, low_by, names_label, option_map, refl, subst, sym, true, value_of, ℤ, ◌∙◌, ◌≡◌}
use Rattle.linker_section.proofs.values.value_of.Given.{Over}
use Rattle.linker_section.proofs.values.value_of.Goals.{In-Some, In-Some-high_part}
use Rattle.linker_section.proofs.values.value_of.Goals as goal

-- a low part, whose symbol labels a high part
labelled : (g : Over) (c : In-Some g) → names_label c.args.row.now.size c.args.row.now.kind ≡ true
labelled g c =
    sym (ap (λ i. names_label i.size c.args.row.now.kind) c.info.ensures.row)
    ∙ (sym (ap (names_label c.info.result.size) c.kind.ensures)
    ∙ (sym c.names_label.ensures ∙ c.if-not-names_label.false))

-- its high part
abbrev part : (g : Over) (c : In-Some-high_part g)
    → IsHighPart c.args.architecture c.args.relocations.now c.args.row.now.kind (difference_64 (g.S.Found.Known.known c.in-Some.label).symbol.address c.args.addresses.now.section) c.in-Some-high_part.high c.in-Some-high_part.high_row
part g c =
    let found = c.in-Some-high_part.ensures.found in
    record {
      index = found.0.index;
      is_there = found.0.is_there;
      offset_is = found.0.offset_is ∙ ap (λ s. difference_64 s.address c.args.addresses.now.section) c.symbol.ensures;
      row_is = found.0.row_is;
      is_high = subst (λ k. is_high_part k (Some c.in-Some-high_part.high_row) ≡ true) c.kind-2.ensures found.0.is_high;
    }

-- a value by the high part's operands
by_operands : (g : Over) (c : In-Some-high_part g) (operands : Result Operands ValueError)
    (x : Result (Option ℤ) ValueError)
    → names_label c.args.row.now.size c.args.row.now.kind ≡ true
    → known_operands c.args.architecture c.args.addresses.now c.in-Some-high_part.high_row c.in-Some-high_part.high (g.S.Symbols.knowledge c.args.symbols c.in-Some-high_part.index c.in-Some-high_part.high) ≡ operands
    → x ≡ low_by c.args.row.now c.in-Some-high_part.high_row operands
    → IsResolvedBy (names_label c.args.row.now.size c.args.row.now.kind) c.args.architecture c.args.addresses.now c.args.relocations.now (g.S.Symbols.knowledge c.args.symbols) c.args.row.now c.args.relocation.now (option_map g.S.Found.Known.known c.args.known) x
by_operands g c operands x label given is =
    let a = c.args in
    let row = a.row.now in
    let knowledge = g.S.Symbols.knowledge a.symbols in
    let high = c.in-Some-high_part.high in
    let high_row = c.in-Some-high_part.high_row in
    let of = known_operands a.architecture a.addresses.now high_row high in
    subst (λ b. IsResolvedBy b a.architecture a.addresses.now a.relocations.now knowledge row a.relocation.now (option_map g.S.Found.Known.known a.known) x) (sym label)
    (subst (λ k. IsResolvedBy true a.architecture a.addresses.now a.relocations.now knowledge row a.relocation.now (option_map g.S.Found.Known.known k) x) (sym c.in-Some.is)
    (IsLowResolved.by_high (part g c) (is ∙ sym (ap (low_by row high_row) (ap (λ n. of (knowledge n high)) c.in-Some-high_part.ensures.found.1 ∙ given)))))

pub returns-in_default-high_part : goal.returns-in_default-high_part
returns-in_default-high_part g c =
    let a = c.args in
    let bytes = a.relocations.now in
    let row = a.row.now in
    let knowledge = g.S.Symbols.knowledge a.symbols in
    let at = difference_64 c.symbol.result.address a.addresses.now.section in
    let here = (goal.at.returns-in_default-high_part g c).In-Some in
    let none = subst (λ k. IsHighPartAt a.architecture bytes k at None) c.kind-2.ensures
    (subst (λ x. IfNone x (IsHighPartAt a.architecture bytes c.kind-2.result at None)) c.in_default-high_part.is c.high_part.ensures.none) in
    subst (λ b. IsResolvedBy b a.architecture a.addresses.now bytes knowledge row a.relocation.now (option_map g.S.Found.Known.known a.known) (Err NoHighPart)) (sym (labelled g here))
    (subst (λ k. IsResolvedBy true a.architecture a.addresses.now bytes knowledge row a.relocation.now (option_map g.S.Found.Known.known k) (Err NoHighPart)) (sym c.in-Some.is)
    (IsLowResolved.without (subst (λ s. IsHighPartAt a.architecture bytes row.kind (difference_64 s.address a.addresses.now.section) None) c.symbol.ensures none) refl))

pub returns-in_default-find : goal.returns-in_default-find
returns-in_default-find g c =
    let of = known_operands c.args.architecture c.args.addresses.now c.in-Some-high_part.high_row c.in-Some-high_part.high in
    by_operands g ((goal.at.returns-in_default-find g c).In-Some-high_part) (Err NoSymbol) _ (labelled g ((goal.at.returns-in_default-find g c).In-Some))
    (ap of (sym c.find.ensures) ∙ ap (λ k. of (option_map g.S.Found.Known.known k)) c.in_default-find.is) refl

pub returns-in-Ok : goal.returns-in-Ok
returns-in-Ok g c =
    let of = known_operands c.args.architecture c.args.addresses.now c.in-Some-high_part.high_row c.in-Some-high_part.high in
    by_operands g ((goal.at.returns-in-Ok g c).In-Some-high_part) (Ok c.in-Ok.operands) _ (labelled g ((goal.at.returns-in-Ok g c).In-Some))
    (ap of (sym c.find.ensures) ∙ (ap (λ k. of (option_map g.S.Found.Known.known k)) c.in-Some-find.is ∙ (sym c.operands_of.ensures ∙ c.in-Ok.is)))
    (ap Ok (c.formula_value.ensures ∙ ap (value_of c.args.row.now) c.low_operands.ensures))

pub returns-in-Err : goal.returns-in-Err
returns-in-Err g c =
    let of = known_operands c.args.architecture c.args.addresses.now c.in-Some-high_part.high_row c.in-Some-high_part.high in
    by_operands g ((goal.at.returns-in-Err g c).In-Some-high_part) (Err c.in-Err.error) _ (labelled g ((goal.at.returns-in-Err g c).In-Some))
    (ap of (sym c.find.ensures) ∙ (ap (λ k. of (option_map g.S.Found.Known.known k)) c.in-Some-find.is ∙ (sym c.operands_of.ensures ∙ c.in-Err.is))) refl
