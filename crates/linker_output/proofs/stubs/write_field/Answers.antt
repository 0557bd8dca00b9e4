use Rattle.linker_output.proofs.Imports.{IsRow, Some, ap, cast_signed, cast_unsigned, rules, subst, sym, value_of, w64, ◌∙◌, ◌≡◌}
use Rattle.linker_output.proofs.StubFields.{not_allowed, field_written, field_rejected}
use Rattle.linker_output.proofs.stubs.write_field.Goals as goal

pub returns-then-not-contains-clause-err : goal.returns-then-not-contains-clause-err
returns-then-not-contains-clause-err c =
    let v = cast_signed w64 (cast_unsigned w64 c.in-Some-formula_value.value) in
    let same : v ≡ c.in-Some-formula_value.value = search rules in
    let found : value_of c.in-Some.row c.args.operands.now ≡ Some v =
    sym c.in-Some-formula_value.ensures ∙ ap Some (sym same) in (
      Some c.in-Some.row,
      subst (λ row. IsRow c.args.architecture c.args.field.relocation row) c.in-Some.is c.row.ensures,
      not_allowed c.args.field.range c.in-Some.row _ v _ found
          (λ allowed. (let e = c.contains.ensures.1 allowed in let f = c.if-not-contains.true in cc)),
    )

pub returns-clause-ok : goal.returns-clause-ok
returns-clause-ok c =
    let v = cast_signed w64 (cast_unsigned w64 c.in-Some-formula_value.value) in
    let same : v ≡ c.in-Some-formula_value.value = search rules in
    let found : value_of c.in-Some.row c.args.operands.now ≡ Some v =
    sym c.in-Some-formula_value.ensures ∙ ap Some (sym same) in
    field_written c.args.architecture c.args.field c.args.operands.now c.args.pair.now
    c.write.new.dest c.in-Some.row v c.min.result c.min.ensures (search rules)
    (subst (λ row. IsRow c.args.architecture c.args.field.relocation row) c.in-Some.is c.row.ensures)
    found (c.contains.ensures.0 c.if-not-contains.false) c.write.result c.write.ensures.ok

pub returns-clause-err : goal.returns-clause-err
returns-clause-err c =
    let v = cast_signed w64 (cast_unsigned w64 c.in-Some-formula_value.value) in
    let same : v ≡ c.in-Some-formula_value.value = search rules in
    let found : value_of c.in-Some.row c.args.operands.now ≡ Some v =
    sym c.in-Some-formula_value.ensures ∙ ap Some (sym same) in
    field_rejected c.args.architecture c.args.field c.args.operands.now c.args.pair.now
    c.write.new.dest c.in-Some.row v c.min.result c.min.ensures (search rules)
    (subst (λ row. IsRow c.args.architecture c.args.field.relocation row) c.in-Some.is c.row.ensures)
    found (c.contains.ensures.0 c.if-not-contains.false) c.write.result c.write.ensures.err
