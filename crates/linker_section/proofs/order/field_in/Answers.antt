use Rattle.linker_section.proofs.Imports.{IsRow, Some, ap, arith, cond-false, drop, false, field_len, field_of_row, has_value, offset_at, relocation_in, subst, sym, ℕ, ◌∙◌, ◌≡◌}
use Rattle.linker_section.proofs.Rows.{one_row, one_info}
use Rattle.linker_section.proofs.Valued.{none_is_some}
use Rattle.linker_section.proofs.order.field_in.Goals as goal

pub returns-in_default-clause-none : goal.returns-in_default-clause-none
returns-in_default-clause-none c row is_field =
    let a = c.args in
    none_is_some (sym c.in_default.is ∙ one_row a.architecture _ c.row.result (Some row)
    (subst (λ r. IsRow a.architecture r.r_type c.row.result) c.relocation_in-relocation.ensures c.row.ensures) is_field.is_row)

pub returns-then-not-has_value-clause-none : goal.returns-then-not-has_value-clause-none
returns-then-not-has_value-clause-none c row is_field =
    let a = c.args in
    let is_row = subst (IsRow a.architecture (relocation_in a.relocations.now a.index).r_type) c.in-Some.is
    (subst (λ r. IsRow a.architecture r.r_type c.row.result) c.relocation_in-relocation.ensures c.row.ensures) in
    let one : c.in-Some.row ≡ row = one_info a.architecture _ c.in-Some.row row is_row is_field.is_row in
    let has : has_value row.kind ≡ false = sym (ap (λ x. has_value x.kind) one) ∙ (sym (ap has_value c.kind.ensures) ∙ (sym c.has_value.ensures ∙ c.if-not-has_value.true)) in
    let none : field_len row (drop (offset_at a.relocations.now a.index) a.section.now) ≡ 0 = cond-false {A = ℕ} (has_value row.kind) _ 0 has in
    let s = is_field.some in
    omega (arith, s, none)

pub returns-then-field-eq0-clause-none : goal.returns-then-field-eq0-clause-none
returns-then-field-eq0-clause-none c row is_field =
    let a = c.args in
    let is_row = subst (IsRow a.architecture (relocation_in a.relocations.now a.index).r_type) c.in-Some.is
    (subst (λ r. IsRow a.architecture r.r_type c.row.result) c.relocation_in-relocation.ensures c.row.ensures) in
    let one : c.in-Some.row ≡ row = one_info a.architecture _ c.in-Some.row row is_row is_field.is_row in
    let field_is : c.field_at-field.result ≡ field_of_row row (offset_at a.relocations.now a.index) a.section.now =
    c.field_at-field.ensures ∙ (ap (λ r. field_of_row c.in-Some.row r.offset a.section.now) c.relocation_in-relocation.ensures
    ∙ ap (λ x. field_of_row x (offset_at a.relocations.now a.index) a.section.now) one) in
    let len = ap (λ f. f.len) field_is in
    let zero = c.if-field-eq0.true in
    let s = is_field.some in
    omega (arith, s, len, zero)
