use Rattle.linker_section.proofs.Imports.{Field, IsRow, None, Some, ap, arith, is_some, offset_at, refl, relocation_in, subst, sym, true≢false, window_len, ◌-◌, ◌∙◌, ◌≡◌}
use Rattle.linker_section.proofs.Rows.{one_info, one_row}
use Rattle.linker_section.proofs.ascending.last_field.Goals as goal

pub returns-in-Some : goal.returns-in-Some
returns-in-Some c field is =
    let a = c.args in
    let k = a.index - 1 in
    let other = c.if-step-index.false in
    let own = is.own other k (omega (arith, other, c.requires.following)) in
    let same = c.relocation_in-relocation.ensures in
    let row : IsRow a.architecture (relocation_in a.relocations.now k).r_type (Some c.in-Some.row) =
    subst (λ r. IsRow a.architecture r.r_type (Some c.in-Some.row)) same
    (subst (IsRow a.architecture c.relocation_in-relocation.result.r_type) c.in-Some.is c.row.ensures) in
    let one : c.in-Some.row ≡ own.row = one_info a.architecture _ c.in-Some.row own.row row own.is_row in
    let made : Field = record { offset = c.relocation_in-relocation.result.offset; len = c.window.result; kind = c.kind.result } in
    let first : made ≡ record { offset = offset_at a.relocations.now k; len = window_len c.in-Some.row; kind = c.in-Some.row.kind } =
    rw (same, c.window.ensures, c.kind.ensures) refl in
    first ∙ (ap (λ r. record { offset = offset_at a.relocations.now k; len = window_len r; kind = r.kind }) one ∙ sym own.is_field)

pub returns-in-None : goal.returns-in-None
returns-in-None c field is =
    let a = c.args in
    let k = a.index - 1 in
    let other = c.if-step-index.false in
    let own = is.own other k (omega (arith, other, c.requires.following)) in
    let row : IsRow a.architecture (relocation_in a.relocations.now k).r_type None =
    subst (λ r. IsRow a.architecture r.r_type None) c.relocation_in-relocation.ensures
    (subst (IsRow a.architecture c.relocation_in-relocation.result.r_type) c.in-None.is c.row.ensures) in
    absurd (true≢false (sym (ap is_some (one_row a.architecture _ None (Some own.row) row own.is_row))))
