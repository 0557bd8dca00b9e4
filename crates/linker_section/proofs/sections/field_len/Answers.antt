use Rattle.linker_section.proofs.Imports.{ap, arith, drop, field_len, offset_at, ℕ, ◌+◌, ◌∙◌, ◌≡◌}
use Rattle.linker_section.proofs.Rows.{one_info}
use Rattle.linker_section.proofs.sections.field_len.Goals as goal

same_len : (o len first count : ℕ) → o ≡ first → o + len ≡ first + count → count ≡ len
same_len o len first count begins ends = omega arith

pub returns-in-Some-clause-len : goal.returns-in-Some-clause-len
returns-in-Some-clause-len c row is_field =
    let a = c.args in
    let field = c.in-Some.field in
    let found = c.in-Some.ensures.found in
    let here = drop (offset_at a.relocations.now a.index) a.section.now in
    same_len (offset_at a.relocations.now a.index) (field_len (found.0) here) field.offset field.len found.1.offset_is found.1.end_is
    ∙ ap (λ x. field_len x here) (one_info a.architecture _ (found.0) row found.1.is_field.is_row is_field.is_row)
