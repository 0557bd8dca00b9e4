use Rattle.linker_section.proofs.Imports.{IsRow, None, Some, ap, arith, cond-true, is_high_part, length, lt-ltb, refl, relocation_in, subst, sym, true, ◌/◌, ◌∙◌, ◌≡◌}
use Rattle.linker_section.proofs.values.high_part_in.Goals as goal

pub returns-then-is_high_part-clause-found : goal.returns-then-is_high_part-clause-found
returns-then-is_high_part-clause-found c =
    let a = c.args in
    let bytes = a.relocations.now in
    let same = c.if-relocation-at.false in (
      record {
        index = a.index;
        is_there = cond-true _ (Some (relocation_in bytes a.index)) None (lt-ltb a.index (length bytes / 24) c.requires)
            ∙ ap Some (sym c.relocation_in-relocation.ensures);
        offset_is = omega (arith, same);
        row_is = subst (IsRow a.architecture c.relocation_in-relocation.result.r_type) c.in-Some.is c.row.ensures;
        is_high = subst (λ info. is_high_part a.low (Some info) ≡ true) c.info.ensures.row
            (sym c.is_high_part.ensures ∙ c.if-is_high_part.true);
      },
      refl,
    )
