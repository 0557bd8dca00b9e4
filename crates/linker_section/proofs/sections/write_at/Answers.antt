use Rattle.linker_section.proofs.Imports.{HoldsOffset, IsWrittenAt, of_z, refl, subst, sym, to_z, to_z-of_z, true≢false, w64, ◌∙◌}
use Rattle.linker_section.proofs.Lengths.{offset_of, offset_beyond}
use Rattle.linker_section.proofs.sections.write_at.Goals as goal

pub returns-then-not-has_offset : goal.returns-then-not-has_offset
returns-then-not-has_offset c =
    let a = c.args in
    let value = to_z-of_z w64 a.value c.ranges.value in (
      offset_beyond a.row.now a.value a.offset a.section.now
          (λ held. true≢false (sym ((c.has_offset.ensures).1 (subst (λ v. HoldsOffset a.row.now v a.offset a.section.now) (sym value) held)) ∙ c.if-not-has_offset.true)),
      refl,
    )

pub write_held_at-requires-clause-offset : goal.write_held_at-requires-clause-offset
write_held_at-requires-clause-offset c =
    offset_of c.args.row.now (to_z w64 (of_z w64 c.args.value)) c.args.offset c.args.section.now c.has_offset.result c.has_offset.ensures c.if-not-has_offset.false

pub returns : goal.returns
returns c =
    let a = c.args in
    subst (λ v. IsWrittenAt a.row.now v a.offset a.section.now c.write_held_at.new.section c.write_held_at.result)
    (to_z-of_z w64 a.value c.ranges.value) c.write_held_at.ensures
