use Rattle.linker_section.proofs.Imports.{arith, cast_unsigned, drop_all, first_role, subst, sym, take_rest, to_z-of_z, w64}
use Rattle.linker_elf.specs.Uleb128.{IsPairNumber}
use Rattle.linker_section.proofs.sections.number_of_pair.Goals as goal

pub returns-then-section-offset : goal.returns-then-section-offset
returns-then-section-offset c =
    let a = c.args in
    subst (λ b. IsPairNumber (first_role a.kind) b (cast_unsigned w64 a.first) (cast_unsigned w64 a.second) c.pair_number.result)
    (sym (drop_all a.offset a.section.now (let l = c.if-section-offset.true in omega (arith, l))))
    (rw (c.first_role-role.ensures, c.cast_unsigned-first.ensures, c.cast_unsigned-second.ensures, to_z-of_z w64 a.first c.ranges.first, to_z-of_z w64 a.second c.ranges.second) at
    c.pair_number.ensures.number)

pub returns : goal.returns
returns c =
    let a = c.args in
    rw (take_rest a.section.now a.offset, c.first_role-role.ensures, c.cast_unsigned-first.ensures, c.cast_unsigned-second.ensures, to_z-of_z w64 a.first c.ranges.first, to_z-of_z w64 a.second c.ranges.second)
    at c.pair_number-2.ensures.number
