use Rattle.linker_section.proofs.Imports.{IfErr, OnOk, RejectsValue, WritesRow, arith, drop, length, refl, rules, subst, sym, take-put_mid, take_all, take_rest, to_z-of_z, w64, ◌+◌, ◌-◌, ◌∙◌, ◌≤◌}
use Rattle.linker_section.proofs.Writing.{written_at}
use Rattle.linker_section.proofs.sections.write_held_at.Goals as goal

pub returns : goal.returns
returns c =
    let section = c.args.section.now in
    let offset = c.args.offset in
    let row = c.args.row.now in
    let rest = c.write.new.dest in
    let inside : offset ≤ length section = let l = c.if-section-offset.false in omega arith in
    let value = to_z-of_z w64 c.args.value c.ranges.value in
    written_at row c.args.value offset section _ rest c.write.result inside c.requires.length c.requires.offset
    (sym (take_all (offset + length rest) _ (search rules)) ∙ take-put_mid offset (length section - offset) section rest (offset + length rest) refl inside)
    (search rules)
    (subst (λ v. OnOk c.write.result (WritesRow row v (drop offset section) rest)) value (rw (take_rest section offset) at c.write.ensures.ok))
    (subst (λ v. IfErr c.write.result (RejectsValue row v (drop offset section) rest)) value (rw (take_rest section offset) at c.write.ensures.err))
