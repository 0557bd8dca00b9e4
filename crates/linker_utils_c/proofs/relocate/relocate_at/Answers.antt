use Rattle.linker_utils_c.proofs.Imports.{IsRelocated, arith, drop, length, length-drop, refl, rules, subst, sym, take, take_all, to_z-of_z, w64, ◌+◌, ◌-◌, ◌∙◌, ◌≡◌}
use Rattle.std.proofs.lemmas.Slice.{take-put_mid}
use Rattle.linker_utils_c.proofs.relocate.relocate_at.Goals as goal

pub returns : goal.returns
returns c =
    let a = c.args in
    let section = c.args.section.now in
    let rest = c.relocate.new.dest in
    let back : take (length section - a.offset) (drop a.offset section) ≡ drop a.offset section = take_all (length section - a.offset) (drop a.offset section) (omega (arith, length-drop a.offset section)) in
    record {
      outside = λ h. absurd (let l = c.if-section-offset.false in omega arith);
      inside = λ l. (
        rest,
        sym (take_all (a.offset + length rest) _ (search rules)) ∙ take-put_mid a.offset (length section - a.offset) section rest (a.offset + length rest) refl l,
        subst (λ v. IsRelocated a.architecture a.r_type v (drop a.offset section) rest c.relocate.result) (to_z-of_z w64 a.value c.ranges.value)
            (rw back at c.relocate.ensures),
      );
    }
