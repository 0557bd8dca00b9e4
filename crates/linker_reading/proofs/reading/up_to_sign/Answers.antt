use Rattle.linker_reading.proofs.Imports.{IsOfValue, ap, arith, cast_unsigned, mod_below, mod_mod, pow_pos, refl, subst, sym, to_z-of_z, w64, ◌-◌, ◌^◌, ◌∙◌, ◌≡◌, ◌≤◌}
use Rattle.linker_reading.proofs.Ranges.{moved_fits}
use Rattle.linker_reading.proofs.Reached.{reach_leaves}
use Rattle.linker_reading.proofs.reading.up_to_sign.Goals as goal

pub overflow_mul-result : goal.overflow_mul-result
overflow_mul-result c =
    let f = c.args.field in
    rw (c.power_of_two-unit.ensures, c.power_of_two.ensures) (record {
      fits = moved_fits _ f.known.start f.known.end
          (mod_below _ (2 ^ (f.known.end - f.known.start)) (pow_pos (f.known.end - f.known.start)))
          (omega arith) (omega arith);
    })

pub returns-clause-value : goal.returns-clause-value
returns-clause-value c =
    let f = c.args.field in
    let cast : c.cast_unsigned.result ≡ cast_unsigned w64 c.args.min =
    c.cast_unsigned.ensures ∙ ap (cast_unsigned w64) (to_z-of_z w64 c.args.min c.ranges.min) in
    let short : f.known.end - f.known.start ≤ 64 = omega arith in
    rw (c.power_of_two-unit.ensures, c.power_of_two.ensures, cast, mod_mod) refl

pub returns-clause-known : goal.returns-clause-known
returns-clause-known c = λ v fits within known.
    subst (λ f. IsOfValue f v) (sym (returns-clause-value c))
    (reach_leaves c.args.min c.args.max c.args.field c.ranges.min c.ranges.max c.requires.some
    c.requires.leaves v fits within known)
