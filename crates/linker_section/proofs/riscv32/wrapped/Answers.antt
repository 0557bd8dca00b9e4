use Rattle.linker_section.proofs.Imports.{FitsSigned, IsLeastFrom, ap, arith, cast_unsigned, int_rem_euclid, int_rem_euclid_is, ints, negsuc, pos, refl, subst, suc, sym, to_z-of_z, to_z_pos, w64, ℕ, ℤ, ◌%◌, ◌+ℤ◌, ◌+◌, ◌-◌, ◌<◌, ◌^◌, ◌∙◌, ◌≡◌}
use Rattle.linker_section.proofs.riscv32.wrapped.Goals as goal

-- modulo 2^32 a number is its bits
same_bits : (z : ℤ) → FitsSigned w64 z → int_rem_euclid z (pos (2 ^ 32)) ≡ pos (cast_unsigned w64 z % 2 ^ 32)
same_bits (pos n) fits = refl
same_bits (negsuc n) fits = ap pos (omega (arith, fits.sfits))

same_above : (least : ℤ) (value above : ℕ) → FitsSigned w64 least → value < 2 ^ 64
    → above ≡ (value + (2 ^ 64 - cast_unsigned w64 least)) % 2 ^ 64 % 2 ^ 32
    → int_rem_euclid (least +ℤ pos above) (pos (2 ^ 32)) ≡ pos (value % 2 ^ 32)
same_above (pos n) value above fits small is = ap pos (omega (arith, fits.sfits, is))
same_above (negsuc n) value above fits small is =
    int_rem_euclid_is (negsuc n +ℤ pos above) (pos (2 ^ 32)) (2 ^ 32) (2 ^ 32) (above + 2 ^ 64 - suc n) (omega arith) refl (omega (arith, ints, fits.sfits))
    ∙ ap pos (omega (arith, fits.sfits, is))

pub returns : goal.returns
returns c =
    let least = c.args.least in
    let value = c.args.value in
    let bits = c.cast_unsigned.result in
    let first_is : c.cast_unsigned-2.result ≡ cast_unsigned w64 least = c.cast_unsigned-2.ensures ∙ ap (cast_unsigned w64) (to_z-of_z w64 least c.ranges.least) in
    let above : ℕ = (bits + (2 ^ 64 - c.cast_unsigned-2.result)) % 2 ^ 64 % 2 ^ 32 in
    let above_is : c.cast_signed.result ≡ pos above = c.cast_signed.ensures ∙ to_z_pos w64 above (omega arith) in
    subst (IsLeastFrom least value) (omega (arith, ints, above_is, c.ranges.least, c.requires)) (record {
      from = omega (arith, ints);
      below = omega (arith, ints);
      same =
          same_above least bits above c.ranges.least c.cast_unsigned.type_inv (ap (λ n. (bits + (2 ^ 64 - n)) % 2 ^ 64 % 2 ^ 32) first_is)
          ∙ (ap (λ n. pos (n % 2 ^ 32)) (c.cast_unsigned.ensures ∙ ap (cast_unsigned w64) (to_z-of_z w64 value c.ranges.value)) ∙ sym (same_bits value c.ranges.value));
    })
