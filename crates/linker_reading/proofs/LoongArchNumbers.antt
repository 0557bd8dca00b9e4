-- What an instruction of LoongArch holds, and both of a call.
use Rattle.linker_reading.proofs.Imports.{Call36, LoongArch64, Shift10, Shift5, ap, arith, cases_lt, cast_unsigned, consecutive_bits_sum, field, inl, inr, ints, jirl_imm, loongarch_form, mod-eq_of_lt, mod_below, negsuc, number_held, or_bits_to, ored, pcaddu18i_imm, place_sum, place_sum_below, pos, pow_pos, refl, replaced, shift10_low, signed, subst, suc, sums, sym, w64, ℕ, ℤ, ◌%◌, ◌*ℤ◌, ◌*◌, ◌+ℤ◌, ◌+◌, ◌-◌, ◌/◌, ◌<◌, ◌^◌, ◌∙◌, ◌≡◌}
use Rattle.linker_reading.proofs.Numbers.{IsShort, short, signed_low}

pub shift5_held : (x number result : ℕ)
    → number ≡ cast_unsigned w64 ((loongarch_form Shift5).reading x)
    → result ≡ cast_unsigned w64 (signed 20 (number % 2 ^ 20))
    → result ≡ cast_unsigned w64 (number_held (LoongArch64 Shift5) x)
shift5_held x number result is low =
    signed_low 20 (place_sum ((loongarch_form Shift5).places x) x) number result
    (place_sum_below ((loongarch_form Shift5).places x) 20 x refl refl) is low

pub shift10_held : (x number result : ℕ) → number ≡ field x 10 26
    → result ≡ cast_unsigned w64 (signed 16 (number % 2 ^ 16))
    → result ≡ cast_unsigned w64 (number_held (LoongArch64 Shift10) x)
shift10_held x number result is low =
    let places = (loongarch_form Shift10).places x in
    let low_part : place_sum shift10_low x ≡ x / 2 ^ 10 % 2 ^ 12 * 2 ^ 0 =
    consecutive_bits_sum replaced 12 0 10 0 x refl in
    let high_part : place_sum (or_bits_to 12 15 22) x ≡ x / 2 ^ 22 % 2 ^ 4 * 2 ^ 12 =
    consecutive_bits_sum ored 4 12 22 0 x refl in
    let both : place_sum places x ≡ place_sum shift10_low x + place_sum (or_bits_to 12 15 22) x =
    sums shift10_low (or_bits_to 12 15 22) x in
    let same : number ≡ place_sum places x = omega arith in
    signed_low 16 (place_sum places x) number result (place_sum_below places 16 x refl refl) same low

-- the numbers of both words of a call, added up
two_words : (a b : ℤ) → IsShort a → IsShort b
    → (cast_unsigned w64 a * 65536 % 2 ^ 64 + cast_unsigned w64 b) % 2 ^ 64
    ≡ cast_unsigned w64 ((a *ℤ pos (2 ^ 16)) +ℤ b)
two_words (pos x) (pos y) f g =
    let below : x < 2 ^ 32 = omega (arith, ints, f.1) in
    let small : y < 2 ^ 32 = omega (arith, ints, g.1) in
    let sum : (pos x *ℤ pos (2 ^ 16)) +ℤ pos y ≡ pos (x * 65536 + y) = omega (arith, ints) in
    sym (ap (cast_unsigned w64) sum ∙ omega arith)
two_words (pos x) (negsuc y) f g =
    let below : x < 2 ^ 32 = omega (arith, ints, f.1) in
    let small : y < 2 ^ 32 = omega (arith, ints, g.0) in
    elim (cases_lt y (x * 65536)) [
      | inl above ↦
          let sum : (pos x *ℤ pos (2 ^ 16)) +ℤ negsuc y ≡ pos (x * 65536 - suc y) =
          omega (arith, ints) in
          sym (ap (cast_unsigned w64) sum ∙ omega arith)
      | inr under ↦
          let sum : (pos x *ℤ pos (2 ^ 16)) +ℤ negsuc y ≡ negsuc (y - x * 65536) =
          omega (arith, ints) in
          sym (ap (cast_unsigned w64) sum ∙ omega arith)
    ]
two_words (negsuc x) (pos y) f g =
    let below : x < 2 ^ 32 = omega (arith, ints, f.0) in
    let small : y < 2 ^ 32 = omega (arith, ints, g.1) in
    elim (cases_lt y (suc x * 65536)) [
      | inl under ↦
          let sum : (negsuc x *ℤ pos (2 ^ 16)) +ℤ pos y ≡ negsuc (suc x * 65536 - y - 1) =
          omega (arith, ints) in
          sym (ap (cast_unsigned w64) sum ∙ omega arith)
      | inr above ↦
          let sum : (negsuc x *ℤ pos (2 ^ 16)) +ℤ pos y ≡ pos (y - suc x * 65536) =
          omega (arith, ints) in
          sym (ap (cast_unsigned w64) sum ∙ omega arith)
    ]
two_words (negsuc x) (negsuc y) f g =
    let below : x < 2 ^ 32 = omega (arith, ints, f.0) in
    let small : y < 2 ^ 32 = omega (arith, ints, g.0) in
    let sum : (negsuc x *ℤ pos (2 ^ 16)) +ℤ negsuc y ≡ negsuc (suc x * 65536 + y) =
    omega (arith, ints) in
    sym (ap (cast_unsigned w64) sum ∙ omega arith)

part_is : (x s e n : ℕ) → n ≡ e - s → field x s e % 2 ^ n ≡ field x s e
part_is x s e n same =
    subst (λ k. field x s e % 2 ^ k ≡ field x s e) (sym same)
    (mod-eq_of_lt (mod_below (x / 2 ^ s) (2 ^ (e - s)) (pow_pos (e - s))))

pub call36_held : (x high low : ℕ)
    → high ≡ cast_unsigned w64 (signed 20 (field x 5 25 % 2 ^ 20))
    → low ≡ cast_unsigned w64 (signed 16 (field x 42 58 % 2 ^ 16))
    → (high * 65536 % 2 ^ 64 + low) % 2 ^ 64
    ≡ cast_unsigned w64 (number_held (LoongArch64 Call36) x)
call36_held x high low h l =
    let high_is : high ≡ cast_unsigned w64 (pcaddu18i_imm x) =
    h ∙ ap (λ y. cast_unsigned w64 (signed 20 y)) (part_is x 5 25 20 refl) in
    let low_is : low ≡ cast_unsigned w64 (jirl_imm x) =
    l ∙ ap (λ y. cast_unsigned w64 (signed 16 y)) (part_is x 42 58 16 refl) in
    let f : field x 5 25 < 2 ^ 20 = omega arith in
    let g : field x 42 58 < 2 ^ 16 = omega arith in
    ap (λ y. (y * 65536 % 2 ^ 64 + low) % 2 ^ 64) high_is
    ∙ ap (λ y. (cast_unsigned w64 (pcaddu18i_imm x) * 65536 % 2 ^ 64 + y) % 2 ^ 64) low_is
    ∙ two_words (pcaddu18i_imm x) (jirl_imm x) (short 20 (field x 5 25) (omega arith) f)
    (short 16 (field x 42 58) (omega arith) g)
