-- What an instruction of PowerPC64 holds: in two's complement.
use Rattle.linker_reading.proofs.Imports.{Branch14, Branch24, D, Ds, Prefixed, arith, cast_unsigned, consecutive_bits_sum, false, is_dq_form, place_sum, place_sum_below, ppc64_form, ppc64_reads, refl, replaced, signed, true, w64, ℕ, ◌%◌, ◌*◌, ◌-◌, ◌/◌, ◌^◌, ◌≡◌}
use Rattle.linker_reading.proofs.Numbers.{signed_low}

pub d_held : (x number result : ℕ) → number ≡ cast_unsigned w64 ((ppc64_form D).reading x)
    → result ≡ cast_unsigned w64 (signed 16 (number % 2 ^ 16))
    → result ≡ cast_unsigned w64 (ppc64_reads D x)
d_held x number result is low =
    signed_low 16 (place_sum ((ppc64_form D).places x) x) number result
    (place_sum_below ((ppc64_form D).places x) 16 x refl refl) is low

pub branch14_held : (x number result : ℕ)
    → number ≡ cast_unsigned w64 ((ppc64_form Branch14).reading x)
    → result ≡ cast_unsigned w64 (signed 16 (number % 2 ^ 16))
    → result ≡ cast_unsigned w64 (ppc64_reads Branch14 x)
branch14_held x number result is low =
    signed_low 16 (place_sum ((ppc64_form Branch14).places x) x) number result
    (place_sum_below ((ppc64_form Branch14).places x) 16 x refl refl) is low

pub branch24_held : (x number result : ℕ)
    → number ≡ cast_unsigned w64 ((ppc64_form Branch24).reading x)
    → result ≡ cast_unsigned w64 (signed 26 (number % 2 ^ 26))
    → result ≡ cast_unsigned w64 (ppc64_reads Branch24 x)
branch24_held x number result is low =
    signed_low 26 (place_sum ((ppc64_form Branch24).places x) x) number result
    (place_sum_below ((ppc64_form Branch24).places x) 26 x refl refl) is low

pub prefixed_held : (x number result : ℕ)
    → number ≡ cast_unsigned w64 ((ppc64_form Prefixed).reading x)
    → result ≡ cast_unsigned w64 (signed 34 (number % 2 ^ 34))
    → result ≡ cast_unsigned w64 (ppc64_reads Prefixed x)
prefixed_held x number result is low =
    signed_low 34 (place_sum ((ppc64_form Prefixed).places x) x) number result
    (place_sum_below ((ppc64_form Prefixed).places x) 34 x refl refl) is low

abbrev ds_sum : ℕ → ℕ
ds_sum x = place_sum ((ppc64_form Ds).places x) x

ds_is : (x : ℕ) → ds_sum x ≡ x / 2 ^ 2 % 2 ^ 14 * 2 ^ 2
ds_is x = consecutive_bits_sum replaced 14 2 2 0 x refl

pub ds_held : (x number result : ℕ) → number ≡ cast_unsigned w64 ((ppc64_form Ds).reading x)
    → is_dq_form x ≡ false
    → result ≡ cast_unsigned w64 (signed 16 (number % 2 ^ 16))
    → result ≡ cast_unsigned w64 (ppc64_reads Ds x)
ds_held x number result is other low =
    rw other (signed_low 16 (ds_sum x) number result
    (place_sum_below ((ppc64_form Ds).places x) 16 x refl refl) is low)

pub dq_held : (x number result : ℕ) → number ≡ cast_unsigned w64 ((ppc64_form Ds).reading x)
    → is_dq_form x ≡ true
    → result ≡ cast_unsigned w64 (signed 16 ((number - number % 16) % 2 ^ 16))
    → result ≡ cast_unsigned w64 (ppc64_reads Ds x)
dq_held x number result is dq low =
    let of_word = ds_is x in
    let of_rest = ds_is (x - x % 16) in
    let sum : number ≡ ds_sum x = is in
    let same : number - number % 16 ≡ ds_sum (x - x % 16) = omega arith in
    rw dq (signed_low 16 (ds_sum (x - x % 16)) (number - number % 16) result
    (place_sum_below ((ppc64_form Ds).places x) 16 (x - x % 16) refl refl) same low)
