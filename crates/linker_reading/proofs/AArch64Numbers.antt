-- What an instruction of AArch64 holds: without the sign that a read gives; and what a move moves.
use Rattle.linker_reading.proofs.Imports.{AArch64, Bool, LdSt, Movkz, aarch64_form, ap, arith, cast_unsigned, false, field, if◌then◌else◌, mod-eq_of_lt, moved_value, negsuc, number_held, place_sum, place_sum_below, refl, shift_of, signed_bits, suc, true, w64, zero, ℕ, ◌%◌, ◌*◌, ◌-◌, ◌<◌, ◌^◌, ◌∙◌, ◌≡◌}

pub movkz_held : (x number result : ℕ) → number ≡ cast_unsigned w64 ((aarch64_form Movkz).reading x)
    → result ≡ number % 2 ^ 16 → result ≡ cast_unsigned w64 (number_held (AArch64 Movkz) x)
movkz_held x number result is low =
    let sum = place_sum ((aarch64_form Movkz).places x) x in
    low ∙ ap (λ y. y % 2 ^ 16) is
    ∙ signed_bits 16 sum (place_sum_below ((aarch64_form Movkz).places x) 16 x refl refl)
    (omega arith)

pub ldst_held : (x number result : ℕ) → number ≡ cast_unsigned w64 ((aarch64_form LdSt).reading x)
    → result ≡ number % 2 ^ 12 → result ≡ cast_unsigned w64 (number_held (AArch64 LdSt) x)
ldst_held x number result is low =
    let sum = place_sum ((aarch64_form LdSt).places x) x in
    low ∙ ap (λ y. y % 2 ^ 12) is
    ∙ signed_bits 12 sum (place_sum_below ((aarch64_form LdSt).places x) 12 x refl refl)
    (omega arith)

-- ---- moves of 16 bits

moved_below : (f s : ℕ) → f < 2 ^ 16 → s < 4 → f * 2 ^ (16 * s) < 2 ^ 64
moved_below f zero small few = omega (arith, small)
moved_below f (suc zero) small few = omega (arith, small)
moved_below f (suc (suc zero)) small few = omega (arith, small)
moved_below f (suc (suc (suc zero))) small few = omega (arith, small)
moved_below f (suc (suc (suc (suc s)))) small few = absurd (omega (arith, few))

-- MOVN complements its bits, and MOVZ does not.
pub moved_held : (x : ℕ) (negative : Bool)
    → (if negative then 2 ^ 64 - 1 - field x 5 21 * 2 ^ shift_of x % 2 ^ 64
    else field x 5 21 * 2 ^ shift_of x % 2 ^ 64)
    ≡ cast_unsigned w64 (moved_value negative (field x 5 21) (shift_of x))
moved_held x true =
    ap (λ y. 2 ^ 64 - 1 - y) (mod-eq_of_lt (moved_below (field x 5 21) (field x 21 23) (omega arith) (omega arith)))
    ∙ complement (field x 5 21 * 2 ^ shift_of x)
  where
    complement : (k : ℕ) → 2 ^ 64 - 1 - k ≡ cast_unsigned w64 (negsuc k)
    complement k = omega arith
moved_held x false =
    mod-eq_of_lt (moved_below (field x 5 21) (field x 21 23) (omega arith) (omega arith))
