-- Numbers in two's complement.
use Rattle.linker_reading.proofs.Imports.{ap, arith, cases_lt, cast_unsigned, inl, inr, ints, mod-eq_of_lt, neg_ℤ, negsuc, pos, signed, signed_cases, subst, sym, w64, ℕ, ℤ, ◌%◌, ◌+◌, ◌-ℤ◌, ◌-◌, ◌<ℤ◌, ◌<◌, ◌^◌, ◌∙◌, ◌≡◌, ◌≤ℤ◌, ◌≤◌}

-- from -2 ^ 32 up, below 2 ^ 32
abbrev pub IsShort : ℤ → Type 0
IsShort z = (neg_ℤ (pos (2 ^ 32)) ≤ℤ z) × (z <ℤ pos (2 ^ 32))

pub short : (n f : ℕ) → 2 ^ n ≤ 2 ^ 32 → f < 2 ^ n → IsShort (signed n f)
short n f most small =
    elim (signed_cases n f) [
      | inl a ↦ subst IsShort (sym a.1) (omega (arith, ints), omega (arith, ints))
      | inr a ↦ subst IsShort (sym a.1) (omega (arith, ints), omega (arith, ints))
    ]

-- the rounding that was taken off, added again
pub rounded_again : (z : ℤ) → IsShort z
    → (cast_unsigned w64 (z -ℤ pos 0x800) + 0x800) % 2 ^ 64 ≡ cast_unsigned w64 z
rounded_again (pos n) h =
    let small : n < 2 ^ 32 = omega (arith, ints, h.1) in
    elim (cases_lt n 0x800) [
      | inl below ↦
          let less : pos n -ℤ pos 0x800 ≡ negsuc (0x800 - n - 1) = omega (arith, ints) in
          ap (λ y. (cast_unsigned w64 y + 0x800) % 2 ^ 64) less ∙ omega arith
      | inr above ↦
          let less : pos n -ℤ pos 0x800 ≡ pos (n - 0x800) = omega (arith, ints) in
          ap (λ y. (cast_unsigned w64 y + 0x800) % 2 ^ 64) less ∙ omega arith
    ]
rounded_again (negsuc n) h =
    let small : n < 2 ^ 32 = omega (arith, ints, h.0) in
    let less : negsuc n -ℤ pos 0x800 ≡ negsuc (n + 0x800) = omega (arith, ints) in
    ap (λ y. (cast_unsigned w64 y + 0x800) % 2 ^ 64) less ∙ omega arith

-- a number of n bits, of which the low n bits are read in two's complement
pub signed_low : (n f number result : ℕ) → f < 2 ^ n → number ≡ f
    → result ≡ cast_unsigned w64 (signed n (number % 2 ^ n))
    → result ≡ cast_unsigned w64 (signed n f)
signed_low n f number result small is low =
    low ∙ ap (λ y. cast_unsigned w64 (signed n y)) (ap (λ y. y % 2 ^ n) is ∙ mod-eq_of_lt small)
