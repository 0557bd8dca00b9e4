-- Masks, fields and two's complement in 64 bits.
use Rattle.linker_base.proofs.Imports.{and_mask, and_pow, ap, arith, bit_and, bit_at, bit_at-lt, bit_at_above, bit_at_cat_high, bit_at_cat_low, bit_at_mask_below, bit_at_mask_inside, bit_at_ones, bit_at_or, bit_or, cases_order, cast_signed, cast_unsigned, high_ones, inl, inr, ints, max, mod-eq_of_lt, mod_below, mul-le, negsuc, one_shl, ones_shl, ones_shr, or_lt, pos, pow-add, pow_below, pow_pos, refl, same_from_bits_below, shr_high, shr_split, signed, suc, sym, w64, ℕ, ◌%◌, ◌*◌, ◌+◌, ◌-ℤ◌, ◌-◌, ◌/◌, ◌<◌, ◌^◌, ◌∙◌, ◌≡◌, ◌≤◌, ◌⊎◌}
use Rattle.std.proofs.Math.Facts.{to_z-neg}
use Rattle.linker_base.proofs.Fields.{signed_cases}

-- the code's mask of the lowest n bits, made from the top
pub high_mask_keeps : (v n : ℕ) → 0 < n → n ≤ 64 → bit_and v (18446744073709551615 / 2 ^ (64 - n)) ≡ v % 2 ^ n
high_mask_keeps v n some most =
    let mask : 18446744073709551615 / 2 ^ (64 - n) ≡ 2 ^ (64 - (64 - n)) - 1 = ones_shr 64 (64 - n) (omega arith) in
    let back : 64 - (64 - n) ≡ n = omega arith in
    rw (mask, back) (and_mask v n)

-- the code's mask of the lowest n bits, made from the bottom
pub low_mask_keeps : (v n : ℕ) → n < 64 → bit_and v (1 * 2 ^ n % 18446744073709551616 - 1) ≡ v % 2 ^ n
low_mask_keeps v n most =
    let one : 1 * 2 ^ n % 18446744073709551616 ≡ 2 ^ n = one_shl n 64 most in
    rw one (and_mask v n)

-- v with every bit from k up set, below bit m + k
filled : ℕ → ℕ → ℕ → ℕ
filled m k v = (2 ^ m - 1) * 2 ^ k + v % 2 ^ k

filled_lt : (m k v : ℕ) → filled m k v < 2 ^ (m + k)
unfolding filled
filled_lt m k v =
    let place : 0 < 2 ^ k = pow_pos k in
    let some : 0 < 2 ^ m = pow_pos m in
    let low : v % 2 ^ k < 2 ^ k = mod_below v (2 ^ k) place in
    let fits : 1 * 2 ^ k ≤ 2 ^ m * 2 ^ k = mul-le 1 (2 ^ k) (2 ^ m) (2 ^ k) some (omega arith) in
    rw (← high_ones m k, pow-add 2 m k) (omega (arith, fits, low))

filled_below : (m k v i : ℕ) → i < k → bit_at (filled m k v) i ≡ bit_at v i
unfolding filled
filled_below m k v i below =
    bit_at_cat_low (2 ^ m - 1) k (v % 2 ^ k) i below
    ∙ sym (bit_at_cat_low (v / 2 ^ k) k (v % 2 ^ k) i below)
    ∙ ap (λ n. bit_at n i) (shr_split v k)

filled_above : (m k v i : ℕ) → k ≤ i → i < m + k → bit_at (filled m k v) i ≡ 1
unfolding filled
filled_above m k v i above within =
    bit_at_cat_high (2 ^ m - 1) k (v % 2 ^ k) i (mod_below v (2 ^ k) (pow_pos k)) above
    ∙ bit_at_ones m (i - k) (omega arith)

same_bits : (v b i : ℕ) → b < 64 → bit_at v b ≡ 1 → i < 64 → (i ≡ b) ⊎ ((i < b) ⊎ (b < i))
    → max (bit_at v i) (bit_at (2 ^ 64 - 2 ^ b) i) ≡ bit_at (filled (63 - b) (b + 1) v) i
same_bits v b i within set inside (inr (inl below)) =
    let mask : bit_at (2 ^ 64 - 2 ^ b) i ≡ 0 = bit_at_mask_below b 64 i below in
    let after : bit_at (filled (63 - b) (b + 1) v) i ≡ bit_at v i = filled_below (63 - b) (b + 1) v i (omega arith) in
    rw (mask, after) (omega arith)
same_bits v b i within set inside (inl at) =
    let mask : bit_at (2 ^ 64 - 2 ^ b) i ≡ 1 = bit_at_mask_inside b 64 i (omega arith) inside in
    let after : bit_at (filled (63 - b) (b + 1) v) i ≡ bit_at v i = filled_below (63 - b) (b + 1) v i (omega arith) in
    let one : bit_at v i ≡ 1 = ap (λ j. bit_at v j) at ∙ set in
    rw (mask, after, one) refl
same_bits v b i within set inside (inr (inr above)) =
    let mask : bit_at (2 ^ 64 - 2 ^ b) i ≡ 1 = bit_at_mask_inside b 64 i (omega arith) inside in
    let after : bit_at (filled (63 - b) (b + 1) v) i ≡ 1 = filled_above (63 - b) (b + 1) v i (omega arith) (omega arith) in
    rw (mask, after) (omega (arith, bit_at-lt v i))

-- to set every bit above bit b, where b itself is set
pub set_above : (v b : ℕ) → v < 2 ^ 64 → b < 64 → bit_at v b ≡ 1
    → bit_or v (18446744073709551615 * 2 ^ b % 18446744073709551616) ≡ v % 2 ^ (b + 1) + (2 ^ 64 - 2 ^ (b + 1))
unfolding filled
set_above v b fits within set =
    let mask : 18446744073709551615 * 2 ^ b % 18446744073709551616 ≡ 2 ^ 64 - 2 ^ b = ones_shl 64 b (omega arith) in
    let width : 63 - b + (b + 1) ≡ 64 = omega arith in
    let ones : (2 ^ (63 - b) - 1) * 2 ^ (b + 1) ≡ 2 ^ 64 - 2 ^ (b + 1) = sym (rw width at (high_ones (63 - b) (b + 1))) in
    let small : filled (63 - b) (b + 1) v < 2 ^ 64 = rw width at (filled_lt (63 - b) (b + 1) v) in
    let place : 0 < 2 ^ b = pow_pos b in
    let or_small : bit_or v (2 ^ 64 - 2 ^ b) < 2 ^ 64 = or_lt 64 v (2 ^ 64 - 2 ^ b) fits (omega arith) in
    let bits : (i : ℕ) → i < 64 → bit_at (bit_or v (2 ^ 64 - 2 ^ b)) i ≡ bit_at (filled (63 - b) (b + 1) v) i
    = λ i h. bit_at_or v (2 ^ 64 - 2 ^ b) i ∙ same_bits v b i within set h (cases_order i b) in
    let same : bit_or v (2 ^ 64 - 2 ^ b) ≡ filled (63 - b) (b + 1) v = same_from_bits_below 64 _ _ or_small small bits in
    rw mask (same ∙ ap (λ n. n + v % 2 ^ (b + 1)) ones ∙ omega arith)

-- the code's test of bit b
pub tested : (v b : ℕ) → b < 64 → bit_and v (1 * 2 ^ b % 18446744073709551616) ≡ bit_at v b * 2 ^ b
tested v b within =
    let one : 1 * 2 ^ b % 18446744073709551616 ≡ 2 ^ b = one_shl b 64 within in
    rw one (and_pow v b)

pub tested_clear : (v b : ℕ) → b < 64 → bit_at v b ≡ 0 → bit_and v (1 * 2 ^ b % 18446744073709551616) ≡ 0
tested_clear v b within clear = tested v b within ∙ ap (λ n. n * 2 ^ b) clear ∙ omega arith

pub tested_set : (v b : ℕ) → b < 64 → bit_at v b ≡ 1 → bit_and v (1 * 2 ^ b % 18446744073709551616) ≡ 0 → ⊥
tested_set v b within set none =
    let some : 0 < 2 ^ b = pow_pos b in
    let product : bit_at v b * 2 ^ b ≡ 0 = sym (tested v b within) ∙ none in
    let alone : 1 * 2 ^ b ≡ 0 = rw set at product in
    omega (arith, some, alone)

-- f, of n bits, as the code extends it from bit n - 1, is what two's complement says
gap_bits : (a b : ℕ) → a < b → b < 2 ^ 64 → cast_unsigned w64 (pos a -ℤ pos b) ≡ a + (2 ^ 64 - b)
gap_bits a b less fits =
    let below : pos a -ℤ pos b ≡ negsuc (b - a - 1) = omega (arith, ints) in
    rw below (omega arith)

top_bit : (k f : ℕ) → 2 ^ k ≤ f → f < 2 ^ (k + 1) → bit_at f k ≡ 1
top_bit k f most within =
    let double : 2 ^ (k + 1) ≡ 2 ^ k * 2 ^ 1 = pow-add 2 k 1 in
    let rest : f - 2 ^ k < 2 ^ k = omega (arith, double) in
    let split : 1 * 2 ^ k + (f - 2 ^ k) ≡ f = omega arith in
    let one : (1 * 2 ^ k + (f - 2 ^ k)) / 2 ^ k ≡ 1 = shr_high 1 k (f - 2 ^ k) rest in
    ap (λ n. n % 2) (ap (λ n. n / 2 ^ k) (sym split) ∙ one)

pub signed_bits : (n f r : ℕ) → 0 < n → n < 64 → f < 2 ^ n → (bit_at f (n - 1) ≡ 0 → r ≡ f)
    → (bit_at f (n - 1) ≡ 1 → r ≡ f % 2 ^ (n - 1 + 1) + (2 ^ 64 - 2 ^ (n - 1 + 1))) → r ≡ cast_unsigned w64 (signed n f)
signed_bits n f r some most within clear set =
    let back : n - 1 + 1 ≡ n = omega arith in
    elim (signed_cases n f) [
      | inl low ↦ rw low.1 (clear (bit_at_above f (n - 1) (n - 1) low.0 (omega arith)))
      | inr high ↦
          let fits : 2 ^ n < 2 ^ 64 = pow_below n 64 most in
          let top : bit_at f (n - 1) ≡ 1 = top_bit (n - 1) f high.0 (rw back within) in
          rw (high.1, gap_bits f (2 ^ n) within fits) (rw (back, mod-eq_of_lt within) at (set top))
    ]

-- the negative number of 64 bits with these bits
pub cast_negative : (x : ℕ) → x < 2 ^ 64 → 2 ^ 63 ≤ x → cast_signed w64 x ≡ negsuc (2 ^ 64 - suc x)
cast_negative x h l =
    let e : x ≡ 2 ^ 64 - suc (2 ^ 64 - suc x) = omega arith in
    ap (cast_signed w64) e ∙ to_z-neg w64 (2 ^ 64 - suc x) (omega arith)
