-- The bits below the known ones, of multiples.
use Rattle.linker_reading.proofs.Imports.{FieldValue, FitsSigned, IsAligned, IsOfValue, IsProper, aligned_rem, ap, arith, cast_unsigned, div-add-mod', dvd-sub, field, mod-mod_of_dvd, mod_below, mul-mod_left, negsuc, pos, pow-add, suc, sum_64, sym, unsigned_abs, w64, zero-mod, ℕ, ℤ, ◌%◌, ◌*◌, ◌+◌, ◌-◌, ◌/◌, ◌<◌, ◌^◌, ◌∙◌, ◌≡◌, ◌≤◌}
use Rattle.std.proofs.lemmas.Nat.Gcd.{dvd_of_mod-eq-zero, mod-eq-zero_of_dvd}

-- a multiple of a multiple
multiple : (n a d : ℕ) → a % d ≡ 0 → n % a ≡ 0 → n % d ≡ 0
multiple n a d of_d of_a =
    sym (mod-mod_of_dvd d {b = a} n (dvd_of_mod-eq-zero d of_d)) ∙ ap (λ y. y % d) of_a ∙ zero-mod d

whole_multiple : (s : ℕ) → s ≤ 64 → 2 ^ 64 % 2 ^ s ≡ 0
whole_multiple s order =
    let whole : 2 ^ 64 ≡ 2 ^ (64 - s) * 2 ^ s =
    ap (λ j. 2 ^ j) (let same : 64 ≡ (64 - s) + s = omega arith in same) ∙ pow-add 2 (64 - s) s in
    ap (λ y. y % 2 ^ s) whole ∙ mul-mod_left (2 ^ (64 - s)) (2 ^ s)

-- the number that comes after one with the greatest remainder
next_multiple : (n a : ℕ) → 0 < a → a - 1 - n % a ≡ 0 → suc n % a ≡ 0
next_multiple n a some e =
    let rest = mod_below n a some in
    let parts = div-add-mod' n a in
    let whole : suc n ≡ (n / a + 1) * a = turned (n / a) a n (n % a) parts (omega arith) in
    ap (λ y. y % a) whole ∙ mul-mod_left (n / a + 1) a
  where
    turned : (q a n r : ℕ) → q * a + r ≡ n → suc r ≡ a → suc n ≡ (q + 1) * a
    turned q a n r e f = grind arith

pub no_low_bits : (v : ℤ) (a s : ℕ) → FitsSigned w64 v → 0 < a → a % 2 ^ s ≡ 0 → s ≤ 64
    → IsAligned a v → cast_unsigned w64 v % 2 ^ s ≡ 0
no_low_bits (pos n) a s fits some of_d order aligned =
    multiple n a (2 ^ s) of_d (ap unsigned_abs aligned)
no_low_bits (negsuc n) a s fits some of_d order aligned =
    let small : n < 2 ^ 63 = fits.sfits in
    let next : suc n % 2 ^ s ≡ 0 =
    multiple (suc n) a (2 ^ s) of_d (next_multiple n a some (ap unsigned_abs aligned)) in
    mod-eq-zero_of_dvd (2 ^ s) (dvd-sub (2 ^ s) (dvd_of_mod-eq-zero (2 ^ s) (whole_multiple s order)) (dvd_of_mod-eq-zero (2 ^ s) next))

-- its bits from 0 up
from_bit_0 : (n s e : ℕ) → s ≤ e → n % 2 ^ s ≡ 0 → field n 0 e ≡ field n s e * 2 ^ s
from_bit_0 n s e order none =
    let one : n / 2 ^ 0 ≡ n = omega arith in
    let all : e - 0 ≡ e = omega arith in
    ap (λ y. y % 2 ^ (e - 0)) one ∙ ap (λ k. n % 2 ^ k) all
    ∙ ap (λ y. y % 2 ^ e) (let same : n ≡ n - n % 2 ^ s = omega arith in same)
    ∙ aligned_rem n s e order

-- no rounding
unrounded : (f : FieldValue) (n s e : ℕ) → n < 2 ^ 64 → f.rounding ≡ 0
    → field (sum_64 n f.rounding) s e ≡ field n s e
unrounded f n s e small zero =
    ap (λ r. field (sum_64 n r) s e) zero
    ∙ ap (λ y. field y s e) (let same : (n + 0) % 2 ^ 64 ≡ n = omega arith in same)

pub cast_below : (v : ℤ) → FitsSigned w64 v → cast_unsigned w64 v < 2 ^ 64
cast_below (pos n) h = let small : n < 2 ^ 63 = h.sfits in omega arith
cast_below (negsuc n) h = omega arith

pub alignment_leaves : (alignment : ℕ) (f : FieldValue) → IsProper f → 0 < alignment
    → f.rounding ≡ 0 → alignment % 2 ^ f.known.start ≡ 0
    → (v : ℤ) → FitsSigned w64 v → IsAligned alignment v → IsOfValue f v
    → IsOfValue (record {
      known = record { start = 0; end = f.known.end };
      bits = f.bits * 2 ^ f.known.start;
      rounding = 0;
    }) v
alignment_leaves alignment f proper some zero of_unit v fits aligned known =
    let s = f.known.start in
    let e = f.known.end in
    let n = cast_unsigned w64 v in
    let order = proper.some in
    let inside = proper.inside in
    let none = no_low_bits v alignment s fits some of_unit (omega arith) aligned in
    let small = cast_below v fits in
    ap (λ y. field y 0 e) (let same : (n + 0) % 2 ^ 64 ≡ n = omega arith in same)
    ∙ from_bit_0 n s e (omega arith) none
    ∙ ap (λ y. y * 2 ^ s) (sym (unrounded f n s e small zero) ∙ known)
