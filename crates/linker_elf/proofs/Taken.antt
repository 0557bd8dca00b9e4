-- The bits of a value that are written are bits of the whole number.
use Rattle.linker_elf.proofs.Imports.{BitRange, FitsSigned, IsAligned, IsFieldOf, IsTrue, ap, arith, bit_and, bits_from, bits_taken, cases_lt, cast_unsigned, eqb-true, inl, inr, int_rem_euclid, low_mask_keeps, mod-eq_of_lt, mod_below, nat_eq, negsuc, one_shl, pos, pow_pos, refl, subst, subst_below, suc, sym, unsigned_abs, w64, ℕ, ℤ, ◌%◌, ◌*◌, ◌-◌, ◌/◌, ◌<◌, ◌^◌, ◌∙◌, ◌≡◌, ◌≤◌}
use Rattle.linker_elf.proofs.Agreement.{rem_rem, from_zero}
use Rattle.linker_base.proofs.TwosComplement.{negative}

pub taken_is_field : (bits : BitRange) (v : ℤ) → FitsSigned w64 v → bits.start < bits.end → bits.end ≤ 64 → IsFieldOf v bits.start bits.end (bits_taken bits v)
taken_is_field bits (pos n) h some inside = refl
taken_is_field bits (negsuc n) h some inside =
    let small : n < 2 ^ 63 = h.sfits in
    negative n bits.start (bits.end - bits.start) (64 - bits.end) (omega arith) (omega arith)

-- ---- multiples of powers of two

low_bits_are_rest : (v : ℤ) (k : ℕ) → FitsSigned w64 v → k ≤ 64
    → pos (cast_unsigned w64 v % 2 ^ k) ≡ int_rem_euclid v (pos (2 ^ k))
low_bits_are_rest (pos n) k h most = refl
low_bits_are_rest (negsuc n) k h most =
    let small : n < 2 ^ 63 = h.sfits in
    let one : n / 2 ^ 0 ≡ n = omega arith in
    let whole : (2 ^ 64 - suc n) / 2 ^ 0 ≡ 2 ^ 64 - suc n = omega arith in
    let from_bit_0 = negative n 0 k (64 - k) (omega arith) (omega arith) in
    subst (λ x. pos (x % 2 ^ k) ≡ int_rem_euclid (negsuc n) (pos (2 ^ k))) whole
    (subst (λ x. pos ((2 ^ 64 - suc n) / 2 ^ 0 % 2 ^ k) ≡ int_rem_euclid (negsuc x) (pos (2 ^ k)))
    one from_bit_0)

zero_is : (n : ℕ) → n ≡ 0 → IsTrue (nat_eq n 0)
zero_is n h = rw h refl

-- the code's test of a power of two's multiples
abbrev pub HasNoLowBits : ℕ → ℕ → Type 0
HasNoLowBits n k = IsTrue (nat_eq (bit_and n (1 * 2 ^ k % 18446744073709551616 - 1)) 0)

pub is_multiple : (v : ℤ) (n a k : ℕ) → FitsSigned w64 v → n ≡ cast_unsigned w64 v → k < 64
    → a ≡ 1 * 2 ^ k % 18446744073709551616
    → (HasNoLowBits n k → IsAligned a v) × (IsAligned a v → HasNoLowBits n k)
is_multiple v n a k h is most e =
    let unit : a ≡ 2 ^ k = e ∙ one_shl k 64 most in
    let low : pos (n % 2 ^ k) ≡ int_rem_euclid v (pos (2 ^ k)) =
    ap (λ x. pos (x % 2 ^ k)) is ∙ low_bits_are_rest v k h (omega arith) in
    let there : IsTrue (nat_eq (n % 2 ^ k) 0) → IsAligned (2 ^ k) v =
    λ yes. sym low ∙ ap pos (eqb-true (n % 2 ^ k) 0 yes) in
    let back : IsAligned (2 ^ k) v → IsTrue (nat_eq (n % 2 ^ k) 0) =
    λ z. zero_is (n % 2 ^ k) (ap unsigned_abs (low ∙ z)) in
    rw (low_mask_keeps n k most, unit) (there, back)

-- the bits that are taken of a value have its low n bits
pub taken_low : (n : ℕ) (bits : BitRange) (v : ℤ) → FitsSigned w64 v → bits.start ≡ 0 → n ≤ bits.end
    → bits.end ≤ 64 → bits.start < bits.end
    → pos (bits_taken bits v % 2 ^ n) ≡ int_rem_euclid v (pos (2 ^ n))
taken_low n bits v small start long inside some =
    let e : pos (bits_taken bits v) ≡ int_rem_euclid (bits_from bits.start v) (pos (2 ^ (bits.end - bits.start))) = taken_is_field bits v small some inside in
    let from : bits_from bits.start v ≡ v = ap (λ s. bits_from s v) start ∙ from_zero v in
    rem_rem v (bits_taken bits v) (bits.end - bits.start) n (omega arith) (e
    ∙ ap (λ z. int_rem_euclid z (pos (2 ^ (bits.end - bits.start)))) from)

pub taken_below : (bits : BitRange) (v : ℤ) → bits.end ≤ 64 → bits_taken bits v < 2 ^ 64
taken_below bits v inside =
    subst_below (bits_taken bits v) (bits.end - bits.start) 64
    (mod_below (cast_unsigned w64 v / 2 ^ bits.start) (2 ^ (bits.end - bits.start)) (pow_pos (bits.end - bits.start))) (omega arith)

-- those of bits from 0 up
taken_below_end : (bits : BitRange) (v : ℤ) → bits.start ≡ 0 → bits_taken bits v < 2 ^ bits.end
taken_below_end bits v start =
    let width : bits.end - bits.start ≡ bits.end = omega arith in
    subst (λ n. bits_taken bits v < 2 ^ n) width
    (mod_below (cast_unsigned w64 v / 2 ^ bits.start) (2 ^ (bits.end - bits.start))
    (pow_pos (bits.end - bits.start)))

-- the bits that are taken of a multiple of 16 are one too
pub taken_in_units : (bits : BitRange) (v : ℤ) → FitsSigned w64 v → bits.start ≡ 0
    → bits.end ≤ 64 → bits.start < bits.end → IsAligned 16 v → bits_taken bits v % 16 ≡ 0
taken_in_units bits v small start inside some aligned =
    elim (cases_lt bits.end 4) [
      | inl short ↦
          let f = bits_taken bits v in
          let e : pos (f % 2 ^ bits.end) ≡ int_rem_euclid v (pos (2 ^ bits.end)) =
          taken_low bits.end bits v small start (omega arith) inside some in
          let none : int_rem_euclid v (pos (2 ^ bits.end)) ≡ pos (0 % 2 ^ bits.end) =
          sym (rem_rem v 0 4 bits.end (omega arith) (sym aligned)) in
          let zero : f % 2 ^ bits.end ≡ 0 % 2 ^ bits.end = ap unsigned_abs (e ∙ none) in
          let below : f < 2 ^ bits.end = taken_below_end bits v start in
          ap (λ y. y % 16) (sym (mod-eq_of_lt below) ∙ zero ∙ mod-eq_of_lt (pow_pos bits.end))
      | inr long ↦ ap unsigned_abs (taken_low 4 bits v small start long inside some ∙ aligned)
    ]
