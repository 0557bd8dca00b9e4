-- The arithmetic of LoongArch calls and addresses of several instructions.
use Rattle.linker_elf.proofs.Imports.{IsCallBy, ap, arith, cond_both, int_rem_euclid, int_rem_euclid_is, ints, ltb, ltb-false, ltb-true, neg_ℤ, negsuc, pos, refl, signed, suc, ℕ, ℤ, ◌%◌, ◌*ℤ◌, ◌*◌, ◌+ℤ◌, ◌+◌, ◌-ℤ◌, ◌-◌, ◌/◌, ◌<ℤ◌, ◌<◌, ◌^◌, ◌∙◌, ◌≡◌, ◌≤ℤ◌, ◌≤◌}

-- the numbers of 20 and of 16 bits that h and l are in two's complement, by cases
by_signs : (h l : ℕ) (P : ℤ → ℤ → Type 0)
    → (h < 2 ^ 19 → l < 2 ^ 15 → P (pos h) (pos l))
    → (h < 2 ^ 19 → 2 ^ 15 ≤ l → P (pos h) (pos l -ℤ pos (2 ^ 16)))
    → (2 ^ 19 ≤ h → l < 2 ^ 15 → P (pos h -ℤ pos (2 ^ 20)) (pos l))
    → (2 ^ 19 ≤ h → 2 ^ 15 ≤ l → P (pos h -ℤ pos (2 ^ 20)) (pos l -ℤ pos (2 ^ 16)))
    → P (signed 20 h) (signed 16 l)
by_signs h l P a b c d =
    cond_both (ltb h (2 ^ 19)) (pos h) (pos h -ℤ pos (2 ^ 20)) (λ z. P z (signed 16 l))
    (λ s. cond_both (ltb l (2 ^ 15)) (pos l) (pos l -ℤ pos (2 ^ 16)) (P (pos h))
    (λ t. a (ltb-true h (2 ^ 19) s) (ltb-true l (2 ^ 15) t))
    (λ t. b (ltb-true h (2 ^ 19) s) (ltb-false l (2 ^ 15) t)))
    (λ s. cond_both (ltb l (2 ^ 15)) (pos l) (pos l -ℤ pos (2 ^ 16)) (P (pos h -ℤ pos (2 ^ 20)))
    (λ t. c (ltb-false h (2 ^ 19) s) (ltb-true l (2 ^ 15) t))
    (λ t. d (ltb-false h (2 ^ 19) s) (ltb-false l (2 ^ 15) t)))

-- the immediates of `pcaddu18i` and `jirl` together, modulo 2 ^ 36
pub pair_number : (v h l : ℕ) → v < 2 ^ 64 → h ≡ (v + 0x8000) % 2 ^ 64 / 2 ^ 16 % 2 ^ 20 → l ≡ v % 2 ^ 16
    → int_rem_euclid ((signed 20 h *ℤ pos (2 ^ 16)) +ℤ signed 16 l) (pos (2 ^ 36)) ≡ int_rem_euclid (pos v) (pos (2 ^ 36))
pair_number v h l b e f =
    by_signs h l (λ s t. int_rem_euclid ((s *ℤ pos (2 ^ 16)) +ℤ t) (pos (2 ^ 36)) ≡ pos (v % 2 ^ 36))
    (λ s t. int_rem_euclid_is ((pos h *ℤ pos (2 ^ 16)) +ℤ pos l) (pos (2 ^ 36)) (2 ^ 36) 1 (h * 2 ^ 16 + l + 2 ^ 36) (omega arith) refl (omega (arith, ints)) ∙ ap pos (omega arith))
    (λ s t. int_rem_euclid_is ((pos h *ℤ pos (2 ^ 16)) +ℤ (pos l -ℤ pos (2 ^ 16))) (pos (2 ^ 36)) (2 ^ 36) 1 (h * 2 ^ 16 + l + (2 ^ 36 - 2 ^ 16)) (omega arith) refl (omega (arith, ints)) ∙ ap pos (omega arith))
    (λ s t. int_rem_euclid_is (((pos h -ℤ pos (2 ^ 20)) *ℤ pos (2 ^ 16)) +ℤ pos l) (pos (2 ^ 36)) (2 ^ 36) 1 (h * 2 ^ 16 + l) (omega arith) refl (omega (arith, ints)) ∙ ap pos (omega arith))
    (λ s t. int_rem_euclid_is (((pos h -ℤ pos (2 ^ 20)) *ℤ pos (2 ^ 16)) +ℤ (pos l -ℤ pos (2 ^ 16))) (pos (2 ^ 36)) (2 ^ 36) 1 (h * 2 ^ 16 + l - 2 ^ 16) (omega arith) refl (omega (arith, ints)) ∙ ap pos (omega arith))

-- the distance is not negative, or it is
near_forward : (v h l a : ℕ) → h ≡ (v + 0x8000) % 2 ^ 64 / 2 ^ 16 % 2 ^ 20 → l ≡ v % 2 ^ 16 → a % 4 ≡ 0 → v ≡ a / 4 % 2 ^ 36 → a < 2 ^ 37 - 2 ^ 17
    → (signed 20 h *ℤ pos (2 ^ 18)) +ℤ (signed 16 l *ℤ pos 4) ≡ pos a
near_forward v h l a e f m is b =
    by_signs h l (λ s t. (s *ℤ pos (2 ^ 18)) +ℤ (t *ℤ pos 4) ≡ pos a)
    (λ s t. omega (arith, ints))
    (λ s t. omega (arith, ints))
    (λ s t. absurd (omega arith))
    (λ s t. absurd (omega arith))

-- n is 2 ^ 38 less the distance
near_backward : (v h l n : ℕ) → h ≡ (v + 0x8000) % 2 ^ 64 / 2 ^ 16 % 2 ^ 20 → l ≡ v % 2 ^ 16 → n ≡ v * 4 → 2 ^ 37 ≤ n → n < 2 ^ 38
    → (signed 20 h *ℤ pos (2 ^ 18)) +ℤ (signed 16 l *ℤ pos 4) ≡ pos n -ℤ pos (2 ^ 38)
near_backward v h l n e f is a b =
    by_signs h l (λ s t. (s *ℤ pos (2 ^ 18)) +ℤ (t *ℤ pos 4) ≡ pos n -ℤ pos (2 ^ 38))
    (λ s t. absurd (omega arith))
    (λ s t. omega (arith, ints))
    (λ s t. omega (arith, ints))
    (λ s t. omega (arith, ints))

far_forward : (v h l a : ℕ) → h ≡ (v + 0x8000) % 2 ^ 64 / 2 ^ 16 % 2 ^ 20 → l ≡ v % 2 ^ 16 → a % 4 ≡ 0 → v ≡ a / 4 % 2 ^ 36 → 2 ^ 37 - 2 ^ 17 ≤ a → a < 2 ^ 37
    → (signed 20 h *ℤ pos (2 ^ 18)) +ℤ (signed 16 l *ℤ pos 4) ≡ pos a -ℤ pos (2 ^ 38)
far_forward v h l a e f m is b c =
    by_signs h l (λ s t. (s *ℤ pos (2 ^ 18)) +ℤ (t *ℤ pos 4) ≡ pos a -ℤ pos (2 ^ 38))
    (λ s t. absurd (omega arith))
    (λ s t. absurd (omega arith))
    (λ s t. absurd (omega arith))
    (λ s t. omega (arith, ints))

backward_bits : (v a : ℕ) → 4 - 1 - a % 4 ≡ 0 → v ≡ (2 ^ 64 - suc a) / 2 ^ 2 % 2 ^ 36 → a < 2 ^ 37 → 2 ^ 38 - suc a ≡ v * 4
backward_bits v a m is h = omega arith

pub near_pair : (v h l : ℕ) (d : ℤ) → h ≡ (v + 0x8000) % 2 ^ 64 / 2 ^ 16 % 2 ^ 20 → l ≡ v % 2 ^ 16 → IsCallBy v d
    → neg_ℤ (pos (2 ^ 37)) ≤ℤ d → d <ℤ pos (2 ^ 37 - 2 ^ 17) → (signed 20 h *ℤ pos (2 ^ 18)) +ℤ (signed 16 l *ℤ pos 4) ≡ d
near_pair v h l (pos a) e f is b c = let m = is.aligned in let aligned : a % 4 ≡ 0 = cc in near_forward v h l a e f aligned is.bits (omega (arith, ints))
near_pair v h l (negsuc a) e f is b c =
    let m = is.aligned in
    let aligned : 4 - 1 - a % 4 ≡ 0 = cc in
    let small : a < 2 ^ 37 = omega (arith, ints) in
    near_backward v h l (2 ^ 38 - suc a) e f (backward_bits v a aligned is.bits small) (omega arith) (omega arith) ∙ omega (arith, ints)

pub far_pair : (v h l : ℕ) (d : ℤ) → h ≡ (v + 0x8000) % 2 ^ 64 / 2 ^ 16 % 2 ^ 20 → l ≡ v % 2 ^ 16 → IsCallBy v d
    → pos (2 ^ 37 - 2 ^ 17) ≤ℤ d → d <ℤ pos (2 ^ 37) → (signed 20 h *ℤ pos (2 ^ 18)) +ℤ (signed 16 l *ℤ pos 4) ≡ d -ℤ pos (2 ^ 38)
far_pair v h l (pos a) e f is b c = let m = is.aligned in let aligned : a % 4 ≡ 0 = cc in far_forward v h l a e f aligned is.bits (omega (arith, ints)) (omega (arith, ints))
far_pair v h l (negsuc a) e f is b c = absurd (omega (arith, ints))
