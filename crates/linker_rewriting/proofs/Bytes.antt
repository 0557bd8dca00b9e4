-- What a number of bytes tells of them.
use Rattle.linker_rewriting.proofs.Imports.{AreBytes, List, OneByteTells, WordsTell, ap, arith, bytes_number, cases_lt, get_or, inl, inr, refl, subst, suc, sym, turned, zero, ℕ, ◌%◌, ◌*◌, ◌+◌, ◌/◌, ◌<◌, ◌^◌, ◌∙◌, ◌≡◌, ◌≤◌}

-- ---- one step

step : ℕ → ℕ → ℕ
step number byte = (turned number + byte) % 2 ^ 32

turned_below : (a : ℕ) → a < 2 ^ 32 → a % 2 ^ 24 * 2 ^ 8 + a / 2 ^ 24 < 2 ^ 32
turned_below a low = omega (arith, low)

turned_same : (a c : ℕ) → a % 2 ^ 24 * 2 ^ 8 + a / 2 ^ 24 ≡ c % 2 ^ 24 * 2 ^ 8 + c / 2 ^ 24 → a < 2 ^ 32 → c < 2 ^ 32
    → a ≡ c
turned_same a c e low other = omega (arith, e, low, other)

sum_same : (x y b : ℕ) → x < 2 ^ 32 → y < 2 ^ 32 → (x + b) % 2 ^ 32 ≡ (y + b) % 2 ^ 32 → x ≡ y
sum_same x y b low other e = omega (arith, low, other, e)

byte_same : (x b d : ℕ) → b < 2 ^ 8 → d < 2 ^ 8 → (x + b) % 2 ^ 32 ≡ (x + d) % 2 ^ 32 → b ≡ d
byte_same x b d low other e = omega (arith, low, other, e)

number_same : (a c b : ℕ) → a < 2 ^ 32 → c < 2 ^ 32 → (turned a + b) % 2 ^ 32 ≡ (turned c + b) % 2 ^ 32 → a ≡ c
number_same a c b low other e =
    turned_same a c (sum_same (turned a) (turned c) b (turned_below a low) (turned_below c other) e) low other

below : (section : List ℕ) (start n : ℕ) → bytes_number section start n < 2 ^ 32
below section start zero = omega arith
below section start (suc n) = omega arith

-- ---- one byte

same_numbers : (section other : List ℕ) (start n : ℕ)
    → ((i : ℕ) → i < n → get_or section (start + i) 0 ≡ get_or other (start + i) 0)
    → bytes_number section start n ≡ bytes_number other start n
same_numbers section other start zero same = refl
same_numbers section other start (suc n) same =
    ap (λ number. (turned number + get_or section (start + n) 0) % 2 ^ 32)
    (same_numbers section other start n (λ i less. same i (omega (arith, less))))
    ∙ ap (λ byte. (turned (bytes_number other start n) + byte) % 2 ^ 32) (same n (omega arith))

pub one_byte_tells : OneByteTells
one_byte_tells section other start zero at bytes others from before same differs e =
    absurd (omega (arith, from, before))
one_byte_tells section other start (suc n) at bytes others from before same differs e =
    elim (cases_lt at (start + n)) [
      | inl earlier ↦
          let byte : get_or section (start + n) 0 ≡ get_or other (start + n) 0 =
          same (start + n) (λ is. absurd (omega (arith, is, earlier))) in
          one_byte_tells section other start n at bytes others from earlier same differs
          (number_same (bytes_number section start n) (bytes_number other start n) (get_or other (start + n) 0)
          (below section start n) (below other start n)
          (ap (λ b. (turned (bytes_number section start n) + b) % 2 ^ 32) (sym byte) ∙ e))
      | inr from_it ↦
          let is : at ≡ start + n = omega (arith, from_it, before) in
          let number : bytes_number section start n ≡ bytes_number other start n =
          same_numbers section other start n (λ i less. same (start + i) (λ here. absurd (omega (arith, here, is, less)))) in
          differs (subst (λ k. get_or section k 0 ≡ get_or other k 0) (sym is)
          (byte_same (turned (bytes_number other start n)) (get_or section (start + n) 0) (get_or other (start + n) 0)
          (bytes (start + n)) (others (start + n))
          (ap (λ a. (turned a + get_or section (start + n) 0) % 2 ^ 32) (sym number) ∙ e)))
    ]

-- ---- up to four

grown_1 : (x b : ℕ) → x < 1 → b < 2 ^ 8 → (x % 2 ^ 24 * 2 ^ 8 + x / 2 ^ 24 + b) % 2 ^ 32 < 2 ^ 8
grown_1 x b low byte = omega (arith, low, byte)

grown_2 : (x b : ℕ) → x < 2 ^ 8 → b < 2 ^ 8 → (x % 2 ^ 24 * 2 ^ 8 + x / 2 ^ 24 + b) % 2 ^ 32 < 2 ^ 16
grown_2 x b low byte = omega (arith, low, byte)

grown_3 : (x b : ℕ) → x < 2 ^ 16 → b < 2 ^ 8 → (x % 2 ^ 24 * 2 ^ 8 + x / 2 ^ 24 + b) % 2 ^ 32 < 2 ^ 24
grown_3 x b low byte = omega (arith, low, byte)

module _ (section : List ℕ) (start : ℕ) (bytes : AreBytes section) where
  below_1 : bytes_number section start 1 < 2 ^ 8
  below_1 = grown_1 0 (get_or section (start + 0) 0) (omega arith) (bytes (start + 0))

  below_2 : bytes_number section start 2 < 2 ^ 16
  below_2 = grown_2 (bytes_number section start 1) (get_or section (start + 1) 0) below_1 (bytes (start + 1))

  below_3 : bytes_number section start 3 < 2 ^ 24
  below_3 = grown_3 (bytes_number section start 2) (get_or section (start + 2) 0) below_2 (bytes (start + 2))

  word_below : (n : ℕ) → n ≤ 3 → bytes_number section start n < 2 ^ 24
  word_below zero few = omega arith
  word_below (suc zero) few = omega (arith, below_1)
  word_below (suc (suc zero)) few = omega (arith, below_2)
  word_below (suc (suc (suc zero))) few = below_3
  word_below (suc (suc (suc (suc n)))) few = absurd (omega (arith, few))

both_same : (a c b d : ℕ) → a < 2 ^ 24 → c < 2 ^ 24 → b < 2 ^ 8 → d < 2 ^ 8
    → (a % 2 ^ 24 * 2 ^ 8 + a / 2 ^ 24 + b) % 2 ^ 32 ≡ (c % 2 ^ 24 * 2 ^ 8 + c / 2 ^ 24 + d) % 2 ^ 32
    → (a ≡ c) × (b ≡ d)
both_same a c b d low other byte another e =
    (omega (arith, low, other, byte, another, e), omega (arith, low, other, byte, another, e))

pub words_tell : WordsTell
words_tell section other start zero bytes others few e i less = absurd (omega (arith, less))
words_tell section other start (suc n) bytes others few e i less =
    let both = both_same (bytes_number section start n) (bytes_number other start n)
    (get_or section (start + n) 0) (get_or other (start + n) 0)
    (word_below section start bytes n (omega (arith, few))) (word_below other start others n (omega (arith, few)))
    (bytes (start + n)) (others (start + n)) e in
    elim (cases_lt i n) [
      | inl earlier ↦
          words_tell section other start n bytes others (omega (arith, few)) (both.0) i earlier
      | inr last ↦
          let is : i ≡ n = omega (arith, last, less) in
          subst (λ k. get_or section (start + k) 0 ≡ get_or other (start + k) 0) (sym is) (both.1)
    ]
