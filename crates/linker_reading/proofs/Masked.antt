-- Words that are the same but for the bits of a mask.
use Rattle.linker_reading.proofs.Imports.{Bool, FieldBits, List, ap, arith, bit_and, bit_at, bit_at-lt, bit_at-zero, bit_at_above, bit_at_and, bit_at_cat_low, bit_at_not, bit_at_or, bit_at_shl, bit_at_shl_below, bit_at_xor, bit_not, bit_or, bit_xor, cases_lt, eqb-true, false, false≢true, get_or, is_in, is_in_one, le-leb, le-ltb, length, list_any_more, lt-leb, lt-ltb, max, min, nat_lt, refl, same_from_bits, shr-shr, suc, sym, take, true, w64, zero, ℕ, ⊎_elim, ◌%◌, ◌&&◌, ◌*◌, ◌+◌, ◌-◌, ◌/◌, ◌<◌, ◌==◌, ◌^◌, ◌||◌, ◌∙◌, ◌≡◌, ◌≤◌}

-- ---- the bits of a field from a byte on

-- there are none above bit 63
within_64 : (bits w : ℕ) → bits < 2 ^ 64 → (bit_at bits w == 1) ≡ (nat_lt w 64 && (bit_at bits w == 1))
within_64 bits w small =
    ⊎_elim
    (λ h. ap (λ b. b && (bit_at bits w == 1)) (sym (lt-ltb w 64 h)))
    (λ h. ap (λ n. n == 1) (bit_at_above bits 64 w small h) ∙ ap (λ b. b && (bit_at bits w == 1)) (sym (le-ltb w 64 h)))
    (cases_lt w 64)

at_or_above : (field : FieldBits) (i j w : ℕ) → field.bits < 2 ^ 64 → field.offset ≤ i → w ≡ 8 * (i - field.offset) + j
    → (bit_at field.bits w == 1) ≡ is_in field i j
at_or_above field i j w small from e =
    ap (λ n. bit_at field.bits n == 1) e ∙ within_64 field.bits (8 * (i - field.offset) + j) small
    ∙ ap (λ b. b && (nat_lt (8 * (i - field.offset) + j) 64 && (bit_at field.bits (8 * (i - field.offset) + j) == 1))) (sym (le-leb field.offset i from))

below : (field : FieldBits) (i j : ℕ) → i < field.offset → false ≡ is_in field i j
below field i j less =
    ap (λ b. b && (nat_lt (8 * (i - field.offset) + j) 64 && (bit_at field.bits (8 * (i - field.offset) + j) == 1))) (sym (lt-leb field.offset i less))

pub shifted_down : (field : FieldBits) (byte i j : ℕ) → field.bits < 2 ^ 64 → field.offset ≤ byte
    → (bit_at (field.bits / 2 ^ (8 * (byte - field.offset))) (8 * i + j) == 1) ≡ is_in field (byte + i) j
shifted_down field byte i j small from =
    ap (λ n. n % 2 == 1) (shr-shr field.bits (8 * (byte - field.offset)) (8 * i + j))
    ∙ at_or_above field (byte + i) j (8 * (byte - field.offset) + (8 * i + j)) small (omega (arith, from)) (omega (arith, from))

-- a bit below bit 64 of a number modulo 2 ^ 64
low_bit : (n k : ℕ) → k < 64 → bit_at (n % 2 ^ 64) k ≡ bit_at n k
low_bit n k h = sym (bit_at_cat_low (n / 2 ^ 64) 64 (n % 2 ^ 64) k h) ∙ ap (λ m. bit_at m k) (let whole : n / 2 ^ 64 * 2 ^ 64 + n % 2 ^ 64 ≡ n = omega arith in whole)

pub shifted_up : (field : FieldBits) (byte i j : ℕ) → field.bits < 2 ^ 64 → byte < field.offset → i < 8 → j < 8
    → (bit_at (field.bits * 2 ^ (8 * (field.offset - byte)) % 2 ^ 64) (8 * i + j) == 1) ≡ is_in field (byte + i) j
shifted_up field byte i j small less h k =
    ap (λ n. n == 1) (low_bit (field.bits * 2 ^ (8 * (field.offset - byte))) (8 * i + j) (omega (arith, h, k)))
    ∙ ⊎_elim
    (λ before. ap (λ n. n == 1) (bit_at_shl_below field.bits (8 * (field.offset - byte)) (8 * i + j) (omega (arith, before, k)))
    ∙ below field (byte + i) j (omega (arith, before)))
    (λ from. ap (λ n. n == 1) (bit_at_shl field.bits (8 * (field.offset - byte)) (8 * i + j) (omega (arith, from)))
    ∙ at_or_above field (byte + i) j (8 * i + j - 8 * (field.offset - byte)) small (omega (arith, from)) (omega (arith, from, less)))
    (cases_lt (byte + i) field.offset)

-- ---- the bits of several fields

either_bit : (x y : ℕ) → x < 2 → y < 2 → (max x y == 1) ≡ ((x == 1) || (y == 1))
either_bit zero zero h k = refl
either_bit zero (suc zero) h k = refl
either_bit (suc zero) zero h k = refl
either_bit (suc zero) (suc zero) h k = refl
either_bit x (suc (suc y)) h k = absurd (omega (arith, k))
either_bit (suc (suc x)) y h k = absurd (omega (arith, h))

pub or_bit : (a b j : ℕ) → (bit_at (bit_or a b) j == 1) ≡ ((bit_at a j == 1) || (bit_at b j == 1))
or_bit a b j = ap (λ n. n == 1) (bit_at_or a b j) ∙ either_bit (bit_at a j) (bit_at b j) (bit_at-lt a j) (bit_at-lt b j)

or_assoc : (a b c : Bool) → ((a || b) || c) ≡ (a || (b || c))
or_assoc true b c = refl
or_assoc false b c = refl

-- one more of the others
pub one_more : (is_first : Bool) (others : List FieldBits) (n : ℕ) (d : FieldBits) (byte j w ignored bits : ℕ) → n < length others
    → (bit_at ignored w == 1) ≡ (is_first || is_in_one (take n others) byte j) → (bit_at bits w == 1) ≡ is_in (get_or others n d) byte j
    → (bit_at (bit_or ignored bits) w == 1) ≡ (is_first || is_in_one (take (n + 1) others) byte j)
one_more is_first others n d byte j w ignored bits within before here =
    or_bit ignored bits w
    ∙ ap (λ b. b || (bit_at bits w == 1)) before
    ∙ ap (λ b. (is_first || is_in_one (take n others) byte j) || b) here
    ∙ or_assoc is_first (is_in_one (take n others) byte j) (is_in (get_or others n d) byte j)
    ∙ ap (λ b. is_first || b) (sym (list_any_more (λ (field : FieldBits). is_in field byte j) others n d within))

-- ---- the bits outside of a mask

not_one : (x : ℕ) → x < 2 → (x == 1) ≡ false → x ≡ 0
not_one zero h e = refl
not_one (suc zero) h e = absurd (false≢true (sym e))
not_one (suc (suc x)) h e = absurd (omega (arith, h))

same_of_sum : (x y : ℕ) → x < 2 → y < 2 → (x + y) % 2 ≡ 0 → x ≡ y
same_of_sum x y h k e = omega (arith, h, k, e)

sum_of_same : (x y : ℕ) → x ≡ y → (x + y) % 2 ≡ 0
sum_of_same x y e = omega (arith, e)

module _ (a b ignored : ℕ) (small_a : a < 2 ^ 32) (small_b : b < 2 ^ 32) (small : ignored < 2 ^ 64) where
  outside : (w : ℕ) → w < 64 → bit_at (bit_and (bit_xor a b) (bit_not w64 ignored)) w ≡ min ((bit_at a w + bit_at b w) % 2) (1 - bit_at ignored w)
  outside w h =
      bit_at_and (bit_xor a b) (bit_not w64 ignored) w ∙ ap (λ n. min n (bit_at (bit_not w64 ignored) w)) (bit_at_xor a b w)
      ∙ ap (min ((bit_at a w + bit_at b w) % 2)) (bit_at_not w64 ignored w small h)

  pub none_apart : bit_and (bit_xor a b) (bit_not w64 ignored) ≡ 0 → (w : ℕ) → w < 32 → (bit_at ignored w == 1) ≡ false → bit_at a w ≡ bit_at b w
  none_apart e w h is =
      let here : min ((bit_at a w + bit_at b w) % 2) (1 - bit_at ignored w) ≡ 0 =
      sym (outside w (omega (arith, h))) ∙ ap (λ n. bit_at n w) e ∙ bit_at-zero w in
      let clear : bit_at ignored w ≡ 0 = not_one (bit_at ignored w) (bit_at-lt ignored w) is in
      same_of_sum (bit_at a w) (bit_at b w) (bit_at-lt a w) (bit_at-lt b w) (omega (arith, here, clear))

  pub all_same : ((w : ℕ) → w < 32 → (bit_at ignored w == 1) ≡ false → bit_at a w ≡ bit_at b w) → bit_and (bit_xor a b) (bit_not w64 ignored) ≡ 0
  all_same same = same_from_bits (bit_and (bit_xor a b) (bit_not w64 ignored)) 0 (λ w. each w ∙ sym (bit_at-zero w))
    where
      by_test : (w : ℕ) → w < 32 → (t : Bool) → (bit_at ignored w == 1) ≡ t → min ((bit_at a w + bit_at b w) % 2) (1 - bit_at ignored w) ≡ 0
      by_test w h true e = let set : bit_at ignored w ≡ 1 = eqb-true (bit_at ignored w) 1 e in omega (arith, set)
      by_test w h false e = let sum = sum_of_same (bit_at a w) (bit_at b w) (same w h e) in omega (arith, sum)

      each : (w : ℕ) → bit_at (bit_and (bit_xor a b) (bit_not w64 ignored)) w ≡ 0
      each w =
          ⊎_elim (λ low. outside w (omega (arith, low)) ∙ by_test w low (bit_at ignored w == 1) refl)
          (λ high.
          let of_a = bit_at_above a 32 w small_a high in
          let of_b = bit_at_above b 32 w small_b high in
          let sum = bit_at_xor a b w in
          let both = bit_at_and (bit_xor a b) (bit_not w64 ignored) w in
          omega (arith, of_a, of_b, sum, both))
          (cases_lt w 32)
