-- The bits of remainders, quotients and fields, and numbers read in two's complement.
use Rattle.linker_base.proofs.Imports.{ap, arith, bit_at, bit_at-zero, bit_at_above, bit_at_cat_high, bit_at_cat_low, cases_lt, cast_unsigned, cond, cond-false, cond-true, cond_both, div-add-mod', field, inl, inr, int_rem_euclid, int_rem_euclid_is, ints, le-leb, le-ltb, leb, lt-leb, lt-ltb, ltb, mod-mod-pow, mod-pow-add, mod_below, mod_low, negsuc, pos, pow-add, pow_pos, refl, same_from_bits, shl-shr, shr-shr, shr_split, signed, suc, sym, w64, ℕ, ℤ, ◌%◌, ◌&&◌, ◌*◌, ◌+ℤ◌, ◌+◌, ◌-ℤ◌, ◌-◌, ◌/◌, ◌<◌, ◌^◌, ◌∙◌, ◌≡◌, ◌≤◌, ◌⊎◌}

pub bit_at_mod : (x n j : ℕ) → j < n → bit_at (x % 2 ^ n) j ≡ bit_at x j
bit_at_mod x n j h = sym (bit_at_cat_low (x / 2 ^ n) n (x % 2 ^ n) j h) ∙ ap (λ y. bit_at y j) (div-add-mod' x (2 ^ n))

pub bit_at_mod_above : (x n j : ℕ) → n ≤ j → bit_at (x % 2 ^ n) j ≡ 0
bit_at_mod_above x n j h = bit_at_above (x % 2 ^ n) n j (mod_below x (2 ^ n) (pow_pos n)) h

pub bit_at_shr : (x w j : ℕ) → bit_at (x / 2 ^ w) j ≡ bit_at x (w + j)
bit_at_shr x w j = ap (λ y. y % 2) (shr-shr x w j)

-- the bits of a run of n bits of x, taken from bit w
pub bit_at_run : (x w n j : ℕ) → j < n → bit_at (x / 2 ^ w % 2 ^ n) j ≡ bit_at x (w + j)
bit_at_run x w n j h = bit_at_mod (x / 2 ^ w) n j h ∙ bit_at_shr x w j

pub bit_at_shl_below : (a k i : ℕ) → i < k → bit_at (a * 2 ^ k) i ≡ 0
bit_at_shl_below a k i h = ap (λ y. bit_at y i) (omega arith) ∙ bit_at_cat_low a k 0 i h ∙ bit_at-zero i

pub bit_at_shl : (a k i : ℕ) → k ≤ i → bit_at (a * 2 ^ k) i ≡ bit_at a (i - k)
bit_at_shl a k i h = ap (λ y. bit_at y i) (omega arith) ∙ bit_at_cat_high a k 0 i (pow_pos k) h

-- bits low and up, below high, of x, where they stand
pub bit_at_window : (x low high i : ℕ) → bit_at (x / 2 ^ low % 2 ^ (high - low) * 2 ^ low) i ≡ cond (leb low i && ltb i high) (bit_at x i) 0
bit_at_window x low high i =
    elim (cases_lt i low) [
      | inl below ↦ rw (lt-leb low i below) (bit_at_shl_below (x / 2 ^ low % 2 ^ (high - low)) low i below)
      | inr from ↦ rw (le-leb low i from) (bit_at_shl (x / 2 ^ low % 2 ^ (high - low)) low i from ∙ elim (cases_lt i high) [
        | inl inside ↦ rw (lt-ltb i high inside) (bit_at_run x low (high - low) (i - low) (omega arith) ∙ ap (bit_at x) (omega arith))
        | inr above ↦ rw (le-ltb i high above) (bit_at_mod_above (x / 2 ^ low) (high - low) (i - low) (omega arith))
      ])
    ]

pub mod_mod : (x m n : ℕ) → n ≤ m → x % 2 ^ m % 2 ^ n ≡ x % 2 ^ n
mod_mod x m n h = let apart : m ≡ (m - n) + n = omega arith in ap (λ k. x % 2 ^ k % 2 ^ n) apart ∙ mod-mod-pow x (m - n) n

-- ---- two's complement

below_itself : (n f : ℕ) → f < 2 ^ n → f % 2 ^ n ≡ f
below_itself n f h = ap (λ y. y % 2 ^ n) (omega arith) ∙ mod_low 0 n f h

pub signed_rem : (n f : ℕ) → f < 2 ^ n → int_rem_euclid (signed n f) (pos (2 ^ n)) ≡ pos f
signed_rem n f h =
    cond_both (ltb f (2 ^ (n - 1))) (pos f) (pos f -ℤ pos (2 ^ n)) (λ z. int_rem_euclid z (pos (2 ^ n)) ≡ pos f)
    (λ _. ap pos (below_itself n f h))
    (λ _. int_rem_euclid_is (pos f -ℤ pos (2 ^ n)) (pos (2 ^ n)) (2 ^ n) 1 f (pow_pos n) refl (omega (arith, ints)) ∙ ap pos (below_itself n f h))

-- the signed number's bits, at 64 bits
signed_cast : (n f q : ℕ) → f < 2 ^ n → 2 ^ 64 ≡ suc q * 2 ^ n → cast_unsigned w64 (signed n f) % 2 ^ n ≡ f
signed_cast n f q h e =
    cond_both (ltb f (2 ^ (n - 1))) (pos f) (pos f -ℤ pos (2 ^ n)) (λ z. cast_unsigned w64 z % 2 ^ n ≡ f)
    (λ _. below_itself n f h)
    (λ _.
    let below : pos f -ℤ pos (2 ^ n) ≡ negsuc (2 ^ n - f - 1) = omega (arith, ints) in
    ap (λ y. y % 2 ^ n) (ap (cast_unsigned w64) below ∙ omega arith) ∙ mod_low q n f h)

pub whole_parts : (n : ℕ) → n ≤ 64 → 2 ^ 64 ≡ suc (2 ^ (64 - n) - 1) * 2 ^ n
whole_parts n l =
    ap (λ k. 2 ^ k) (let e : 64 ≡ (64 - n) + n = omega arith in e) ∙ pow-add 2 (64 - n) n ∙ ap (λ y. y * 2 ^ n) (omega (arith, pow_pos (64 - n)))

pub signed_bits : (n f : ℕ) → f < 2 ^ n → n ≤ 64 → cast_unsigned w64 (signed n f) % 2 ^ n ≡ f
signed_bits n f h l = signed_cast n f (2 ^ (64 - n) - 1) h (whole_parts n l)

pub signed_cases : (n f : ℕ) → ((f < 2 ^ (n - 1)) × (signed n f ≡ pos f)) ⊎ ((2 ^ (n - 1) ≤ f) × (signed n f ≡ pos f -ℤ pos (2 ^ n)))
signed_cases n f =
    elim (cases_lt f (2 ^ (n - 1))) [
      | inl below ↦ inl (below, cond-true (ltb f (2 ^ (n - 1))) (pos f) (pos f -ℤ pos (2 ^ n)) (lt-ltb f (2 ^ (n - 1)) below))
      | inr above ↦ inr (above, cond-false (ltb f (2 ^ (n - 1))) (pos f) (pos f -ℤ pos (2 ^ n)) (le-ltb f (2 ^ (n - 1)) above))
    ]

-- a number's bits, from the number plus 2 ^ 64
pub cast_rem : (z : ℤ) (m : ℕ) → z +ℤ pos (2 ^ 64) ≡ pos m → cast_unsigned w64 z % 2 ^ 64 ≡ m % 2 ^ 64
cast_rem (pos a) m e = let same : m ≡ a + 2 ^ 64 = omega (arith, ints) in omega arith
cast_rem (negsuc a) m e = let same : m + a + 1 ≡ 2 ^ 64 = omega (arith, ints) in omega arith

shl_rem : (a low m : ℕ) → a * 2 ^ low % 2 ^ (m + low) ≡ a % 2 ^ m * 2 ^ low
shl_rem a low m =
    let none : a * 2 ^ low % 2 ^ low ≡ 0 = ap (λ y. y % 2 ^ low) (omega arith) ∙ mod_low a low 0 (pow_pos low) in
    mod-pow-add (a * 2 ^ low) m low ∙ ap (λ y. a * 2 ^ low / 2 ^ low % 2 ^ m * 2 ^ low + y) none ∙ omega arith ∙ ap (λ y. y % 2 ^ m * 2 ^ low) (shl-shr a low)

pub aligned_rem : (x low n : ℕ) → low ≤ n → (x - x % 2 ^ low) % 2 ^ n ≡ x / 2 ^ low % 2 ^ (n - low) * 2 ^ low
aligned_rem x low n h =
    let whole : x - x % 2 ^ low ≡ x / 2 ^ low * 2 ^ low = omega (arith, shr_split x low) in
    let apart : n ≡ (n - low) + low = omega arith in
    ap (λ y. y % 2 ^ n) whole ∙ ap (λ k. x / 2 ^ low * 2 ^ low % 2 ^ k) apart ∙ shl_rem (x / 2 ^ low) low (n - low)

-- ---- fields and distances

pub same_fields : (x y s e : ℕ) → ((w : ℕ) → s ≤ w → w < e → bit_at x w ≡ bit_at y w) → field x s e ≡ field y s e
same_fields x y s e h =
    same_from_bits (field x s e) (field y s e) (λ j. elim (cases_lt j (e - s)) [
      | inl inside ↦ bit_at_run x s (e - s) j inside ∙ h (s + j) (omega arith) (omega arith) ∙ sym (bit_at_run y s (e - s) j inside)
      | inr above ↦ bit_at_mod_above (x / 2 ^ s) (e - s) j above ∙ sym (bit_at_mod_above (y / 2 ^ s) (e - s) j above)
    ])
