-- The bits of a little-endian number are those of its bytes.
use Rattle.linker_reading.proofs.Imports.{List, Width, ap, arith, bit_at, bit_at_cat_high, bit_at_cat_low, byte_len, byte_worth, cases_lt, from_le_bytes, mul-add-lt, pow-add, refl, slice_index, subst, suc, sum_through, sym, zero, ℕ, ⊎_elim, ◌*◌, ◌+◌, ◌-◌, ◌<◌, ◌^◌, ◌∙◌, ◌≡◌, ◌≤◌}

AreSmall : (ℕ → ℕ) → Type 0
AreSmall f = (i : ℕ) → f i < 2 ^ 8

by_256 : (k : ℕ) → 256 ^ k ≡ 2 ^ (8 * k)
by_256 zero = refl
by_256 (suc k) =
    ap (λ n. 256 ^ n) (let e : suc k ≡ 1 + k = omega arith in e) ∙ pow-add 256 1 k ∙ ap (λ n. 256 ^ 1 * n) (by_256 k)
    ∙ sym (pow-add 2 8 (8 * k)) ∙ ap (λ n. 2 ^ n) (let e : 8 + 8 * k ≡ 8 * suc k = omega arith in e)

worth_is : (i b : ℕ) → byte_worth i b ≡ b * 2 ^ (8 * i)
worth_is zero b = omega arith
worth_is (suc i) b = ap (λ n. b * n) (by_256 (suc i))

abbrev sum_of : (ℕ → ℕ) → ℕ → ℕ
sum_of f n = sum_through (λ i. byte_worth i (f i)) n

-- one byte more
more : (f : ℕ → ℕ) (n : ℕ) → sum_of f (suc n) ≡ f (suc n) * 2 ^ (8 * suc n) + sum_of f n
more f n = ap (λ t. sum_of f n + t) (worth_is (suc n) (f (suc n))) ∙ omega arith

step_small : (a b n : ℕ) → a < 2 ^ 8 → b < 2 ^ n → a * 2 ^ n + b < 2 ^ (n + 8)
step_small a b n h k = subst (λ m. a * 2 ^ n + b < m) (sym (pow-add 2 n 8)) (mul-add-lt a (2 ^ n) b (2 ^ 8) h k)

sum_small : (f : ℕ → ℕ) (n : ℕ) → AreSmall f → sum_of f n < 2 ^ (8 * suc n)
unfolding AreSmall
sum_small f zero small = small 0
sum_small f (suc n) small =
    subst (λ m. m < 2 ^ (8 * suc (suc n))) (sym (more f n))
    (subst (λ m. f (suc n) * 2 ^ (8 * suc n) + sum_of f n < 2 ^ m) (let e : 8 * suc n + 8 ≡ 8 * suc (suc n) = omega arith in e)
    (step_small (f (suc n)) (sum_of f n) (8 * suc n) (small (suc n)) (sum_small f n small)))

sum_bits : (f : ℕ → ℕ) (n i j : ℕ) → AreSmall f → i ≤ n → j < 8 → bit_at (sum_of f n) (8 * i + j) ≡ bit_at (f i) j
sum_bits f zero i j small h k =
    let first : i ≡ 0 = omega arith in
    ap (λ t. bit_at (f 0) (8 * t + j)) first ∙ ap (bit_at (f 0)) (let e : 8 * 0 + j ≡ j = omega arith in e) ∙ ap (λ t. bit_at (f t) j) (sym first)
sum_bits f (suc n) i j small h k =
    ap (λ t. bit_at t (8 * i + j)) (more f n)
    ∙ ⊎_elim
    (λ below. bit_at_cat_low (f (suc n)) (8 * suc n) (sum_of f n) (8 * i + j) (omega arith)
    ∙ sum_bits f n i j small (omega arith) k)
    (λ last.
    let same : i ≡ suc n = omega arith in
    let at : 8 * i + j - 8 * suc n ≡ j = omega arith in
    bit_at_cat_high (f (suc n)) (8 * suc n) (sum_of f n) (8 * i + j) (sum_small f n small) (omega arith)
    ∙ ap (bit_at (f (suc n))) at ∙ ap (λ t. bit_at (f t) j) (sym same))
    (cases_lt i (suc n))

-- a bit of a byte of a window
pub window_bit : (w : Width) (bytes : List ℕ) (i j : ℕ) → ((k : ℕ) → slice_index bytes k < 2 ^ 8) → i < byte_len w → j < 8
    → bit_at (from_le_bytes w bytes) (8 * i + j) ≡ bit_at (slice_index bytes i) j
unfolding AreSmall
window_bit w bytes i j small h k = sum_bits (slice_index bytes) (byte_len w - 1) i j small (omega arith) k
