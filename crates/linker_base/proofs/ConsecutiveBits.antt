-- Consecutive places.
use Rattle.linker_base.proofs.Imports.{All, All-cons, All-nil, ImmediateBit, Mark, ap, arith, bit_at, cleared, consecutive_bits, holds_value_bit, mod-pow-add, ored, place_sum, pow-add, refl, replaced, shr-shr, subst, suc, sum_by-cons, sym, true, worth, zero, ℕ, ◌%◌, ◌*◌, ◌+◌, ◌/◌, ◌<◌, ◌^◌, ◌∙◌, ◌≡◌}

moved : (P : ImmediateBit → Type 0) (k j w i r : ℕ) (m : Mark) → k ≡ j → w ≡ i → P (record { value = k; insn_bit = w; added = r; mark = m }) → P (record { value = j; insn_bit = i; added = r; mark = m })
moved P k j w i r m e f h =
    subst (λ x. P (record { value = j; insn_bit = x; added = r; mark = m })) f (subst (λ x. P (record { value = x; insn_bit = w; added = r; mark = m })) e h)

pub consecutive_bits_all : (P : ImmediateBit → Type 0) (n k w r : ℕ) (m : Mark) → ((j : ℕ) → j < n → P (record { value = k + j; insn_bit = w + j; added = r; mark = m })) → All P (consecutive_bits n k w r m)
consecutive_bits_all P zero k w r m h = All-nil P
consecutive_bits_all P (suc n) k w r m h =
    All-cons P (record { value = k; insn_bit = w; added = r; mark = m }) (consecutive_bits n (k + 1) (w + 1) r m)
    (moved P (k + 0) k (w + 0) w r m (omega arith) (omega arith) (h 0 (omega arith)))
    (consecutive_bits_all P n (k + 1) (w + 1) r m (λ j l. moved P (k + suc j) (k + 1 + j) (w + suc j) (w + 1 + j) r m (omega arith) (omega arith) (h (suc j) (omega arith))))

worth_of : (m : Mark) (k b : ℕ) → holds_value_bit m ≡ true → worth m k b ≡ 2 ^ k * b
worth_of replaced k b h = refl
worth_of ored k b h = refl
worth_of cleared k b h = cc

-- (2a + b) m
one_more_bit : (a b m : ℕ) → m * b + a * (m * 2) ≡ (a * 2 + b) * m
one_more_bit a b m = grind arith

-- the number at consecutive places is the field that they cover
pub consecutive_bits_sum : (m : Mark) (n k w r x : ℕ) → holds_value_bit m ≡ true → place_sum (consecutive_bits n k w r m) x ≡ x / 2 ^ w % 2 ^ n * 2 ^ k
unfolding place_sum
consecutive_bits_sum m zero k w r x h = let none : x / 2 ^ w % 1 ≡ 0 = omega arith in sym (ap (λ y. y * 2 ^ k) none ∙ omega arith)
consecutive_bits_sum m (suc n) k w r x h =
    sum_by-cons (λ (p : ImmediateBit). worth p.mark p.value (bit_at x p.insn_bit)) (record { value = k; insn_bit = w; added = r; mark = m }) (consecutive_bits n (k + 1) (w + 1) r m)
    ∙ ap (λ y. y + place_sum (consecutive_bits n (k + 1) (w + 1) r m) x) (worth_of m k (bit_at x w) h)
    ∙ ap (λ y. 2 ^ k * bit_at x w + y) (consecutive_bits_sum m n (k + 1) (w + 1) r x h)
    ∙ ap (λ y. 2 ^ k * bit_at x w + x / 2 ^ (w + 1) % 2 ^ n * y) (pow-add 2 k 1)
    ∙ one_more_bit (x / 2 ^ (w + 1) % 2 ^ n) (bit_at x w) (2 ^ k)
    ∙ ap (λ y. (y % 2 ^ n * 2 + bit_at x w) * 2 ^ k) (sym (shr-shr x w 1))
    ∙ ap (λ y. y * 2 ^ k) (sym (mod-pow-add (x / 2 ^ w) n 1))
    ∙ ap (λ e. x / 2 ^ w % 2 ^ e * 2 ^ k) (omega arith)
