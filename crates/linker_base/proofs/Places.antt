-- The bits of the number that stands at places, what a write leaves at each, and when places stand
-- apart.
use Rattle.linker_base.proofs.Imports.{All, All-head, All-tail, Bool, ImmediateBit, IsClear, List, Mark, [], and_parts, and_pow, ap, arith, bit_and, bit_at, bit_at-lt, bit_at-pow_other, bit_at-pow_same, bit_at-zero, bit_at_or, bit_for, cases_Bool, cases_eq, cleared, cond, cond-false, eq-eqb, eqb, eqb-true, false, has_value, holds_value_bit, inl, inr, is_clear_at, is_of, max, ne_eqb, not, not-true, or_parts, ored, place_sum, placed_bit, refl, replaced, subst, suc, sum_by-append, sum_by-cons, sym, true, values_apart, worth, zero, ℕ, ◌%◌, ◌&&◌, ◌*◌, ◌++◌, ◌+◌, ◌<◌, ◌^◌, ◌∙◌, ◌∷◌, ◌≡◌}
use lib.Bits.{or_disjoint}

-- the window's bit at the place of value bit k, and 0 where it has none
abbrev pub value_bit : List ImmediateBit → ℕ → ℕ → ℕ
value_bit [] k x = 0
value_bit (p ∷ ps) k x = cond (is_of p k) (bit_at x p.insn_bit) (value_bit ps k x)

pub value_bit_none : (ps : List ImmediateBit) (k x : ℕ) → has_value ps k ≡ false → value_bit ps k x ≡ 0
value_bit_none [] k x h = refl
value_bit_none (p ∷ ps) k x h =
    let parts = or_parts (is_of p k) (has_value ps k) h in
    cond-false (is_of p k) (bit_at x p.insn_bit) (value_bit ps k x) parts.0 ∙ value_bit_none ps k x parts.1

one_bit_more : (s k i : ℕ) → bit_at s k ≡ 0 → bit_at (s + 2 ^ k) i ≡ max (bit_at s i) (bit_at (2 ^ k) i)
one_bit_more s k i h =
    let none : bit_and s (2 ^ k) ≡ 0 = and_pow s k ∙ ap (λ b. b * 2 ^ k) h ∙ omega arith in
    ap (λ n. bit_at n i) (sym (or_disjoint s (2 ^ k) none)) ∙ bit_at_or s (2 ^ k) i

-- 2 ^ k with a number whose bit k is 0 has one bit more
pub add_bit : (s k b i : ℕ) → bit_at s k ≡ 0 → b < 2 → bit_at (2 ^ k * b + s) i ≡ cond (eqb k i) b (bit_at s i)
add_bit s k zero i h l =
    elim (cases_eq k i) [
      | inl e ↦ rw (eq-eqb k i e) (ap (λ n. bit_at n i) (omega arith) ∙ rw e at h)
      | inr e ↦ rw (ne_eqb k i e) (ap (λ n. bit_at n i) (omega arith))
    ]
add_bit s k (suc zero) i h l =
    elim (cases_eq k i) [
      | inl e ↦ rw (eq-eqb k i e) (ap (λ n. bit_at n i) (omega arith) ∙ one_bit_more s k i h ∙ omega (arith, subst (λ j. bit_at (2 ^ k) j ≡ 1) e (bit_at-pow_same k), subst (λ j. bit_at s j ≡ 0) e h))
      | inr e ↦ rw (ne_eqb k i e) (ap (λ n. bit_at n i) (omega arith) ∙ one_bit_more s k i h ∙ omega (arith, bit_at-pow_other k i (λ f. e (sym f))))
    ]
add_bit s k (suc (suc b)) i h l = absurd (omega arith)

add_worth : (m : Mark) (k b s i : ℕ) → (holds_value_bit m ≡ true → bit_at s k ≡ 0) → b < 2 → bit_at (worth m k b + s) i ≡ cond (holds_value_bit m && eqb k i) b (bit_at s i)
add_worth replaced k b s i h l = add_bit s k b i (h refl) l
add_worth ored k b s i h l = add_bit s k b i (h refl) l
add_worth cleared k b s i h l = ap (λ n. bit_at n i) (omega arith)

-- the value bit of a place is no later place's
no_later : (p : ImmediateBit) (ps : List ImmediateBit) → values_apart (p ∷ ps) ≡ true → holds_value_bit p.mark ≡ true → has_value ps p.value ≡ false
no_later p ps h t =
    let first = not-true (holds_value_bit p.mark && has_value ps p.value) (and_parts (not (holds_value_bit p.mark && has_value ps p.value)) (values_apart ps) h).0 in
    rw t at first

-- bit k of the number at the places is the window's bit at the place of value bit k
pub bit_at-place_sum : (ps : List ImmediateBit) (x k : ℕ) → values_apart ps ≡ true → bit_at (place_sum ps x) k ≡ value_bit ps k x
unfolding place_sum
bit_at-place_sum [] x k h = bit_at-zero k
bit_at-place_sum (p ∷ ps) x k h =
    let apart = (and_parts (not (holds_value_bit p.mark && has_value ps p.value)) (values_apart ps) h).1 in
    let rest : (i : ℕ) → bit_at (place_sum ps x) i ≡ value_bit ps i x = λ i. bit_at-place_sum ps x i apart in
    let free : holds_value_bit p.mark ≡ true → bit_at (place_sum ps x) p.value ≡ 0 =
    λ t. rest p.value ∙ value_bit_none ps p.value x (no_later p ps h t) in
    ap (λ n. bit_at n k) (sum_by-cons (λ (q : ImmediateBit). worth q.mark q.value (bit_at x q.insn_bit)) p ps)
    ∙ add_worth p.mark p.value (bit_at x p.insn_bit) (place_sum ps x) k free (bit_at-lt x p.insn_bit)
    ∙ ap (λ n. cond (is_of p k) (bit_at x p.insn_bit) n) (rest k)

-- ---- what a write leaves

placed_new : (m : Mark) (new old : ℕ) → holds_value_bit m ≡ true → is_clear_at m old ≡ true → placed_bit m new old ≡ new
placed_new replaced new old h c = refl
placed_new ored new old h c = omega (arith, eqb-true old 0 c)
placed_new cleared new old h c = cc

-- all places take their bits from the value plus r
abbrev pub adds : ℕ → List ImmediateBit → Bool
adds r [] = true
adds r (p ∷ ps) = eqb p.added r && adds r ps

-- after a write the places, where those that are only ORed held 0, have the bits of the value plus
-- r
pub value_bit_laid : (ps : List ImmediateBit) (r v before after k : ℕ) → adds r ps ≡ true
    → All (λ (p : ImmediateBit). bit_at after p.insn_bit ≡ placed_bit p.mark (bit_for p v) (bit_at before p.insn_bit)) ps
    → IsClear ps before
    → value_bit ps k after ≡ cond (has_value ps k) (bit_at ((v + r) % 2 ^ 64) k) 0
value_bit_laid [] r v before after k u h c = refl
value_bit_laid (p ∷ ps) r v before after k u h c =
    let parts = and_parts (eqb p.added r) (adds r ps) u in
    let same : p.added ≡ r = eqb-true p.added r parts.0 in
    let first : bit_at after p.insn_bit ≡ placed_bit p.mark (bit_for p v) (bit_at before p.insn_bit) = All-head (λ (q : ImmediateBit). bit_at after q.insn_bit ≡ placed_bit q.mark (bit_for q v) (bit_at before q.insn_bit)) p ps h in
    let clear : is_clear_at p.mark (bit_at before p.insn_bit) ≡ true = All-head (λ (q : ImmediateBit). is_clear_at q.mark (bit_at before q.insn_bit) ≡ true) p ps c in
    let rest = value_bit_laid ps r v before after k parts.1
    (All-tail (λ (q : ImmediateBit). bit_at after q.insn_bit ≡ placed_bit q.mark (bit_for q v) (bit_at before q.insn_bit)) p ps h)
    (All-tail (λ (q : ImmediateBit). is_clear_at q.mark (bit_at before q.insn_bit) ≡ true) p ps c) in
    elim (cases_Bool (is_of p k)) [
      | inl t ↦
          let both = and_parts (holds_value_bit p.mark) (eqb p.value k) t in
          let at : p.value ≡ k = eqb-true p.value k both.1 in
          rw t (first ∙ placed_new p.mark (bit_for p v) (bit_at before p.insn_bit) both.0 clear ∙ rw (same, at))
      | inr f ↦ rw f rest
    ]

-- ---- places side by side

pub sums : (ps qs : List ImmediateBit) (x : ℕ) → place_sum (ps ++ qs) x ≡ place_sum ps x + place_sum qs x
unfolding place_sum
sums ps qs x = sum_by-append (λ (p : ImmediateBit). worth p.mark p.value (bit_at x p.insn_bit)) ps qs
