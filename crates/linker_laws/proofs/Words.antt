-- Words and halves of bytes, and what writing an immediate keeps of them.
use Rattle.linker_laws.proofs.Imports.{AreBytes, BitRange, Bool, InstructionWritten, List, RiscV, RiscVInstruction, Some, [], agree_below, agree_below_at, ap, append_assoc, arith, bit_at, drop, drop_at, false, field, from_le_bytes, from_le_bytes-to_le_bytes_2, from_le_bytes-to_le_bytes_4, int_lt, is_placed, length, length-take, pos, refl, replaces, rewritten, riscv_form, same_fields, subst, take, to_le_bytes, true, w16, w32, w64, window_of, word_of, word_of_front, ℕ, ℤ, ◌*◌, ◌++◌, ◌+◌, ◌-◌, ◌<◌, ◌^◌, ◌∙◌, ◌∷◌, ◌≡◌, ◌≤◌}

-- ---- words

pub same_low_two : (bytes : List ℕ)
    → field (from_le_bytes w16 bytes) 0 2 ≡ field (from_le_bytes w32 bytes) 0 2
same_low_two bytes = omega arith

-- a window of 8 bytes is two words
pub two_words : (bytes : List ℕ) → from_le_bytes w64 bytes
    ≡ from_le_bytes w32 bytes + from_le_bytes w32 (drop 4 bytes) * 2 ^ 32
two_words [] = refl
two_words (a ∷ []) = omega arith
two_words (a ∷ b ∷ []) = omega arith
two_words (a ∷ b ∷ c ∷ []) = omega arith
two_words (a ∷ b ∷ c ∷ d ∷ rest) = omega arith

pub word_below : (bytes : List ℕ) → AreBytes bytes → 4 ≤ length bytes
    → from_le_bytes w32 bytes < 2 ^ 32
word_below [] small long = absurd (omega arith)
word_below (a ∷ []) small long = absurd (omega arith)
word_below (a ∷ b ∷ []) small long = absurd (omega arith)
word_below (a ∷ b ∷ c ∷ []) small long = absurd (omega arith)
word_below (a ∷ b ∷ c ∷ d ∷ rest) small long =
    let one : a < 2 ^ 8 = small 0 0 (omega arith) in
    let two : b < 2 ^ 8 = small 1 0 (omega arith) in
    let three : c < 2 ^ 8 = small 2 0 (omega arith) in
    let four : d < 2 ^ 8 = small 3 0 (omega arith) in
    omega arith

pub word_of_bytes : (n : ℕ) (rest : List ℕ) → n < 2 ^ 32
    → from_le_bytes w32 (to_le_bytes w32 n ++ rest) ≡ n
word_of_bytes n rest h = from_le_bytes-to_le_bytes_4 n h

pub half_of_bytes : (n : ℕ) (rest : List ℕ) → n < 2 ^ 16
    → from_le_bytes w16 (to_le_bytes w16 n ++ rest) ≡ n
half_of_bytes n rest h = from_le_bytes-to_le_bytes_2 n h

-- what a rewrite puts at o
pub put_there : (s : List ℕ) (o len : ℕ) (bytes : List ℕ → List ℕ) → o ≤ length s
    → drop o (rewritten (Some (replaces 0 len bytes)) s o)
    ≡ bytes (take len (drop o s)) ++ drop (o + len) s
put_there s o len bytes inside =
    let front : length (take o s) ≡ o = length-take o s ∙ omega arith in
    subst (λ z. drop o (take z s ++ bytes (take len (drop z s)) ++ drop (z + len) s)
    ≡ bytes (take len (drop o s)) ++ drop (o + len) s)
    (let e : o ≡ o - 0 = omega arith in e)
    (ap (drop o) (append_assoc (take o s) (bytes (take len (drop o s))) (drop (o + len) s))
    ∙ drop_at (take o s) (bytes (take len (drop o s)) ++ drop (o + len) s) o front)

-- ---- what a write keeps

module _ (f : RiscVInstruction) (bits : BitRange) (v : ℤ) (before after : List ℕ)
    (w : InstructionWritten (RiscV f) bits v before after)
    (same : (b : Bool) (x : ℕ) → (riscv_form f).base b x ≡ x) where
  kept_bit : (i : ℕ) → is_placed ((riscv_form f).places w.clear) i ≡ false
      → bit_at (window_of (riscv_form f) after) i ≡ bit_at (window_of (riscv_form f) before) i
  kept_bit i outside =
      w.written.kept i outside
      ∙ ap (λ x. bit_at x i) (same (int_lt v (pos 0)) w.clear)
      ∙ w.clears.kept i refl

  -- n bits from bit s up, of which none is placed
  pub kept_field : (s n : ℕ)
      → agree_below (λ i. is_placed ((riscv_form f).places w.clear) (s + i)) (λ _. false) n ≡ true
      → field (window_of (riscv_form f) after) s (s + n)
      ≡ field (window_of (riscv_form f) before) s (s + n)
  kept_field s n outside =
      same_fields (window_of (riscv_form f) after) (window_of (riscv_form f) before) s (s + n)
      (λ i from below. kept_bit i
      (ap (is_placed ((riscv_form f).places w.clear)) (let e : i ≡ s + (i - s) = omega arith in e)
      ∙ agree_below_at (λ j. is_placed ((riscv_form f).places w.clear) (s + j)) (λ _. false) n
      (i - s) outside (omega arith)))

-- ---- the words of 8 bytes

pub front_pair : (xs : List ℕ) → word_of (take 8 xs) ≡ word_of xs
front_pair [] = refl
front_pair (a ∷ []) = refl
front_pair (a ∷ b ∷ []) = refl
front_pair (a ∷ b ∷ c ∷ []) = refl
front_pair (a ∷ b ∷ c ∷ d ∷ xs) = refl

pub back_word : (xs : List ℕ) → word_of (drop 4 (take 8 xs)) ≡ word_of (drop 4 xs)
back_word [] = refl
back_word (a ∷ []) = refl
back_word (a ∷ b ∷ []) = refl
back_word (a ∷ b ∷ c ∷ []) = refl
back_word (a ∷ b ∷ c ∷ d ∷ xs) = word_of_front xs
