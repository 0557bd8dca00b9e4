-- Bytes that differ in some bits only, by words.
use Rattle.linker_reading.proofs.Imports.{AreSameBut, AreSameFrom, Bool, FieldBits, IsSameBut, IsSameWordBut, List, ap, arith, bit_at, bit_at_above, cases_lt, drop, from_le_bytes, get_or-drop, get_or-take, if◌then◌else◌, is_in, is_in_one, kept_index, le-ltb, length, length-drop, length-take-le, lt-ltb, slice_index, subst, sym, take, take_rest, w32, ℕ, ⊎_elim, ◌*◌, ◌+◌, ◌-◌, ◌<◌, ◌^◌, ◌||◌, ◌∙◌, ◌≡◌, ◌≤◌}
use Rattle.linker_reading.proofs.WindowBits.{window_bit}

abbrev pub AreSmall : List ℕ → Type 0
AreSmall bytes = (i : ℕ) → slice_index bytes i < 2 ^ 8

-- the bytes from one on
abbrev pub rest : ℕ → List ℕ → List ℕ
rest at bytes = take (length bytes - at) (drop at bytes)

rest_at : (at : ℕ) (bytes : List ℕ) (i : ℕ) → slice_index (rest at bytes) i ≡ slice_index bytes (at + i)
rest_at at bytes i = ap (λ (xs : List ℕ). slice_index xs i) (take_rest bytes at) ∙ get_or-drop at bytes i 0

-- a bit of the word at a byte
word_bit : (bytes : List ℕ) (at x i j : ℕ) → AreSmall bytes → x ≡ from_le_bytes w32 (rest at bytes) → i < 4 → j < 8
    → bit_at x (8 * i + j) ≡ bit_at (slice_index bytes (at + i)) j
word_bit bytes at x i j small e h k =
    ap (λ n. bit_at n (8 * i + j)) e
    ∙ window_bit w32 (rest at bytes) i j (λ n. subst (λ b. b < 2 ^ 8) (sym (rest_at at bytes n)) (small (at + n))) h k
    ∙ ap (λ n. bit_at n j) (rest_at at bytes i)

-- the bits of a window's byte that aren't compared
abbrev ignored : FieldBits → List FieldBits → ℕ → ℕ → Bool
ignored field others i j = is_in field i j || is_in_one others i j

module _ (field : FieldBits) (others : List FieldBits) (from : ℕ) (a b : List ℕ) (small_a : AreSmall a) (small_b : AreSmall b) where
  abbrev IsSameAt : ℕ → Type 0
  IsSameAt i = IsSameBut (λ j. is_in field (from + i) j || is_in_one others (from + i) j) (slice_index a i) (slice_index b i)

  assoc : (at i j : ℕ) → ignored field others (from + at + i) j ≡ ignored field others (from + (at + i)) j
  assoc at i j = ap (λ n. ignored field others n j) (let e : from + at + i ≡ from + (at + i) = omega arith in e)

  -- four bytes are the same where their words are
  pub of_word : (at x y : ℕ) → x ≡ from_le_bytes w32 (rest at a) → y ≡ from_le_bytes w32 (rest at b)
      → IsSameWordBut field others (from + at) x y → (i : ℕ) → i < 4 → IsSameAt (at + i)
  of_word at x y e f same i h j k is =
      sym (word_bit a at x i j small_a e h k) ∙ same i j h k (assoc at i j ∙ is) ∙ word_bit b at y i j small_b f h k

  pub to_word : (at x y : ℕ) → x ≡ from_le_bytes w32 (rest at a) → y ≡ from_le_bytes w32 (rest at b)
      → ((i : ℕ) → i < 4 → IsSameAt (at + i)) → IsSameWordBut field others (from + at) x y
  to_word at x y e f same i j h k is =
      word_bit a at x i j small_a e h k ∙ same i h j k (sym (assoc at i j) ∙ is) ∙ sym (word_bit b at y i j small_b f h k)

  pub four_more : (at x y : ℕ) → x ≡ from_le_bytes w32 (rest at a) → y ≡ from_le_bytes w32 (rest at b)
      → AreSameFrom field others from a b at → IsSameWordBut field others (from + at) x y → AreSameFrom field others from a b (at + 4)
  four_more at x y e f before same i h =
      ⊎_elim (λ low. before i low)
      (λ high.
      let i_is : at + (i - at) ≡ i = omega (arith, high) in
      subst IsSameAt i_is (of_word at x y e f same (i - at) (omega (arith, h, high))))
      (cases_lt i at)

  -- a byte alone
  pub of_byte : (at x y : ℕ) → x ≡ slice_index a at → y ≡ slice_index b at → IsSameWordBut field others (from + at) x y → IsSameAt at
  of_byte at x y e f same j k is =
      let zero_is : 8 * 0 + j ≡ j = omega arith in
      ap (λ n. bit_at n j) (sym e) ∙ ap (bit_at x) (sym zero_is)
      ∙ same 0 j (omega arith) k (ap (λ n. ignored field others n j) (let e : from + at + 0 ≡ from + at = omega arith in e) ∙ is)
      ∙ ap (bit_at y) zero_is ∙ ap (λ n. bit_at n j) f

  pub to_byte : (at x y : ℕ) → x ≡ slice_index a at → y ≡ slice_index b at → IsSameAt at → IsSameWordBut field others (from + at) x y
  to_byte at x y e f same i j h k is =
      ⊎_elim
      (λ first.
      let bit_is : 8 * i + j ≡ j = omega (arith, first) in
      ap (bit_at x) bit_is ∙ ap (λ n. bit_at n j) e
      ∙ same j k (ap (λ n. ignored field others n j) (let e : from + at ≡ from + at + i = omega (arith, first) in e) ∙ is)
      ∙ ap (λ n. bit_at n j) (sym f) ∙ ap (bit_at y) (sym bit_is))
      (λ later. bit_at_above x 8 (8 * i + j) (subst (λ n. n < 2 ^ 8) (sym e) (small_a at)) (omega (arith, later))
      ∙ sym (bit_at_above y 8 (8 * i + j) (subst (λ n. n < 2 ^ 8) (sym f) (small_b at)) (omega (arith, later))))
      (cases_lt i 1)

  pub one_more : (at x y : ℕ) → x ≡ slice_index a at → y ≡ slice_index b at
      → AreSameFrom field others from a b at → IsSameWordBut field others (from + at) x y → AreSameFrom field others from a b (at + 1)
  one_more at x y e f before same i h =
      ⊎_elim (λ low. before i low)
      (λ high. subst IsSameAt (let at_is : at ≡ i = omega (arith, h, high) in at_is) (of_byte at x y e f same))
      (cases_lt i at)

-- ---- the bytes before those that are deleted, and those after

module _ (field : FieldBits) (others : List FieldBits) (start count : ℕ) (a b : List ℕ) (inside : start ≤ length b) where
  abbrev pub IsFrontSame : Type 0
  IsFrontSame = AreSameFrom field others 0 (take start a) (take start b) (length (take start b))

  abbrev pub IsRestSame : Type 0
  IsRestSame = AreSameFrom field others (start + count) (rest (start + count) a) (rest start b) (length (rest start b))

  same_at : (k l x y z w : ℕ) → k ≡ l → x ≡ y → z ≡ w → IsSameBut (ignored field others k) x z → IsSameBut (ignored field others l) y w
  same_at k l x y z w e f g same j h is =
      ap (λ n. bit_at n j) (sym f) ∙ same j h (ap (λ n. ignored field others n j) e ∙ is) ∙ ap (λ n. bit_at n j) g

  front_len : length (take start b) ≡ start
  front_len = length-take-le start b inside

  pub no_front : start ≡ 0 → IsFrontSame
  no_front none i h = absurd (omega (arith, h, front_len, none))

  rest_len : length (rest start b) ≡ length b - start
  rest_len = ap length (take_rest b start) ∙ length-drop start b

  kept_is : (i : ℕ) → i < start → i ≡ kept_index start count i
  kept_is i h = sym (ap (λ t. if t then i else i + count) (lt-ltb i start h))

  kept_before : (i : ℕ) → i < start → 0 + i ≡ kept_index start count i
  kept_before i h = (let e : 0 + i ≡ i = omega arith in e) ∙ kept_is i h

  kept_after : (i : ℕ) → start ≤ i → start + count + (i - start) ≡ kept_index start count i
  kept_after i h = sym (ap (λ t. if t then i else i + count) (le-ltb i start h) ∙ omega (arith, h))

  in_front : (i : ℕ) → i < start → slice_index (take start a) i ≡ slice_index a (kept_index start count i)
  in_front i h = get_or-take start a i 0 h ∙ ap (slice_index a) (kept_is i h)

  in_rest : (i : ℕ) → start ≤ i → slice_index (rest (start + count) a) (i - start) ≡ slice_index a (kept_index start count i)
  in_rest i h = rest_at (start + count) a (i - start) ∙ ap (slice_index a) (kept_after i h)

  in_rest_of_b : (i : ℕ) → start ≤ i → slice_index (rest start b) (i - start) ≡ slice_index b i
  in_rest_of_b i h = rest_at start b (i - start) ∙ ap (slice_index b) (let e : start + (i - start) ≡ i = omega (arith, h) in e)

  pub of_parts : IsFrontSame → IsRestSame → AreSameBut (is_in field) others start count a b
  of_parts front following i h =
      ⊎_elim
      (λ low. same_at _ _ _ _ _ _ (kept_before i low) (in_front i low) (get_or-take start b i 0 low) (front i (omega (arith, low, front_len))))
      (λ high. same_at _ _ _ _ _ _ (kept_after i high) (in_rest i high) (in_rest_of_b i high) (following (i - start) (omega (arith, h, high, rest_len))))
      (cases_lt i start)

  pub to_front : AreSameBut (is_in field) others start count a b → IsFrontSame
  to_front same i h =
      let low : i < start = omega (arith, h, front_len) in
      same_at _ _ _ _ _ _ (sym (kept_before i low)) (sym (in_front i low)) (sym (get_or-take start b i 0 low)) (same i (omega (arith, low, inside)))

  pub to_rest : AreSameBut (is_in field) others start count a b → IsRestSame
  to_rest same i h =
      let high : start ≤ start + i = omega arith in
      let at : start + i - start ≡ i = omega arith in
      subst (λ n. IsSameBut (ignored field others (start + count + n)) (slice_index (rest (start + count) a) n) (slice_index (rest start b) n)) at
      (same_at _ _ _ _ _ _ (sym (kept_after (start + i) high)) (sym (in_rest (start + i) high)) (sym (in_rest_of_b (start + i) high)) (same (start + i) (omega (arith, h, rest_len))))
