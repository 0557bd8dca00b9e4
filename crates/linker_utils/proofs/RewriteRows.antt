-- Bits of instructions, and places of those.
use Rattle.linker_utils.proofs.Imports.{Bool, HasWord, List, [], and_assoc, and_block, and_mask, and_zero_r, ap, arith, bit_and, bit_or, drop, drop-drop, eqb-true, false, from_le_bytes, inl, inr, kept, kept_of, length, mod_below, or_disjoint, or_zero_l, pow_pos, refl, subst, sym, take, to_le_bytes, true, w16, w32, ℕ, ⊤, ◌%◌, ◌*◌, ◌++◌, ◌+◌, ◌-◌, ◌/◌, ◌==◌, ◌^◌, ◌↔◌, ◌∙◌, ◌∷◌, ◌≡◌, ◌≤◌, ◌⊎◌}
use Rattle.std.proofs.Math.Nat.{add-zero, add_comm, div-add-mod, mul_comm}

of_kept : (ones whole : Bool) (w from mask n : ℕ) → (mask + 1 == 2 ^ n) ≡ ones → (from == 0) ≡ whole
    → bit_and (w / 2 ^ from) mask ≡ kept_of ones whole w from mask n
of_kept true whole w from mask n is first =
    let one : mask + 1 ≡ 2 ^ n = eqb-true _ _ is in
    let low : mask ≡ 2 ^ n - 1 = omega (arith, one) in
    let same : n ≡ from + n - from = omega arith in
    ap (bit_and (w / 2 ^ from)) low ∙ and_mask (w / 2 ^ from) n ∙ ap (λ k. w / 2 ^ from % 2 ^ k) same
of_kept false true w from mask n is first =
    let none : w / 2 ^ 0 ≡ w = omega arith in
    ap (λ k. bit_and (w / 2 ^ k) mask) (eqb-true _ _ first) ∙ ap (λ k. bit_and k mask) none
of_kept false false w from mask n is first = refl

-- the bits that a mask leaves of a word
pub kept_is : (w from mask n : ℕ) → bit_and (w / 2 ^ from) mask ≡ kept w from mask n
kept_is w from mask n = of_kept (mask + 1 == 2 ^ n) (from == 0) w from mask n refl refl

-- bits that are kept, and others that are set
pub kept_and_set : (m s w : ℕ) → bit_and m s ≡ 0 → bit_or (bit_and w m) s ≡ bit_and w m + s
kept_and_set m s w apart = or_disjoint (bit_and w m) s (and_assoc s w m ∙ ap (bit_and w) apart ∙ and_zero_r w)

pub kept_field : (from n s w : ℕ) → let mask = (2 ^ n - 1) * 2 ^ from in
    bit_and mask s ≡ 0 → bit_or (bit_and w mask) s ≡ s + w / 2 ^ from % 2 ^ n * 2 ^ from
kept_field from n s w apart =
    let high = w / 2 ^ from in let low = w % 2 ^ from in let mask = (2 ^ n - 1) * 2 ^ from in
    let parts : high * 2 ^ from + low ≡ w = ap (λ k. k + low) (mul_comm high (2 ^ from)) ∙ div-add-mod w (2 ^ from) in
    let kept : bit_and w mask ≡ high % 2 ^ n * 2 ^ from =
    ap (λ k. bit_and k mask) (sym parts) ∙ ap (bit_and (high * 2 ^ from + low)) (sym (add-zero mask))
    ∙ and_block from high (2 ^ n - 1) low 0 (mod_below w (2 ^ from) (pow_pos from)) (pow_pos from)
    ∙ ap (λ k. bit_and high (2 ^ n - 1) * 2 ^ from + k) (and_zero_r low) ∙ add-zero (bit_and high (2 ^ n - 1) * 2 ^ from)
    ∙ ap (λ k. k * 2 ^ from) (and_mask high n) in
    kept_and_set mask s w apart ∙ ap (λ k. k + s) kept ∙ add_comm (high % 2 ^ n * 2 ^ from) s

pub set_alone : (s w : ℕ) → bit_or (bit_and w 0) s ≡ s
set_alone s w = ap (λ n. bit_or n s) (and_zero_r w) ∙ or_zero_l s

-- equal words, or halves, that are written
pub one_word : (s : List ℕ) (o a b : ℕ) → a ≡ b → take o s ++ to_le_bytes w32 a ++ drop (o + 4) s ≡ take o s ++ to_le_bytes w32 b ++ drop (o + 4) s
one_word s o a b is = ap (λ n. take o s ++ to_le_bytes w32 n ++ drop (o + 4) s) is

pub one_half : (s : List ℕ) (o a b : ℕ) → a ≡ b → take o s ++ to_le_bytes w16 a ++ drop (o + 2) s ≡ take o s ++ to_le_bytes w16 b ++ drop (o + 2) s
one_half s o a b is = ap (λ n. take o s ++ to_le_bytes w16 n ++ drop (o + 2) s) is

-- a word, or a half, of set bits alone
pub word_alone : (n : ℕ) (s : List ℕ) (o : ℕ) → let word = from_le_bytes w32 (take 4 (drop o s)) in
    take o s ++ to_le_bytes w32 (bit_or (bit_and word 0) n) ++ drop (o + 4) s ≡ take o s ++ to_le_bytes w32 n ++ drop (o + 4) s
word_alone n s o = one_word s o _ _ (set_alone n (from_le_bytes w32 (take 4 (drop o s))))

second_word : (xs : List ℕ) → from_le_bytes w32 (drop 4 xs) ≡ from_le_bytes w32 (drop 4 (take 8 xs))
second_word [] = refl
second_word (a ∷ []) = refl
second_word (a ∷ b ∷ []) = refl
second_word (a ∷ b ∷ c ∷ []) = refl
second_word (a ∷ b ∷ c ∷ d ∷ []) = refl
second_word (a ∷ b ∷ c ∷ d ∷ e ∷ []) = refl
second_word (a ∷ b ∷ c ∷ d ∷ e ∷ f ∷ []) = refl
second_word (a ∷ b ∷ c ∷ d ∷ e ∷ f ∷ g ∷ []) = refl
second_word (a ∷ b ∷ c ∷ d ∷ e ∷ f ∷ g ∷ h ∷ xs) = refl

-- the second word at an offset is that of the window
pub second_of_window : (s : List ℕ) (o : ℕ)
    → from_le_bytes w32 (drop (o + 4) s) ≡ from_le_bytes w32 (drop 4 (take 8 (drop o s)))
second_of_window s o = ap (from_le_bytes w32) (sym (drop-drop 4 o s)) ∙ second_word (drop o s)

-- the first word of a window of two
pub first_of_window : (xs : List ℕ) → from_le_bytes w32 (take 4 xs) ≡ from_le_bytes w32 (take 8 xs)
first_of_window [] = refl
first_of_window (a ∷ []) = refl
first_of_window (a ∷ b ∷ []) = refl
first_of_window (a ∷ b ∷ c ∷ []) = refl
first_of_window (a ∷ b ∷ c ∷ d ∷ xs) = refl

-- The tests of a row hold at an offset, which is placed as it says.
abbrev pub For : ℕ → ℕ → (ℕ → Type 0) → Type 0 → List ℕ → ℕ → Type 0
For len back Tests Placed s o =
    (len ≡ 0) ⊎ (back ≤ o) × ((o - back + len ≤ length s) × Tests (from_le_bytes w32 (drop (o - back) s))) × Placed

module _ (P Tests : ℕ → Type 0) (same : (w : ℕ) → P w ↔ Tests w) (s : List ℕ) (o : ℕ) where
  at : (back : ℕ) (Placed : Type 0) → back ≤ o → For 4 back Tests Placed s o ↔ (Placed × HasWord s (o - back) P)
  at back Placed enough = (
    λ h. elim h [ inl none ↦ absurd (omega (arith, none)) | inr all ↦ (all.2, (all.1.0, (same _).1 all.1.1)) ],
    λ h. inr (enough, (h.1.0, (same _).0 h.1.1), h.0),
  )

  no_back : o - 0 ≡ o
  no_back = omega arith

  pub at_any : For 4 0 Tests ⊤ s o ↔ HasWord s o P
  at_any =
      let is = at 0 ⊤ (omega arith) in
      (λ h. subst (λ n. HasWord s n P) no_back (is.0 h).1, λ h. is.1 (tt, subst (λ n. HasWord s n P) (sym no_back) h))

  pub at_multiple : For 4 0 Tests ((o - 0) % 4 ≡ 0) s o ↔ ((o % 4 ≡ 0) × HasWord s o P)
  at_multiple =
      let is = at 0 ((o - 0) % 4 ≡ 0) (omega arith) in
      (λ h. subst (λ n. (n % 4 ≡ 0) × HasWord s n P) no_back (is.0 h), λ h. is.1 (subst (λ n. (n % 4 ≡ 0) × HasWord s n P) (sym no_back) h))

  back_one : For 4 1 Tests ((o - 1) % 4 ≡ 0) s o → 1 ≤ o
  back_one h = elim h [ inl none ↦ absurd (omega (arith, none)) | inr all ↦ all.0 ]

  pub at_mark : For 4 1 Tests ((o - 1) % 4 ≡ 0) s o ↔ ((o % 4 ≡ 1) × HasWord s (o - 1) P)
  at_mark = (
    λ h. (let enough = back_one h in
        let is = (at 1 ((o - 1) % 4 ≡ 0) enough).0 h in
        let place = is.0 in
        let there : o % 4 ≡ 1 = omega (arith, place, enough) in (there, is.1)),
    λ h. (let place = h.0 in
        let enough : 1 ≤ o = omega (arith, place) in
        let before : (o - 1) % 4 ≡ 0 = omega (arith, place) in
        (at 1 ((o - 1) % 4 ≡ 0) enough).1 (before, h.1)),
  )
