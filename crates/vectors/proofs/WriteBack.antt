-- A value read from a window, truncated to the width of its form and written back.
use Rattle.std.proofs.Common.{◌≡◌, ℕ, zero, suc, ◌+◌, ◌-◌, ◌*◌, ◌/◌, ◌%◌, ◌^◌, ◌<◌, ◌≤◌, min, Bool, List, length, take, drop, get_or, refl, sym, ◌∙◌, ap, subst, arith, inl, inr, IsTrue}
use Rattle.std.specs.Int.{Width, cast_unsigned, w64, byte_len, from_le_bytes, byte_worth, sum_through}
use lib.Bits.{bit_and}
use Rattle.std.proofs.lemmas.Bool.{cases_lt}
use Rattle.std.proofs.lemmas.List.{get_or-take, get_or-drop, take_rest}
use Rattle.std.proofs.lemmas.Grind.{same_number_lists}
use Rattle.std.proofs.lemmas.Nat.{and_mask, pow-add, pow_pos, mod_below}
use Rattle.std.proofs.Math.Nat.{mul-le-mul_right, div-eq_of_lt, add-mul-div_right, mod-eq_of_lt, pow-le-pow_right}
use Rattle.linker_utils.specs.Form.{Form, window_of, Fits, WriteBackChangesNothing}
use Rattle.vectors.specs.Poke.{window_at, IsPoked, value_at, flag_at}

-- ---- the bits that a form takes

-- the mask has k ones, which are at least as many as fit
pub record IsMask (width mask : ℕ) : Type 0 where
  pub ones : ℕ
  pub short : ones ≤ 64
  pub enough : min width 64 ≤ ones
  pub is : mask ≡ 2 ^ ones - 1

pub whole_mask : (width : ℕ) → IsMask width 18446744073709551615
whole_mask width = record { ones = 64; short = omega arith; enough = omega arith; is = refl }

power_order : (a b : ℕ) → 2 ^ a ≤ 2 ^ b - 1 → a < b
power_order a b h =
    elim (cases_lt a b) [
      | inl below ↦ below
      | inr above ↦ absurd (omega (arith, pow-le-pow_right {n = 2} (omega arith) above, pow_pos b))
    ]

half : (k : ℕ) → 0 < k → (2 ^ k - 1) / 2 ≡ 2 ^ (k - 1) - 1
half k h =
    let more : 2 ^ k ≡ 2 ^ (k - 1) * 2 = ap (λ j. 2 ^ j) (let e : k ≡ (k - 1) + 1 = omega arith in e) ∙ pow-add 2 (k - 1) 1 in
    omega (arith, pow_pos (k - 1))

-- a mask that doesn't fit has a bit too many
pub next_mask : (width mask : ℕ) → IsMask width mask → 2 ^ width ≤ mask → IsMask width (mask / 2)
next_mask width mask m h =
    let many : width < m.ones = power_order width m.ones (subst (λ y. 2 ^ width ≤ y) m.is h) in
    let short = m.short in
    record { ones = m.ones - 1; short = omega arith; enough = omega arith; is = ap (λ y. y / 2) m.is ∙ half m.ones (omega arith) }

-- one that fits has no bit too many
pub truncated_by : (width mask v : ℕ) → IsMask width mask → mask < 2 ^ width → v < 2 ^ 64 → bit_and v mask ≡ v % 2 ^ width
truncated_by width mask v m h wide =
    let short = m.short in
    let enough = m.enough in
    let few : m.ones ≤ width = elim (cases_lt width m.ones) [
      | inl more ↦ absurd (omega (arith, m.is, pow-le-pow_right {n = 2} (omega arith) more, ap (λ y. y) (pow-add 2 width 1), h))
      | inr at ↦ at
    ] in
    ap (bit_and v) m.is
    ∙ and_mask v m.ones
    ∙ elim (cases_lt width 64) [
      | inl below ↦ ap (λ k. v % 2 ^ k) (omega arith)
      | inr above ↦
          let all : m.ones ≡ 64 = omega arith in
          ap (λ k. v % 2 ^ k) all ∙ mod-eq_of_lt wide ∙ sym (mod-eq_of_lt (let large : v < 2 ^ width = omega (arith, pow-le-pow_right {n = 2} (omega arith) above) in large))
    ]

-- ---- bytes of the same number

abbrev AreBytes : List ℕ → Type 0
AreBytes xs = (i : ℕ) → get_or xs i 0 < 256

-- the number of the bytes up to the k-th
abbrev number_to : List ℕ → ℕ → ℕ
number_to xs zero = get_or xs 0 0
number_to xs (suc k) = number_to xs k + get_or xs (suc k) 0 * 256 ^ suc k

more_bytes : (k : ℕ) → 256 ^ suc (suc k) ≡ 256 * 256 ^ suc k
more_bytes k = ap (λ j. 256 ^ j) (let e : suc (suc k) ≡ 1 + suc k = omega arith in e) ∙ pow-add 256 1 (suc k)

number_below : (xs : List ℕ) (k : ℕ) → AreBytes xs → number_to xs k < 256 ^ suc k
number_below xs zero b = b 0
number_below xs (suc k) b =
    let byte : get_or xs (suc k) 0 ≤ 255 = omega (arith, b (suc k)) in
    omega (arith, number_below xs k b, mul-le-mul_right (256 ^ suc k) byte, more_bytes k)

last_byte : (xs : List ℕ) (k : ℕ) → AreBytes xs → number_to xs (suc k) / 256 ^ suc k ≡ get_or xs (suc k) 0
last_byte xs k b =
    let below = number_below xs k b in
    add-mul-div_right (number_to xs k) (get_or xs (suc k) 0) {z = 256 ^ suc k} (omega arith) ∙ ap (λ y. y + get_or xs (suc k) 0) (div-eq_of_lt below) ∙ omega arith

same_bytes : (xs ys : List ℕ) (k : ℕ) → AreBytes xs → AreBytes ys → number_to xs k ≡ number_to ys k → (i : ℕ) → i ≤ k → get_or xs i 0 ≡ get_or ys i 0
same_bytes xs ys zero b c e i l = let first : i ≡ 0 = omega arith in rw first e
same_bytes xs ys (suc k) b c e i l =
    let last : get_or xs (suc k) 0 ≡ get_or ys (suc k) 0 = sym (last_byte xs k b) ∙ ap (λ n. n / 256 ^ suc k) e ∙ last_byte ys k c in
    elim (cases_lt i (suc k)) [
      | inl before ↦ same_bytes xs ys k b c (omega (arith, ap (λ y. y * 256 ^ suc k) last, e)) i (omega arith)
      | inr at ↦ let here : i ≡ suc k = omega arith in rw here last
    ]

number_is : (xs : List ℕ) (k : ℕ) → sum_through (λ i. byte_worth i (get_or xs i 0)) k ≡ number_to xs k
number_is xs zero = refl
number_is xs (suc k) = ap (λ y. y + get_or xs (suc k) 0 * 256 ^ suc k) (number_is xs k)

window_bytes : (w : Width) (xs ys : List ℕ) → AreBytes xs → AreBytes ys → from_le_bytes w xs ≡ from_le_bytes w ys → (i : ℕ) → i < byte_len w → get_or xs i 0 ≡ get_or ys i 0
window_bytes w xs ys b c e i l =
    same_bytes xs ys (byte_len w - 1) b c (sym (number_is xs (byte_len w - 1)) ∙ e ∙ number_is ys (byte_len w - 1)) i (omega arith)

-- a section whose window and whose bytes around it are those of another is that other
pub same_section : (form : Form) (o : ℕ) (before after : List ℕ) → length after ≡ length before → AreBytes before → AreBytes after
    → window_at form after o ≡ window_at form before o
    → take o after ≡ take o before → drop (o + byte_len form.window) after ≡ drop (o + byte_len form.window) before → after ≡ before
same_section form o before after long b c e front rest =
    let n = byte_len form.window in
    same_number_lists after before long (λ k l. elim (cases_lt k o) [
      | inl below ↦ sym (get_or-take o after k 0 below) ∙ ap (λ xs. get_or xs k 0) front ∙ get_or-take o before k 0 below
      | inr from ↦ elim (cases_lt (k - o) n) [
        | inl inside ↦
            ap (λ j. get_or after j 0) (let j : k ≡ o + (k - o) = omega arith in j)
            ∙ sym (get_or-drop o after (k - o) 0)
            ∙ window_bytes form.window (drop o after) (drop o before) (λ i. subst (λ x. x < 256) (sym (get_or-drop o after i 0)) (c (o + i)))
            (λ i. subst (λ x. x < 256) (sym (get_or-drop o before i 0)) (b (o + i))) e (k - o) inside
            ∙ get_or-drop o before (k - o) 0
            ∙ ap (λ j. get_or before j 0) (let j : o + (k - o) ≡ k = omega arith in j)
        | inr above ↦
            ap (λ j. get_or after j 0) (let j : k ≡ o + n + (k - (o + n)) = omega arith in j)
            ∙ sym (get_or-drop (o + n) after (k - (o + n)) 0)
            ∙ ap (λ xs. get_or xs (k - (o + n)) 0) rest
            ∙ get_or-drop (o + n) before (k - (o + n)) 0
            ∙ ap (λ j. get_or before j 0) (let j : o + n + (k - (o + n)) ≡ k = omega arith in j)
      ]
    ])

-- ---- what was read, written back

module _ (form : Form) (o : ℕ) (s : List ℕ) where
  pub truncated_fits : (v number : ℕ) → v ≡ number % 2 ^ form.width (window_of form (take (length s - o) (drop o s))) → Fits form v (window_at form s o)
  truncated_fits v number e =
      let width = form.width (window_at form s o) in
      subst (λ y. y < 2 ^ width) (sym (e ∙ ap (λ b. number % 2 ^ form.width (window_of form b)) (take_rest s o))) (mod_below number (2 ^ width) (pow_pos width))

  pub value_is : (v number : ℕ) → number ≡ cast_unsigned w64 (form.reading (window_of form (take (length s - o) (drop o s))))
      → v ≡ number % 2 ^ form.width (window_of form (take (length s - o) (drop o s))) → v ≡ value_at form s o
  value_is v number read truncate =
      truncate ∙ ap (λ y. y % 2 ^ form.width (window_of form (take (length s - o) (drop o s)))) read
      ∙ ap (λ y. cast_unsigned w64 (form.reading (window_of form y)) % 2 ^ form.width (window_of form y)) (take_rest s o)

  pub flag_is : (neg : Bool) → neg ≡ form.flag (window_of form (take (length s - o) (drop o s))) → neg ≡ flag_at form s o
  flag_is neg flag = flag ∙ ap (λ y. form.flag (window_of form y)) (take_rest s o)

  pub value_poked_back : (made : List ℕ) (v : ℕ) (neg : Bool) → v ≡ value_at form s o → neg ≡ flag_at form s o → IsPoked form v neg o s made
      → IsPoked form (value_at form s o) (flag_at form s o) o s made
  value_poked_back made v neg value flag poked =
      subst (λ n. IsPoked form (value_at form s o) n o s made) flag (subst (λ x. IsPoked form x neg o s made) value poked)

  pub unchanged_by_write_back : (made : List ℕ) (v : ℕ) (neg : Bool) → WriteBackChangesNothing form → v < 2 ^ 64 → v ≡ value_at form s o → neg ≡ flag_at form s o
      → IsTrue (form.restores (window_at form s o)) → IsPoked form v neg o s made
      → length made ≡ length s → AreBytes s → AreBytes made → made ≡ s
  unchanged_by_write_back made v neg law wide value flag restores poked long b c =
      let same : window_at form made o ≡ window_at form s o =
      law v neg (window_at form s o) (window_at form made o) wide poked.written (record { restores = restores; value = value; flag = flag }) in
      same_section form o s made long b c same poked.front poked.rest
