-- Forms that keep the bits outside their places, and forms of AArch64: 16 bits under an opcode that
-- goes by the sign, and an offset of 12 bits from the scale up.
use Rattle.linker_base.proofs.Imports.{BitsWritten, Bool, Form, ImmediateBit, List, WriteKeepsOtherBits, ap, arith, bit_at, bit_at_cat_low, cast_unsigned, cond, eqb, eqb-true, false, inl, inr, ltb, ltb-true, negsuc, not, not-false, or_cases, place_sum, pos, subst, true, w64, ℕ, ◌%◌, ◌*◌, ◌+◌, ◌-◌, ◌/◌, ◌<◌, ◌^◌, ◌||◌, ◌∙◌, ◌≡◌}
use Rattle.linker_base.proofs.Fields.{bit_at_mod}
use Rattle.linker_base.proofs.Immediates.{place_sum_below, restored, values_apart_fills}
use Rattle.linker_base.proofs.Rounded.{IsSoundPart}

-- a form whose base has the old bits outside its opcode
pub keeps_others : (form : Form) → ((neg : Bool) (x w : ℕ) → form.opcode w ≡ false → bit_at (form.base neg x) w ≡ bit_at x w) → WriteKeepsOtherBits form
keeps_others form same v neg before after laid w p o = laid.kept w p ∙ same neg before w o

-- one that places its bits on the old window
pub keeps_base : (form : Form) → ((neg : Bool) (x : ℕ) → form.base neg x ≡ x) → WriteKeepsOtherBits form
keeps_base form same = keeps_others form (λ neg x w o. ap (λ y. bit_at y w) (same neg x))

-- an opcode from bit n up keeps the bits below
pub opcode_keeps : (o n x w : ℕ) → not (ltb w n) ≡ false → bit_at (o * 2 ^ n + x % 2 ^ n) w ≡ bit_at x w
opcode_keeps o n x w h =
    let below : w < n = ltb-true w n (not-false (ltb w n) h) in
    bit_at_cat_low o n (x % 2 ^ n) w below ∙ bit_at_mod x n w below

-- ---- 16 bits, complemented for a negative value, under one of two opcodes

abbrev signed_bits : Bool → ℕ → ℕ
signed_bits neg v = cond neg (65535 - v % 2 ^ 16) (v % 2 ^ 16)

abbrev with_opcode : Bool → ℕ → ℕ
with_opcode neg x = cond neg 0x125 0x1a5 * 2 ^ 23 + x % 2 ^ 23

bits_read_back : (neg flag : Bool) (v s : ℕ) → s < 2 ^ 16 → v ≡ cast_unsigned w64 (cond flag (negsuc (s * 2 ^ 0)) (pos (s * 2 ^ 0))) % 2 ^ 64 → neg ≡ flag → signed_bits neg v ≡ s
bits_read_back true true v s h e f = omega arith
bits_read_back false false v s h e f = omega arith
bits_read_back true false v s h e f = cc
bits_read_back false true v s h e f = cc

negative_same : (neg : Bool) (x : ℕ) → neg ≡ true → x / 2 ^ 23 ≡ 0x125 → with_opcode neg x ≡ x
negative_same true x e o = omega arith
negative_same false x e o = cc

positive_same : (neg : Bool) (x : ℕ) → neg ≡ false → x / 2 ^ 23 ≡ 0x1a5 → with_opcode neg x ≡ x
positive_same true x e o = cc
positive_same false x e o = omega arith

-- the flag is bit 30, which tells the opcodes apart
opcode_same : (neg : Bool) (x : ℕ) → (eqb (x / 2 ^ 23) 0x125 || eqb (x / 2 ^ 23) 0x1a5) ≡ true → neg ≡ eqb (bit_at x 30) 0 → with_opcode neg x ≡ x
opcode_same neg x h f =
    elim (or_cases (eqb (x / 2 ^ 23) 0x125) (eqb (x / 2 ^ 23) 0x1a5) h) [
      | inl e ↦
          let o : x / 2 ^ 23 ≡ 0x125 = eqb-true (x / 2 ^ 23) 0x125 e in
          let bit : bit_at x 30 ≡ 0 = omega arith in
          negative_same neg x (f ∙ ap (λ b. eqb b 0) bit) o
      | inr e ↦
          let o : x / 2 ^ 23 ≡ 0x1a5 = eqb-true (x / 2 ^ 23) 0x1a5 e in
          let bit : bit_at x 30 ≡ 1 = omega arith in
          positive_same neg x (f ∙ ap (λ b. eqb b 0) bit) o
    ]

pub move_restored : (ps : List ImmediateBit) (neg : Bool) (v before after : ℕ) → IsSoundPart 0 16 0 ps
    → BitsWritten ps (signed_bits neg v) (with_opcode neg before) after
    → (eqb (before / 2 ^ 23) 0x125 || eqb (before / 2 ^ 23) 0x1a5) ≡ true
    → v ≡ cast_unsigned w64 (cond (eqb (bit_at before 30) 0) (negsuc (place_sum ps before * 2 ^ 0)) (pos (place_sum ps before * 2 ^ 0))) % 2 ^ 64
    → neg ≡ eqb (bit_at before 30) 0 → after ≡ before
move_restored ps neg v before after sound laid opcode value flag =
    let apart = values_apart_fills 0 16 ps sound.filled in
    let small = place_sum_below ps 16 before apart sound.below in
    let bits = bits_read_back neg (eqb (bit_at before 30) 0) v (place_sum ps before) small value flag in
    let over : BitsWritten ps (signed_bits neg v) before after = subst (λ b. BitsWritten ps (signed_bits neg v) b after) (opcode_same neg before opcode flag) laid in
    restored 16 0 ps (signed_bits neg v) before after apart sound.below sound.held sound.added
    (ap (λ m. (m + 0) % 2 ^ 64 % 2 ^ 16) bits ∙ omega arith) over

-- ---- the scale of an offset

pub scale_from : (a b : Bool) (s : ℕ) → s < 4 → cond a (cond b 4 s) 0 < 5
scale_from true true s h = omega arith
scale_from true false s h = omega arith
scale_from false b s h = omega arith
