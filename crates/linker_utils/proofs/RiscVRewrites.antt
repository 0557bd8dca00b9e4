-- What the tests of RISC-V's rows, and the bits that they keep and set, mean; and the high parts
-- that are 0 or fit `c.lui`.
use Rattle.linker_utils.proofs.Imports.{FitsClui, HasWord, HoldsHigh, IsLowOverOther, IsTrue, List, [], adds_low12, agree_below_at, and_block, and_mask, ap, arith, bit_and, bit_or, cases_lt, cast_signed, field, from_le_bytes, inl, inr, int_div_euclid, load_to_addi, nat_le, negsuc, not, or_zero_r, pos, refl, signed, subst, sym, take, w16, w64, with_rs1, ℕ, ℤ, ⊤, ◌%◌, ◌&&◌, ◌*◌, ◌+ℤ◌, ◌+◌, ◌-ℤ◌, ◌-◌, ◌/◌, ◌<◌, ◌==◌, ◌^◌, ◌↔◌, ◌∙◌, ◌∷◌, ◌≡◌, ◌≤ℤ◌, ◌≤◌}
use Rattle.std.proofs.lemmas.Int.{ints, to_z_pos}
use Rattle.linker_base.specs.Form.{place_sum}
use Rattle.linker_elf.specs.RiscV.{riscv_places, IsPairRange}
use Rattle.linker_riscv64.specs.RiscVFields.{opcode_of, funct3_of, rs1_of, rs2_of}
use Rattle.linker_elf.specs.declared.riscv64.forms.RiscVInstruction.TheVariants.{UType, CluiType}
use Rattle.linker_base.proofs.Bits.{cast_negative}
use Rattle.linker_base.proofs.Pairs.{signed_cases}
use Rattle.linker_elf.proofs.RiscV.{clui_laid, u_laid, pair_of}
use Rattle.linker_utils.proofs.RewriteRows.{For, at_any, kept_and_set, kept_field}

-- ---- the bits that rows keep and set

-- all but the opcode and the function
pub of_load : (w : ℕ) → bit_or (bit_and w 0xffff8f80) 0x13 ≡ load_to_addi w
of_load w =
    let parts : w ≡ w / 2 ^ 15 * 2 ^ 15 + w % 2 ^ 15 = omega arith in
    let kept : bit_and w 0xffff8f80 ≡ bit_and (w / 2 ^ 15) 0x1ffff * 2 ^ 15 + bit_and (w % 2 ^ 15) 0xf80 =
    ap (λ n. bit_and n 0xffff8f80) parts ∙ and_block 15 (w / 2 ^ 15) 0x1ffff (w % 2 ^ 15) 0xf80 (omega arith) (omega arith) in
    let register = sym (or_zero_r (bit_and (w % 2 ^ 15) 0xf80)) ∙ kept_field 7 5 0 (w % 2 ^ 15) refl in
    kept_and_set 0xffff8f80 0x13 w refl ∙ omega (arith, kept, register, and_mask (w / 2 ^ 15) 17)

-- all but the first source register
pub over_rs1 : (register w : ℕ) → w < 2 ^ 32 → bit_and 0xfff07fff (register * 2 ^ 15) ≡ 0
    → bit_or (bit_and w 0xfff07fff) (register * 2 ^ 15) ≡ with_rs1 register w
over_rs1 register w small apart =
    let parts : w ≡ w / 2 ^ 20 * 2 ^ 20 + w % 2 ^ 20 = omega arith in
    let kept : bit_and w 0xfff07fff ≡ bit_and (w / 2 ^ 20) 0xfff * 2 ^ 20 + bit_and (w % 2 ^ 20) 0x7fff =
    ap (λ n. bit_and n 0xfff07fff) parts ∙ and_block 20 (w / 2 ^ 20) 0xfff (w % 2 ^ 20) 0x7fff (omega arith) (omega arith) in
    kept_and_set 0xfff07fff (register * 2 ^ 15) w apart
    ∙ omega (arith, small, kept, and_mask (w / 2 ^ 20) 12, and_mask (w % 2 ^ 20) 15)

pub without_rs1 : (w : ℕ) → w < 2 ^ 32 → bit_or (bit_and w 0xfff07fff) 0 ≡ w - field w 15 20 * 2 ^ 15
without_rs1 w small = let made = over_rs1 0 w small refl in omega (arith, made)

-- ---- the tests of a low part

abbrev AddsLow : ℕ → Type 0
AddsLow w = IsTrue (adds_low12 (opcode_of w) (funct3_of w))

pub adds_low : (s : List ℕ) (o : ℕ) → For 4 0 (λ w. AddsLow w × ⊤) ⊤ s o ↔ HasWord s o AddsLow
adds_low s o = at_any AddsLow (λ w. AddsLow w × ⊤) (λ w. (λ h. (h, tt), λ t. t.0)) s o

-- those of one over another register
pub low_over_other : (w : ℕ)
    → (IsTrue (adds_low12 (opcode_of w) (funct3_of w))
    × (IsTrue (not (nat_le 0x23 (opcode_of w) && nat_le (opcode_of w) 0x23 && rs2_of w == rs1_of w)) × ⊤))
    ↔ IsLowOverOther w
low_over_other w =
    let small : opcode_of w < 128 = omega arith in
    let store = agree_below_at (λ n. nat_le 0x23 n && nat_le n 0x23) (λ n. n == 0x23) 128 (opcode_of w) refl small in
    let same = ap (λ b. not (b && rs2_of w == rs1_of w)) store in (
      λ h. (h.0, sym same ∙ h.1.0),
      λ h. (h.0, (same ∙ h.1, tt)),
    )

-- the bytes of a half
pub half_of_front : (xs : List ℕ) → from_le_bytes w16 (take 2 xs) ≡ from_le_bytes w16 xs
half_of_front [] = refl
half_of_front (a ∷ []) = refl
half_of_front (a ∷ b ∷ xs) = refl

-- ---- high parts

high_below : (x : ℕ) → x < 2 ^ 63 → int_div_euclid (cast_signed w64 x) (pos 4096) ≤ℤ pos 31 → x < 131072
high_below x h f =
    let g = subst (λ z. int_div_euclid z (pos 4096) ≤ℤ pos 31) (to_z_pos w64 x h) f in
    omega (arith, ints)

high_above : (x : ℕ) → x < 2 ^ 64 → 2 ^ 63 ≤ x → negsuc 31 ≤ℤ int_div_euclid (cast_signed w64 x) (pos 4096) → 2 ^ 64 - 131072 ≤ x
high_above x h l f =
    let g = subst (λ z. negsuc 31 ≤ℤ int_div_euclid z (pos 4096)) (cast_negative x h l) f in
    omega (arith, ints)

-- such values are near 0
near_low : (v : ℕ) → v < 2 ^ 63 → FitsClui v → v < 129024
near_low v h f =
    let x = (v + 0x800) % 2 ^ 64 in
    elim (cases_lt x (2 ^ 63)) [
      | inl low ↦ let b = high_below x low f.1 in omega arith
      | inr up ↦ let b = high_above x (omega arith) up f.0 in omega arith
    ]

near_high : (v : ℕ) → v < 2 ^ 64 → 2 ^ 63 ≤ v → FitsClui v → 2 ^ 64 - 133120 ≤ v
near_high v wide h f =
    let x = (v + 0x800) % 2 ^ 64 in
    elim (cases_lt x (2 ^ 63)) [
      | inl low ↦ let b = high_below x low f.1 in omega arith
      | inr up ↦ let b = high_above x (omega arith) up f.0 in omega arith
    ]

sum_is : (x y z a b c : ℤ) → x ≡ a → y ≡ b → z ≡ c → a +ℤ b ≡ c → x +ℤ y ≡ z
sum_is x y z a b c e f g h = ap (λ t. t +ℤ y) e ∙ ap (λ t. a +ℤ t) f ∙ h ∙ sym g

module _ (v h l : ℕ) (wide : v < 2 ^ 64) (high : h ≡ (v + 0x800) % 2 ^ 64 / 4096 % 64 * 4096) (low : l ≡ v % 4096) (fits : FitsClui v) where
  pub six_bits : signed 18 h +ℤ signed 12 l ≡ signed 64 v
  six_bits =
      elim (signed_cases 64 v) [
        | inl n ↦ let near = near_low v n.0 fits in elim (signed_cases 18 h) [
          | inl a ↦ elim (signed_cases 12 l) [
            | inl b ↦ sum_is (signed 18 h) (signed 12 l) (signed 64 v) (pos h) (pos l) (pos v) a.1 b.1 n.1 (let i = a.0 in let j = b.0 in omega (arith, ints))
            | inr b ↦ sum_is (signed 18 h) (signed 12 l) (signed 64 v) (pos h) (pos l -ℤ pos 4096) (pos v) a.1 b.1 n.1 (let i = a.0 in let j = b.0 in omega (arith, ints))
          ]
          | inr a ↦ absurd (let i = a.0 in omega arith)
        ]
        | inr n ↦ let near = near_high v wide n.0 fits in elim (signed_cases 18 h) [
          | inl a ↦ elim (signed_cases 12 l) [
            | inl b ↦ sum_is (signed 18 h) (signed 12 l) (signed 64 v) (pos h) (pos l) (pos v -ℤ pos (2 ^ 64)) a.1 b.1 n.1 (let i = a.0 in let j = b.0 in omega (arith, ints))
            | inr b ↦ sum_is (signed 18 h) (signed 12 l) (signed 64 v) (pos h) (pos l -ℤ pos 4096) (pos v -ℤ pos (2 ^ 64)) a.1 b.1 n.1 (let i = a.0 in let j = b.0 in omega (arith, ints))
          ]
          | inr a ↦ elim (signed_cases 12 l) [
            | inl b ↦ sum_is (signed 18 h) (signed 12 l) (signed 64 v) (pos h -ℤ pos 262144) (pos l) (pos v -ℤ pos (2 ^ 64)) a.1 b.1 n.1 (let i = a.0 in let j = b.0 in omega (arith, ints))
            | inr b ↦ sum_is (signed 18 h) (signed 12 l) (signed 64 v) (pos h -ℤ pos 262144) (pos l -ℤ pos 4096) (pos v -ℤ pos (2 ^ 64)) a.1 b.1 n.1 (let i = a.0 in let j = b.0 in omega (arith, ints))
          ]
        ]
      ]

in_range : (v : ℕ) → v < 2 ^ 64 → FitsClui v → IsPairRange (signed 64 v)
in_range v wide fits =
    elim (signed_cases 64 v) [
      | inl n ↦ let near = near_low v n.0 fits in subst IsPairRange (sym n.1) (omega (arith, ints), omega (arith, ints))
      | inr n ↦ let near = near_high v wide n.0 fits in subst IsPairRange (sym n.1) (omega (arith, ints), omega (arith, ints))
    ]

pub clui_holds : (v : ℕ) → v < 2 ^ 64 → FitsClui v → HoldsHigh CluiType v
clui_holds v wide fits = λ neg before after laid.
    six_bits v (place_sum (riscv_places CluiType) after) (v % 2 ^ 12) wide (clui_laid v before after laid) refl fits

pub u_holds : (v : ℕ) → v < 2 ^ 64 → FitsClui v → HoldsHigh UType v
u_holds v wide fits = λ neg before after laid.
    (pair_of v (place_sum (riscv_places UType) after) (v % 2 ^ 12) wide (u_laid v before after laid) refl).exact (in_range v wide fits)
