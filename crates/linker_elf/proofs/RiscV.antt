-- What the machine reads of the RISC-V forms, and pairs make their value.
use Rattle.linker_elf.proofs.Imports.{All, BitsWritten, Bool, CluiType, IType, ImmediateBit, IsPairOf, IsPairRange, JType, List, MachineReads, PairReads, RiscV, RiscVInstruction, SType, UType, UiType, Written, added, always_clear, and_pow, ap, arith, bit_and, bit_at, bit_at-lt, bit_at_and, bit_at_or, bit_for, bit_or, cases_lt, cast_unsigned, code_of, consecutive_bits_sum, false, inl, inr, int_rem_euclid, int_rem_euclid_is, ints, layout_laid, layout_machine, mod_below, negsuc, or_shifted, place_sum, place_sum_below, place_sum_placed, placed_bit, pos, pow_mono, pow_pos, refl, replaced, riscv_form, riscv_layout, riscv_places, same_from_bits, signed, signed_cases, subst, suc, sums, sym, true, ui_high, ui_low, ui_sum, w16, w32, w64, ℕ, ℤ, ◌%◌, ◌*◌, ◌+ℤ◌, ◌+◌, ◌-ℤ◌, ◌-◌, ◌/◌, ◌<ℤ◌, ◌<◌, ◌^◌, ◌∙◌, ◌≡◌, ◌≤ℤ◌, ◌≤◌, ◌⊎◌}
use Rattle.linker_base.proofs.Rounded.{IsSoundPart, sound_part, rounded_machine}
use Rattle.linker_elf.proofs.ReadNumbers.{value_of, whole, sign_taken_off}
use Rattle.linker_base.proofs.Listed.{All-front, All-back}

abbrev pub jtype_places : List ImmediateBit
jtype_places = riscv_places JType

pub u_sound : IsSoundPart 12 32 0x800 ui_high
u_sound = sound_part 12 32 0x800 ui_high refl

pub clui_sound : IsSoundPart 12 18 0x800 (riscv_places CluiType)
clui_sound = sound_part 12 18 0x800 (riscv_places CluiType) refl

ui_low_sound : IsSoundPart 0 12 0 ui_low
ui_low_sound = sound_part 0 12 0 ui_low refl

-- ---- pairs

pair_rem : (v m : ℕ) (z a b x y : ℤ) → x ≡ a → y ≡ b → a +ℤ b +ℤ pos (2 * 2 ^ 32) ≡ pos m → m % 2 ^ 32 ≡ v % 2 ^ 32 → int_rem_euclid (x +ℤ y) (pos (2 ^ 32)) ≡ pos (v % 2 ^ 32)
pair_rem v m z a b x y e f whole same =
    ap (λ t. int_rem_euclid t (pos (2 ^ 32))) (added x y a b e f) ∙ int_rem_euclid_is (a +ℤ b) (pos (2 ^ 32)) (2 ^ 32) 2 m (omega arith) refl whole ∙ ap pos same

pair_exact : (x y z a b c : ℤ) → x ≡ a → y ≡ b → z ≡ c → (IsPairRange c → a +ℤ b ≡ c) → IsPairRange z → x +ℤ y ≡ z
pair_exact x y z a b c e f g h r = added x y a b e f ∙ h (subst IsPairRange g r) ∙ sym g

module _ (v h l : ℕ) (wide : v < 2 ^ 64) (high : h ≡ (v + 0x800) % 2 ^ 64 / 4096 % 1048576 * 4096) (low : l ≡ v % 4096) where
  modulo_32 : int_rem_euclid (signed 32 h +ℤ signed 12 l) (pos (2 ^ 32)) ≡ pos (v % 2 ^ 32)
  modulo_32 =
      elim (signed_cases 32 h) [
        | inl a ↦ elim (signed_cases 12 l) [
          | inl b ↦ pair_rem v (h + l + 8589934592) (pos 0) (pos h) (pos l) (signed 32 h) (signed 12 l) a.1 b.1 (omega (arith, ints)) (let k = b.0 in omega arith)
          | inr b ↦ pair_rem v (h + l + 8589930496) (pos 0) (pos h) (pos l -ℤ pos 4096) (signed 32 h) (signed 12 l) a.1 b.1 (omega (arith, ints)) (let k = b.0 in omega arith)
        ]
        | inr a ↦ elim (signed_cases 12 l) [
          | inl b ↦ pair_rem v (h + l + 4294967296) (pos 0) (pos h -ℤ pos 4294967296) (pos l) (signed 32 h) (signed 12 l) a.1 b.1 (omega (arith, ints)) (let k = b.0 in omega arith)
          | inr b ↦ pair_rem v (h + l + 4294963200) (pos 0) (pos h -ℤ pos 4294967296) (pos l -ℤ pos 4096) (signed 32 h) (signed 12 l) a.1 b.1 (omega (arith, ints)) (let k = b.0 in omega arith)
        ]
      ]

  exactly_so : (c : ℤ) → ((v < 2 ^ 63) × (c ≡ pos v)) ⊎ ((2 ^ 63 ≤ v) × (c ≡ pos v -ℤ pos (2 ^ 64))) → IsPairRange c → signed 32 h +ℤ signed 12 l ≡ c
  exactly_so c s r =
      elim s [
        | inl n ↦ elim (signed_cases 32 h) [
          | inl a ↦ elim (signed_cases 12 l) [
            | inl b ↦ pair_exact (signed 32 h) (signed 12 l) c (pos h) (pos l) (pos v) a.1 b.1 n.1 (λ t. let k = b.0 in let j = a.0 in let i = n.0 in omega (arith, ints)) r
            | inr b ↦ pair_exact (signed 32 h) (signed 12 l) c (pos h) (pos l -ℤ pos 4096) (pos v) a.1 b.1 n.1 (λ t. let k = b.0 in let j = a.0 in let i = n.0 in omega (arith, ints)) r
          ]
          | inr a ↦ absurd (let t = subst IsPairRange n.1 r in let j = a.0 in let i = n.0 in omega (arith, ints))
        ]
        | inr n ↦ elim (signed_cases 32 h) [
          | inl a ↦ elim (signed_cases 12 l) [
            | inl b ↦ pair_exact (signed 32 h) (signed 12 l) c (pos h) (pos l) (pos v -ℤ pos (2 ^ 64)) a.1 b.1 n.1 (λ t. let k = b.0 in let j = a.0 in let i = n.0 in omega (arith, ints)) r
            | inr b ↦ pair_exact (signed 32 h) (signed 12 l) c (pos h) (pos l -ℤ pos 4096) (pos v -ℤ pos (2 ^ 64)) a.1 b.1 n.1 (λ t. let k = b.0 in let j = a.0 in let i = n.0 in omega (arith, ints)) r
          ]
          | inr a ↦ elim (signed_cases 12 l) [
            | inl b ↦ pair_exact (signed 32 h) (signed 12 l) c (pos h -ℤ pos (2 ^ 32)) (pos l) (pos v -ℤ pos (2 ^ 64)) a.1 b.1 n.1 (λ t. let k = b.0 in let j = a.0 in let i = n.0 in omega (arith, ints)) r
            | inr b ↦ pair_exact (signed 32 h) (signed 12 l) c (pos h -ℤ pos (2 ^ 32)) (pos l -ℤ pos 4096) (pos v -ℤ pos (2 ^ 64)) a.1 b.1 n.1 (λ t. let k = b.0 in let j = a.0 in let i = n.0 in omega (arith, ints)) r
          ]
        ]
      ]

  pub pair_of : IsPairOf v (signed 32 h +ℤ signed 12 l)
  pair_of = record { same = modulo_32; exact = exactly_so (signed 64 v) (signed_cases 64 v) }

-- ---- both words of `UiType`

abbrev Placed : ℕ → ℕ → ℕ → ImmediateBit → Type 0
Placed v before after p = bit_at after p.insn_bit ≡ placed_bit p.mark (bit_for p v) (bit_at before p.insn_bit)

module _ (v before after : ℕ) (wide : v < 2 ^ 64) (laid : BitsWritten (riscv_places UiType) v before after) where
  placed_high : All (Placed v before after) (riscv_places UType)
  placed_high = All-front (Placed v before after) (riscv_places UType) ui_low laid.placed

  placed_low : All (Placed v before after) ui_low
  placed_low = All-back (Placed v before after) (riscv_places UType) ui_low laid.placed

  pub ui_high_laid : place_sum ui_high after ≡ (v + 0x800) % 2 ^ 64 / 4096 % 1048576 * 4096
  ui_high_laid = place_sum_placed 12 32 0x800 (riscv_places UType) v before after (omega arith) u_sound.filled u_sound.added placed_high (always_clear (riscv_places UType) before refl)

  pub ui_low_laid : place_sum ui_low after ≡ v % 4096
  ui_low_laid =
      let low : place_sum ui_low after ≡ (v + 0) % 2 ^ 64 / 2 ^ 0 % 2 ^ (12 - 0) * 2 ^ 0 =
      place_sum_placed 0 12 0 ui_low v before after (omega arith) ui_low_sound.filled ui_low_sound.added placed_low (always_clear ui_low before refl) in
      low ∙ omega arith

  ui_pair : IsPairOf v (ui_sum after)
  ui_pair = pair_of v (place_sum (riscv_places UType) after) (place_sum ui_low after) wide ui_high_laid ui_low_laid

-- ---- the laws

pub riscv_machine : (f : RiscVInstruction) (v : ℕ) (neg : Bool) (before after : ℕ) → v < 2 ^ 64
    → Written (riscv_form f) v neg before after → MachineReads (riscv_form f) v neg before after
riscv_machine UType v neg before after h laid = rounded_machine w32 32 12 0x800 false ui_high u_sound v neg before after laid
riscv_machine CluiType v neg before after h laid = rounded_machine w16 18 12 0x800 true (riscv_places CluiType) clui_sound v neg before after laid
riscv_machine UiType v neg before after h laid = λ clear. (ui_pair v before after h laid).same
riscv_machine f v neg before after h laid = layout_machine (riscv_layout f) refl v neg before after h h laid

-- what stands in the high part of a pair
pub u_laid : (v before high : ℕ) → BitsWritten (riscv_places UType) v before high → place_sum (riscv_places UType) high ≡ (v + 0x800) % 2 ^ 64 / 4096 % 1048576 * 4096
u_laid v before high laid =
    place_sum_placed 12 32 0x800 (riscv_places UType) v before high (omega arith) u_sound.filled u_sound.added laid.placed (always_clear (riscv_places UType) before refl)

pub clui_laid : (v before after : ℕ) → BitsWritten (riscv_places CluiType) v before after → place_sum (riscv_places CluiType) after ≡ (v + 0x800) % 2 ^ 64 / 4096 % 64 * 4096
clui_laid v before after laid =
    place_sum_placed 12 18 0x800 (riscv_places CluiType) v before after (omega arith) clui_sound.filled clui_sound.added laid.placed (always_clear (riscv_places CluiType) before refl)

completed : (v before high l : ℕ) → v < 2 ^ 64 → BitsWritten (riscv_places UType) v before high → l ≡ (v - v % 1) % 4096
    → IsPairOf v (signed 32 (place_sum (riscv_places UType) high) +ℤ signed 12 l)
completed v before high l wide laid low =
    pair_of v (place_sum (riscv_places UType) high) l wide (u_laid v before high laid) (low ∙ omega arith)

pub riscv_pair : (f : RiscVInstruction) (v : ℕ) (neg : Bool) (before after : ℕ) → v < 2 ^ 64
    → Written (riscv_form f) v neg before after → PairReads f v after
riscv_pair IType v neg before after h laid = λ n b high high_laid.
    completed v b high (place_sum (riscv_places IType) after) h high_laid
    (layout_laid (riscv_layout IType) refl v neg before after h laid (always_clear (riscv_places IType) before refl))
riscv_pair SType v neg before after h laid = λ n b high high_laid.
    completed v b high (place_sum (riscv_places SType) after) h high_laid
    (layout_laid (riscv_layout SType) refl v neg before after h laid (always_clear (riscv_places SType) before refl))
riscv_pair UiType v neg before after h laid = ui_pair v before after h laid
riscv_pair f v neg before after h laid = tt

pub jtype_below : (x : ℕ) → place_sum jtype_places x < 2 ^ 21
jtype_below x = place_sum_below jtype_places 21 x refl refl

-- ---- sums at 64 bits

abbrev IsShort : ℤ → Type 0
IsShort z = (negsuc 4611686018427387903 ≤ℤ z) × (z <ℤ pos 4611686018427387904)

mixed : (x y : ℕ) → x < 2 ^ 62 → y < 2 ^ 62 → (x + (2 ^ 64 - suc y)) % 2 ^ 64 ≡ cast_unsigned w64 (pos x +ℤ negsuc y)
mixed x y a b =
    elim (cases_lt y x) [
      | inl above ↦
          let z : pos x +ℤ negsuc y ≡ pos (x - suc y) = omega (arith, ints) in
          let n : (x + (2 ^ 64 - suc y)) % 2 ^ 64 ≡ x - suc y = omega arith in
          n ∙ sym (ap (cast_unsigned w64) z)
      | inr below ↦
          let z : pos x +ℤ negsuc y ≡ negsuc (y - x) = omega (arith, ints) in
          let n : (x + (2 ^ 64 - suc y)) % 2 ^ 64 ≡ 2 ^ 64 - suc (y - x) = omega arith in
          n ∙ sym (ap (cast_unsigned w64) z)
    ]

cast_add : (a b : ℤ) → IsShort a → IsShort b → (cast_unsigned w64 a + cast_unsigned w64 b) % 2 ^ 64 ≡ cast_unsigned w64 (a +ℤ b)
cast_add (pos x) (pos y) f g =
    let below : x < 2 ^ 62 = omega (arith, ints) in
    let small : y < 2 ^ 62 = omega (arith, ints) in
    omega arith
cast_add (pos x) (negsuc y) f g = mixed x y (omega (arith, ints)) (omega (arith, ints))
cast_add (negsuc x) (pos y) f g =
    let swapped : negsuc x +ℤ pos y ≡ pos y +ℤ negsuc x = omega (arith, ints) in
    let n : (2 ^ 64 - suc x + y) % 2 ^ 64 ≡ (y + (2 ^ 64 - suc x)) % 2 ^ 64 = omega arith in
    n ∙ mixed y x (omega (arith, ints)) (omega (arith, ints)) ∙ sym (ap (cast_unsigned w64) swapped)
cast_add (negsuc x) (negsuc y) f g =
    let below : x < 2 ^ 62 = omega (arith, ints) in
    let small : y < 2 ^ 62 = omega (arith, ints) in
    omega arith

signed_short : (n s : ℕ) → s < 2 ^ n → 2 ^ n ≤ 2 ^ 32 → IsShort (signed n s)
signed_short n s h l =
    elim (signed_cases n s) [
      | inl a ↦ subst IsShort (sym a.1) (omega (arith, ints), omega (arith, ints))
      | inr a ↦ subst IsShort (sym a.1) (omega (arith, ints), omega (arith, ints))
    ]

-- a number less 0x800, as the code takes it off
less_0x800 : (n s number : ℕ) → s < 2 ^ n → 2 ^ n ≤ 2 ^ 32 → number ≡ cast_unsigned w64 (signed n s)
    → (number + 18446744073709549568) % 2 ^ 64 ≡ cast_unsigned w64 (signed n s -ℤ pos 0x800)
less_0x800 n s number h l e =
    let z : signed n s +ℤ negsuc 2047 ≡ signed n s -ℤ pos 0x800 = minus_0x800 (signed n s) in
    ap (λ y. (y + 18446744073709549568) % 2 ^ 64) e
    ∙ cast_add (signed n s) (negsuc 2047) (signed_short n s h l) (omega (arith, ints), omega (arith, ints))
    ∙ ap (cast_unsigned w64) z
  where
    minus_0x800 : (z : ℤ) → z +ℤ negsuc 2047 ≡ z -ℤ pos 0x800
    minus_0x800 z = omega (arith, ints)

-- what is read of `UType` and `CluiType`
rounded_value : (n s m : ℕ) → 0 < n → n < 33 → s < 2 ^ n → m ≡ 2 ^ (n - 1)
    → bit_and (((s + (2 ^ 64 - bit_and s m * 2 % 2 ^ 64)) % 2 ^ 64 + (2 ^ 64 - 0x800)) % 2 ^ 64) (2 ^ 64 - 1) ≡ cast_unsigned w64 (signed n s -ℤ pos 0x800)
rounded_value n s m some short small is =
    let t = (s + (2 ^ 64 - bit_and s m * 2 % 2 ^ 64)) % 2 ^ 64 in
    whole t 0x800
    ∙ less_0x800 n s t small (pow_mono {i = n} {j = 32} (omega arith)) (sign_taken_off n s m some (omega arith) small is)

pub u_value : (x : ℕ) → value_of (code_of (RiscV UType)).0 (place_sum ui_high x) ≡ cast_unsigned w64 ((riscv_form UType).reading x)
u_value x = rounded_value 32 (place_sum ui_high x) (2 ^ 31) (omega arith) (omega arith) (place_sum_below ui_high 32 x refl refl) refl

pub clui_value : (x : ℕ) → value_of (code_of (RiscV CluiType)).0 (place_sum (riscv_places CluiType) x) ≡ cast_unsigned w64 ((riscv_form CluiType).reading x)
clui_value x = rounded_value 18 (place_sum (riscv_places CluiType) x) (2 ^ 17) (omega arith) (omega arith) (place_sum_below (riscv_places CluiType) 18 x refl refl) refl

-- a mask of two bits
and_both : (n a b : ℕ) → bit_and n (bit_or a b) ≡ bit_or (bit_and n a) (bit_and n b)
and_both n a b =
    same_from_bits (bit_and n (bit_or a b)) (bit_or (bit_and n a) (bit_and n b)) (λ i.
    bit_at_and n (bit_or a b) i
    ∙ omega (arith, bit_at_or a b i, bit_at_or (bit_and n a) (bit_and n b) i, bit_at_and n a i, bit_at_and n b i))

-- bits 31 and 11, as `UiType` has its signs
two_signs : (n : ℕ) → bit_and n (2 ^ 31 + 2 ^ 11) ≡ bit_at n 31 * 2 ^ 31 + bit_at n 11 * 2 ^ 11
two_signs n =
    let low : bit_at n 11 * 2 ^ 11 < 2 ^ 31 = omega (arith, bit_at-lt n 11) in
    and_both n (2 ^ 31) (2 ^ 11)
    ∙ ap (λ y. bit_or y (bit_and n (2 ^ 11))) (and_pow n 31)
    ∙ ap (bit_or (bit_at n 31 * 2 ^ 31)) (and_pow n 11)
    ∙ or_shifted (bit_at n 31) 31 (bit_at n 11 * 2 ^ 11) low

-- both signs taken off at once
both_signs : (h l n : ℕ) → n ≡ h * 4096 + l → h < 1048576 → l < 4096
    → (n + (2 ^ 64 - (bit_at n 31 * 2 ^ 31 + bit_at n 11 * 2 ^ 11) * 2 % 2 ^ 64)) % 2 ^ 64
    ≡ ((h * 4096 + (2 ^ 64 - bit_at (h * 4096) 31 * 2 ^ 31 * 2 % 2 ^ 64)) % 2 ^ 64 + (l + (2 ^ 64 - bit_at l 11 * 2 ^ 11 * 2 % 2 ^ 64)) % 2 ^ 64) % 2 ^ 64
both_signs h l n e a b = omega arith

pub ui_value : (x : ℕ) → value_of (code_of (RiscV UiType)).0 (place_sum (riscv_places UiType) x) ≡ cast_unsigned w64 ((riscv_form UiType).reading x)
ui_value x =
    let n = place_sum (riscv_places UiType) x in
    let h = place_sum ui_high x in
    let l = place_sum ui_low x in
    let f = x / 2 ^ 12 % 2 ^ 20 in
    let t = (n + (2 ^ 64 - bit_and n (2 ^ 31 + 2 ^ 11) * 2 % 2 ^ 64)) % 2 ^ 64 in
    let high : h ≡ f * 4096 = consecutive_bits_sum replaced 20 12 12 0x800 x refl in
    let high_small = place_sum_below ui_high 32 x refl refl in
    let low_small = place_sum_below ui_low 12 x refl refl in
    let all : n ≡ f * 4096 + l = sums ui_high ui_low x ∙ ap (λ y. y + l) high in
    let high_off : (f * 4096 + (2 ^ 64 - bit_at (f * 4096) 31 * 2 ^ 31 * 2 % 2 ^ 64)) % 2 ^ 64 ≡ cast_unsigned w64 (signed 32 h) =
    ap (λ b. (f * 4096 + (2 ^ 64 - b * 2 % 2 ^ 64)) % 2 ^ 64) (sym (and_pow (f * 4096) 31))
    ∙ ap (λ y. (y + (2 ^ 64 - bit_and y (2 ^ 31) * 2 % 2 ^ 64)) % 2 ^ 64) (sym high)
    ∙ sign_taken_off 32 h (2 ^ 31) (omega arith) (omega arith) high_small refl in
    let low_off : (l + (2 ^ 64 - bit_at l 11 * 2 ^ 11 * 2 % 2 ^ 64)) % 2 ^ 64 ≡ cast_unsigned w64 (signed 12 l) =
    ap (λ b. (l + (2 ^ 64 - b * 2 % 2 ^ 64)) % 2 ^ 64) (sym (and_pow l 11))
    ∙ sign_taken_off 12 l (2 ^ 11) (omega arith) (omega arith) low_small refl in
    let both : t ≡ cast_unsigned w64 ((riscv_form UiType).reading x) =
    ap (λ b. (n + (2 ^ 64 - b * 2 % 2 ^ 64)) % 2 ^ 64) (two_signs n)
    ∙ both_signs f l n all (mod_below (x / 2 ^ 12) (2 ^ 20) (pow_pos 20)) low_small
    ∙ ap (λ y. (y + (l + (2 ^ 64 - bit_at l 11 * 2 ^ 11 * 2 % 2 ^ 64)) % 2 ^ 64) % 2 ^ 64) high_off
    ∙ ap (λ y. (cast_unsigned w64 (signed 32 h) + y) % 2 ^ 64) low_off
    ∙ cast_add (signed 32 h) (signed 12 l) (signed_short 32 h high_small (omega arith)) (signed_short 12 l low_small (omega arith)) in
    whole t 0 ∙ again (n + (2 ^ 64 - bit_and n (2 ^ 31 + 2 ^ 11) * 2 % 2 ^ 64)) ∙ both
  where
    again : (y : ℕ) → (y % 2 ^ 64 + (2 ^ 64 - 0)) % 2 ^ 64 ≡ y % 2 ^ 64
    again y = omega arith
