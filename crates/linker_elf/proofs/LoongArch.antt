-- The LoongArch forms keep the laws of forms.
use Rattle.linker_elf.proofs.Imports.{All-drop, All-take, ArePlaced, BitsWritten, Bool, Call30, Call36, Fits, ImmediateBit, IsDistanceModulo, List, LoongArch64, LoongArch64Instruction, MachineReads, Reaches, ReadsLow, Shift10, Shift5, Written, adds, all_replaced, always_clear, and_mask, and_pow, and_zero_r, ap, arith, bit_and, bit_at, bit_for, call36_high, call36_low, cast_unsigned, code_of, consecutive_bits_sum, field, fills, inl, inr, int_rem_euclid, int_rem_euclid_is, ints, jirl_imm, layout_machine, loongarch_form, loongarch_layout, mod_below, none_ored, one_field, or_bits_to, ored, part_laid, pcaddu18i_imm, place_sum, place_sum_below, place_sum_laid, placed_bit, pos, pow_pos, refl, replaced, shift10_imm16, shift10_low, signed, signed_cases, sums, sym, true, w64, ℕ, ◌%◌, ◌*ℤ◌, ◌*◌, ◌++◌, ◌+ℤ◌, ◌+◌, ◌-ℤ◌, ◌-◌, ◌/◌, ◌<◌, ◌^◌, ◌∙◌, ◌≡◌, ◌≤◌}
use Rattle.linker_elf.proofs.LoongArchNumbers.{pair_number, near_pair, far_pair}
use Rattle.linker_elf.proofs.ReadNumbers.{value_of}

abbrev pub shift5_places : List ImmediateBit
shift5_places = (loongarch_form Shift5).places 0

abbrev pub shift10_places : List ImmediateBit
shift10_places = shift10_imm16.places

abbrev pub call36_places : List ImmediateBit
call36_places = call36_high ++ call36_low

-- ---- numbers of several parts

-- the number of a part whose bits are replaced
part_sum : (low high r : ℕ) (ps : List ImmediateBit) (v before after : ℕ) → high ≤ 64 → fills low high ps ≡ true → adds r ps ≡ true → all_replaced ps ≡ true → none_ored ps ≡ true → ArePlaced ps v before after
    → place_sum ps after ≡ (v + r) % 2 ^ 64 / 2 ^ low % 2 ^ (high - low) * 2 ^ low
part_sum low high r ps v before after l f a h n placed =
    place_sum_laid low high r ps v after after l f a (part_laid ps v before after h placed) (always_clear ps after n)

-- ---- an immediate of 20 bits

pub shift5_field : (v before after : ℕ) → v < 2 ^ 20 → BitsWritten shift5_places v before after → field after 5 25 ≡ v
shift5_field v before after h laid =
    let sum : place_sum shift5_places after ≡ field after 5 25 * 1 = consecutive_bits_sum replaced 20 0 5 0 after refl in
    let value = part_sum 0 20 0 shift5_places v before after (omega arith) refl refl refl refl laid.placed in
    omega arith

-- ---- an immediate of 12 or 16 bits

pub shift10_low_sum : (v before after : ℕ) → v < 2 ^ 64 → BitsWritten shift10_places v before after → place_sum shift10_low after ≡ v % 2 ^ 12
shift10_low_sum v before after h laid =
    part_sum 0 12 0 shift10_low v before after (omega arith) refl refl refl refl
    (All-take (λ (p : ImmediateBit). bit_at after p.insn_bit ≡ placed_bit p.mark (bit_for p v) (bit_at before p.insn_bit)) 12 shift10_places laid.placed)
    ∙ omega arith

pub shift10_low_field : (x : ℕ) → place_sum shift10_low x ≡ field x 10 22
shift10_low_field x = consecutive_bits_sum replaced 12 0 10 0 x refl ∙ omega arith

pub shift10_field : (v before after : ℕ) → v < 2 ^ 12 → BitsWritten shift10_places v before after → field after 10 22 ≡ v
shift10_field v before after h laid = sym (shift10_low_field after) ∙ shift10_low_sum v before after (omega arith) laid ∙ omega arith

-- ---- `pcaddu18i` and `jirl`

call36_high_field : (x : ℕ) → place_sum call36_high x ≡ field x 5 25 * 2 ^ 16
call36_high_field x = consecutive_bits_sum replaced 20 16 5 0x8000 x refl

call36_low_field : (x : ℕ) → place_sum call36_low x ≡ field x 42 58
call36_low_field x = consecutive_bits_sum replaced 16 0 42 0 x refl ∙ omega arith

call36_high_sum : (v before after : ℕ) → BitsWritten call36_places v before after → place_sum call36_high after ≡ (v + 0x8000) % 2 ^ 64 / 2 ^ 16 % 2 ^ 20 * 2 ^ 16
call36_high_sum v before after laid =
    part_sum 16 36 0x8000 call36_high v before after (omega arith) refl refl refl refl
    (All-take (λ (p : ImmediateBit). bit_at after p.insn_bit ≡ placed_bit p.mark (bit_for p v) (bit_at before p.insn_bit)) 20 call36_places laid.placed)

call36_low_sum : (v before after : ℕ) → v < 2 ^ 64 → BitsWritten call36_places v before after → place_sum call36_low after ≡ v % 2 ^ 16
call36_low_sum v before after h laid =
    part_sum 0 16 0 call36_low v before after (omega arith) refl refl refl refl
    (All-drop (λ (p : ImmediateBit). bit_at after p.insn_bit ≡ placed_bit p.mark (bit_for p v) (bit_at before p.insn_bit)) 20 call36_places laid.placed)
    ∙ omega arith

call36_machine : (v before after : ℕ) → v < 2 ^ 64 → BitsWritten call36_places v before after
    → int_rem_euclid ((pcaddu18i_imm after *ℤ pos (2 ^ 16)) +ℤ jirl_imm after) (pos (2 ^ 36)) ≡ int_rem_euclid (pos v) (pos (2 ^ 36))
call36_machine v before after h laid =
    pair_number v (field after 5 25) (field after 42 58) h
    (omega (arith, call36_high_field after, call36_high_sum v before after laid))
    (sym (call36_low_field after) ∙ call36_low_sum v before after h laid)

call36_reaches : (v before after : ℕ) → v < 2 ^ 64 → BitsWritten call36_places v before after → IsDistanceModulo v after
call36_reaches v before after h laid =
    let high : field after 5 25 ≡ (v + 0x8000) % 2 ^ 64 / 2 ^ 16 % 2 ^ 20 = omega (arith, call36_high_field after, call36_high_sum v before after laid) in
    let low = sym (call36_low_field after) ∙ call36_low_sum v before after h laid in
    record {
      near = λ d is a b. near_pair v (field after 5 25) (field after 42 58) d high low is a b;
      far = λ d is a b. far_pair v (field after 5 25) (field after 42 58) d high low is a b;
    }

-- ---- all forms

pub loongarch_machine : (f : LoongArch64Instruction) (v : ℕ) (neg : Bool) (before after : ℕ) → v < 2 ^ 64 → Fits (loongarch_form f) v before
    → Written (loongarch_form f) v neg before after → MachineReads (loongarch_form f) v neg before after
loongarch_machine Shift10 v neg before after h fit laid = layout_machine (one_field shift10_imm16) refl v neg before after h fit laid
loongarch_machine Call30 v neg before after h fit laid = λ clear. tt
loongarch_machine Call36 v neg before after h fit laid = λ clear. call36_machine v before after h laid
loongarch_machine f v neg before after h fit laid = layout_machine (loongarch_layout f) refl v neg before after h fit laid

pub loongarch_low : (f : LoongArch64Instruction) (v : ℕ) (neg : Bool) (before after : ℕ) → v < 2 ^ 64
    → Written (loongarch_form f) v neg before after → ReadsLow f v after
loongarch_low Shift10 v neg before after h laid = sym (shift10_low_field after) ∙ shift10_low_sum v before after h laid
loongarch_low f v neg before after h laid = tt

pub loongarch_reaches : (f : LoongArch64Instruction) (v : ℕ) (neg : Bool) (before after : ℕ) → v < 2 ^ 64
    → Written (loongarch_form f) v neg before after → Reaches f v after
loongarch_reaches Call36 v neg before after h laid = call36_reaches v before after h laid
loongarch_reaches f v neg before after h laid = tt

-- ---- what is read

-- the lowest 12 bits of a `Shift10`
pub shift10_value : (x : ℕ) → value_of (code_of (LoongArch64 Shift10)).0 (place_sum shift10_places x) ≡ cast_unsigned w64 ((loongarch_form Shift10).reading x)
shift10_value x =
    let n = place_sum shift10_places x in
    let low = place_sum shift10_low x in
    let high : place_sum (or_bits_to 12 15 22) x ≡ x / 2 ^ 22 % 2 ^ 4 * 2 ^ 12 = consecutive_bits_sum ored 4 12 22 0 x refl in
    let all : n ≡ low + x / 2 ^ 22 % 2 ^ 4 * 2 ^ 12 = sums shift10_low (or_bits_to 12 15 22) x ∙ ap (λ y. low + y) high in
    let small = place_sum_below shift10_low 12 x refl refl in
    let wide = place_sum_below shift10_places 16 x refl refl in
    ap (λ b. bit_and (((n + (2 ^ 64 - b * 2 % 2 ^ 64)) % 2 ^ 64 + (2 ^ 64 - 0)) % 2 ^ 64) 0xfff) (and_zero_r n)
    ∙ and_mask (((n + (2 ^ 64 - 0 * 2 % 2 ^ 64)) % 2 ^ 64 + (2 ^ 64 - 0)) % 2 ^ 64) 12
    ∙ omega (arith, all, small, wide)

call36_rem : (h l n : ℕ) → n ≡ h * 2 ^ 16 + l → h < 2 ^ 20 → l < 2 ^ 16
    → ((n + (2 ^ 64 - bit_at l 15 * 2 ^ 15 * 2 % 2 ^ 64)) % 2 ^ 64 + (2 ^ 64 - 0)) % 2 ^ 64 % 2 ^ 36
    ≡ cast_unsigned w64 (int_rem_euclid (pos (h * 2 ^ 16) +ℤ signed 16 l) (pos (2 ^ 36)))
call36_rem h l n e a b =
    elim (signed_cases 16 l) [
      | inl c ↦
          let less = c.0 in
          let sum = ap (λ z. int_rem_euclid (pos (h * 2 ^ 16) +ℤ z) (pos (2 ^ 36))) c.1
          ∙ int_rem_euclid_is (pos (h * 2 ^ 16) +ℤ pos l) (pos (2 ^ 36)) (2 ^ 36) 0 (h * 2 ^ 16 + l) (omega arith) refl (omega (arith, ints)) in
          omega arith ∙ sym (ap (cast_unsigned w64) sum)
      | inr c ↦
          let most = c.0 in
          let sum = ap (λ z. int_rem_euclid (pos (h * 2 ^ 16) +ℤ z) (pos (2 ^ 36))) c.1
          ∙ int_rem_euclid_is (pos (h * 2 ^ 16) +ℤ (pos l -ℤ pos (2 ^ 16))) (pos (2 ^ 36)) (2 ^ 36) 1 (h * 2 ^ 16 + l + 2 ^ 36 - 2 ^ 16) (omega arith) refl (omega (arith, ints)) in
          omega arith ∙ sym (ap (cast_unsigned w64) sum)
    ]

pub call36_value : (x : ℕ) → value_of (code_of (LoongArch64 Call36)).0 (place_sum call36_places x) ≡ cast_unsigned w64 ((loongarch_form Call36).reading x)
call36_value x =
    let n = place_sum call36_places x in
    let l = place_sum call36_low x in
    let f = x / 2 ^ 5 % 2 ^ 20 in
    let high : place_sum call36_high x ≡ f * 2 ^ 16 = consecutive_bits_sum replaced 20 16 5 0x8000 x refl in
    let all : n ≡ f * 2 ^ 16 + l = sums call36_high call36_low x ∙ ap (λ y. y + l) high in
    let small : l < 2 ^ 16 = place_sum_below call36_low 16 x refl refl in
    let bit : bit_at n 15 ≡ bit_at l 15 = omega (arith, all) in
    ap (λ b. bit_and (((n + (2 ^ 64 - b * 2 % 2 ^ 64)) % 2 ^ 64 + (2 ^ 64 - 0)) % 2 ^ 64) (2 ^ 36 - 1)) (and_pow n 15 ∙ ap (λ b. b * 2 ^ 15) bit)
    ∙ and_mask (((n + (2 ^ 64 - bit_at l 15 * 2 ^ 15 * 2 % 2 ^ 64)) % 2 ^ 64 + (2 ^ 64 - 0)) % 2 ^ 64) 36
    ∙ call36_rem f l n all (mod_below (x / 2 ^ 5) (2 ^ 20) (pow_pos 20)) small
    ∙ ap (λ h. cast_unsigned w64 (int_rem_euclid (pos h +ℤ signed 16 l) (pos (2 ^ 36)))) (sym high)
