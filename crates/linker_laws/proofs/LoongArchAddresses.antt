-- Addresses of LoongArch in parts.
use Rattle.linker_laws.proofs.Sums.{high_sum, halves_sum, page_halves_sum, signed_12, sum_below, goes, difference_below, once}
use Rattle.linker_laws.proofs.Imports.{AgreesInReach, AllowedRange, AreAddresses, BitRange, Bool, Call36, IsApplied, IsWithin, Law, List, LoongArch64, Operands, Option, PageMask, Premise, PremiseHolds, RelocationKind, Shift10, Shift5, Signed, Some, [], ap, arith, bit_bounds, bits_from, cast_signed, difference_64, false, field, first_of_five, five_from, high_distance, high_of_five, inl, inr, int_rem_euclid, int_rem_euclid_is, ints, is_jirl, is_low_jump, loongarch_form, made, mod_below, none, of_values, of_words, page, page_and_distance, pcalau12i, place, plain_written, pos, pow_pos, reach, refl, shift10_low_field, shift10_low_sum, shift5_sum, signed, signed_cases, subst, sum_64, sym, taken_below, true, value_of, w64, window_of, without_low, ℕ, ℤ, ◌%◌, ◌*ℤ◌, ◌*◌, ◌+ℤ◌, ◌+◌, ◌-ℤ◌, ◌-◌, ◌/◌, ◌<◌, ◌^◌, ◌∙◌, ◌∷◌, ◌≡◌}
use Rattle.linker_laws.specs.LoongArchRelocationLaws.{five, four, page_and_low, upper_and_or}
use Rattle.linker_laws.proofs.Applied.{holds, reads, value_is, taken_bits}
use Rattle.linker_laws.proofs.Rounded.{IsRounded}
use Rattle.linker_laws.proofs.Instructions.{FirstHasNumber, HasNumber, IsNumber, IsSmall, absolute, first_step, row_of, reads_bits, field_sum, step_of, unbiased}

-- ---- the immediates

module _ {kind : RelocationKind} {mask : Option PageMask} {range : AllowedRange} {a : ℕ}
    {bias : Option ℕ} {thunkable implicit : Bool} (o : Operands) (before after : List ℕ) where
  -- an immediate of 20 bits
  high_field : (start : ℕ)
      (applied : IsApplied (row_of kind start (start + 20) (LoongArch64 Shift5) mask range a bias thunkable implicit) o before after)
      (n : ℕ) → n < 2 ^ 64 → start + 20 < 65
      → value_of (row_of kind start (start + 20) (LoongArch64 Shift5) mask range a bias thunkable implicit) o
      ≡ Some (cast_signed w64 n)
      → field (window_of (loongarch_form Shift5) after) 5 25 ≡ field n start (start + 20)
  high_field start applied n below inside e =
      let sum = field_sum kind start (start + 20) (LoongArch64 Shift5) mask range a bias thunkable
      implicit o before after applied refl refl (omega arith) n below e in
      let width : start + 20 - start ≡ 20 = omega arith in
      let small : field n start (start + 20) < 2 ^ 20 =
      subst (λ w. field n start (start + 20) < 2 ^ w) width
      (mod_below (n / 2 ^ start) (2 ^ (start + 20 - start)) (pow_pos (start + 20 - start))) in
      sym (shift5_sum (window_of (loongarch_form Shift5) after)) ∙ sum ∙ omega arith

  -- one of 12 bits
  low_field : (start : ℕ)
      (applied : IsApplied (row_of kind start (start + 12) (LoongArch64 Shift10) mask range a bias thunkable implicit) o before after)
      (n : ℕ) → n < 2 ^ 64 → start + 12 < 65
      → value_of (row_of kind start (start + 12) (LoongArch64 Shift10) mask range a bias thunkable implicit) o
      ≡ Some (cast_signed w64 n)
      → is_low_jump (LoongArch64 Shift10) kind (window_of (loongarch_form Shift10) before) ≡ false
      → field (window_of (loongarch_form Shift10) after) 10 22 ≡ field n start (start + 12)
  low_field start applied n below inside e plain =
      let f = field n start (start + 12) in
      let bits : BitRange = record { start = start; end = start + 12 } in
      let taken = taken_bits bits n applied.value below (value_is _ o before after applied (cast_signed w64 n) e) in
      let width : start + 12 - start ≡ 12 = omega arith in
      let small : f < 2 ^ 12 =
      subst (λ w. f < 2 ^ w) width
      (mod_below (n / 2 ^ start) (2 ^ (start + 12 - start)) (pow_pos (start + 12 - start))) in
      let w = plain_written (LoongArch64 Shift10) kind bits applied.value before after refl plain applied.written in
      sym (shift10_low_field (window_of (loongarch_form Shift10) after))
      ∙ shift10_low_sum _ w.clear (window_of (loongarch_form Shift10) after)
      (taken_below bits applied.value (omega arith)) w.written
      ∙ ap (λ x. x % 2 ^ 12) taken ∙ omega arith

  -- what a high immediate in two's complement reads, of a number of 32 bits
  high_reads : (applied : IsApplied (row_of kind 12 32 (LoongArch64 Shift5) mask range a bias thunkable implicit) o before after)
      → IsWithin (Some (bit_bounds 32 Signed)) applied.value → (n : ℕ) → n < 2 ^ 64
      → value_of (row_of kind 12 32 (LoongArch64 Shift5) mask range a bias thunkable implicit) o
      ≡ Some (cast_signed w64 n)
      → signed 20 (field (window_of (loongarch_form Shift5) after) 5 25)
      ≡ bits_from 12 (cast_signed w64 n)
  high_reads applied within n below e =
      ap (signed 20) (sym (shift5_sum (window_of (loongarch_form Shift5) after)))
      ∙ reads_bits kind 12 32 (LoongArch64 Shift5) mask range a bias thunkable implicit o before after
      applied (bit_bounds 32 Signed) within refl n below e

-- ---- two instructions

rounded_low : (t l : ℕ) → l ≡ field (sum_64 t 0) 0 12
    → signed 12 l +ℤ pos 0x800 ≡ pos (sum_64 t 0x800 % 2 ^ 12)
rounded_low t l e =
    let is : l ≡ t % 2 ^ 12 = e ∙ omega arith in
    ap (λ k. signed 12 k +ℤ pos 0x800) is ∙ signed_12 (t % 2 ^ 12) (omega arith)
    ∙ ap pos
    (let same : (t % 2 ^ 12 + 0x800) % 2 ^ 12 ≡ sum_64 t 0x800 % 2 ^ 12 = omega arith in same)

-- the distance from the place's page to the rounded target's
abbrev pub page_distance : (Operands → ℕ) → Operands → ℕ
page_distance target o = difference_64 (page (sum_64 (target o) 0x800)) (page o.place)

-- where the premise of a low part holds, its instruction isn't a `jirl` that jumps by it
abbrev IsPlainBy : RelocationKind → Premise → Type 0
IsPlainBy kind premise =
    (x : ℕ) (v : ℤ) → PremiseHolds premise x v → is_low_jump (LoongArch64 Shift10) kind x ≡ false

regroup : (p : ℕ) (a b : ℤ) → pos p +ℤ (a +ℤ b) ≡ (pos p +ℤ a) +ℤ b
regroup p a b = omega (arith, ints)

rounded_remainder : (n m l : ℕ) → l ≡ field n 0 12 → m ≡ sum_64 n 0x800
    → signed 12 l +ℤ pos 0x800 ≡ pos (m % 2 ^ 12)
rounded_remainder n m l e is =
    let low : l ≡ n % 2 ^ 12 = e ∙ omega arith in
    ap (λ k. signed 12 k +ℤ pos 0x800) low ∙ signed_12 (n % 2 ^ 12) (omega arith)
    ∙ ap pos (let same : (n % 2 ^ 12 + 0x800) % 2 ^ 12 ≡ m % 2 ^ 12 = omega arith in same)

-- a high part alone
pub high_parts : {begin number : Operands → ℕ} → IsSmall begin
    → (target : Operands → ℕ) (r : ℕ)
    → ((o : Operands) → AreAddresses o
    → number o ≡ difference_64 (sum_64 (target o) r) (begin o))
    → {kind : RelocationKind} {mask : Option PageMask} {range : AllowedRange} {a : ℕ}
    {bias : Option ℕ} {thunkable implicit : Bool}
    → ((o : Operands)
    → value_of (row_of kind 12 32 (LoongArch64 Shift5) mask range a bias thunkable implicit) o
    ≡ Some (cast_signed w64 (number o)))
    → Law (first_step (row_of kind 12 32 (LoongArch64 Shift5) mask range a bias thunkable implicit) (of_values (bit_bounds 32 Signed)) ∷ []) (λ o x. pos (begin o) +ℤ (signed 20 (field x 5 25) *ℤ pos 4096))
    (without_low 12 r begin target)
high_parts {begin} {number} from target r is e = λ o small at before after high within.
    let same = is o small in
    let below : number o < 2 ^ 64 =
    subst (λ x. x < 2 ^ 64) (sym same) (difference_below (sum_64 (target o) r) (begin o)) in
    let h = high_reads o before after high within (number o) below (e o) in
    high_sum 12 r (begin o) (target o) (number o)
    (signed 20 (field (window_of (loongarch_form Shift5) after) 5 25)) (omega arith) (from o small)
    same h

low_32 : (f l : ℕ) → f < 2 ^ 20 → l < 2 ^ 12
    → int_rem_euclid ((signed 20 f *ℤ pos 4096) +ℤ pos l) (pos (2 ^ 32)) ≡ pos (f * 4096 + l)
low_32 f l high low =
    elim (signed_cases 20 f) [
      | inl a ↦ ap (λ z. int_rem_euclid ((z *ℤ pos 4096) +ℤ pos l) (pos (2 ^ 32))) a.1
          ∙ int_rem_euclid_is ((pos f *ℤ pos 4096) +ℤ pos l) (pos (2 ^ 32)) (2 ^ 32) 0
          (f * 4096 + l) (omega arith) refl (omega (arith, ints)) ∙ ap pos (omega arith)
      | inr a ↦ ap (λ z. int_rem_euclid ((z *ℤ pos 4096) +ℤ pos l) (pos (2 ^ 32))) a.1
          ∙ int_rem_euclid_is (((pos f -ℤ pos (2 ^ 20)) *ℤ pos 4096) +ℤ pos l) (pos (2 ^ 32))
          (2 ^ 32) 1 (f * 4096 + l) (omega arith) refl (omega (arith, ints)) ∙ ap pos (omega arith)
    ]

parts_of : (n : ℕ) → n < 2 ^ 64
    → field n 12 32 * 4096 + field n 0 12 + (2 ^ 32 * field n 32 52 + 2 ^ 52 * field n 52 64) ≡ n
parts_of n below = omega arith

four_of : (f l m u n : ℕ) → n < 2 ^ 64 → f ≡ field n 12 32 → l ≡ field n 0 12
    → m ≡ field n 32 52 → u ≡ field n 52 64
    → int_rem_euclid ((signed 20 f *ℤ pos 4096) +ℤ pos l) (pos (2 ^ 32))
    +ℤ pos (2 ^ 32 * m + 2 ^ 52 * u) ≡ pos n
four_of f l m u n below ef el em eu =
    let high : f < 2 ^ 20 = omega arith in
    let low : l < 2 ^ 12 = omega arith in
    ap (λ z. z +ℤ pos (2 ^ 32 * m + 2 ^ 52 * u)) (low_32 f l high low)
    ∙ ap pos (let sum : f * 4096 + l + (2 ^ 32 * m + 2 ^ 52 * u) ≡ n =
    ap (λ k. k * 4096 + l + (2 ^ 32 * m + 2 ^ 52 * u)) ef
    ∙ ap (λ k. field n 12 32 * 4096 + k + (2 ^ 32 * m + 2 ^ 52 * u)) el
    ∙ ap (λ k. field n 12 32 * 4096 + field n 0 12 + (2 ^ 32 * k + 2 ^ 52 * u)) em
    ∙ ap (λ k. field n 12 32 * 4096 + field n 0 12 + (2 ^ 32 * field n 32 52 + 2 ^ 52 * k)) eu
    ∙ parts_of n below in sum)

-- the number of the high parts, by the place of the first instruction
abbrev pub far_distance : (Operands → ℕ) → Operands → ℕ
far_distance target o = high_distance (sum_64 (target o) 0) (sum_64 o.place 8)

pub far_below : (target : Operands → ℕ) (o : Operands) → far_distance target o < 2 ^ 64
far_below target o = mod_below _ (2 ^ 64) (omega arith)

-- the same by the fourth instruction, 4 bytes after the third
abbrev pub fourth_distance : (Operands → ℕ) → Operands → ℕ
fourth_distance target o =
    high_distance (sum_64 (target o) 0) (difference_64 (sum_64 o.place 12) 4)

fourth_pc : (p : ℕ) → difference_64 (sum_64 p 12) 4 ≡ sum_64 p 8
fourth_pc p = omega arith

fourth_is_far : (target : Operands → ℕ) (o : Operands)
    → fourth_distance target o ≡ far_distance target o
fourth_is_far target o = ap (high_distance (sum_64 (target o) 0)) (fourth_pc o.place)

-- ---- laws

module _ {kind : RelocationKind} {mask : Option PageMask} {range : AllowedRange} {a : ℕ}
    {bias : Option ℕ} {thunkable implicit : Bool}
    {kind2 : RelocationKind} {mask2 : Option PageMask} {range2 : AllowedRange} {a2 : ℕ}
    {bias2 : Option ℕ} {thunkable2 implicit2 : Bool} where
  pub page_pairs : {target : Operands → ℕ} → IsSmall target → (operands : Operands → ℕ → Operands)
      → FirstHasNumber (row_of kind 12 32 (LoongArch64 Shift5) mask range a bias thunkable implicit) (page_distance target)
      → HasNumber (row_of kind2 0 12 (LoongArch64 Shift10) mask2 range2 a2 bias2 thunkable2 implicit2) operands (absolute target)
      → (premise : Premise) → IsPlainBy kind2 premise
      → Law (first_step (row_of kind 12 32 (LoongArch64 Shift5) mask range a bias thunkable implicit) (of_values (bit_bounds 32 Signed))
      ∷ step_of (row_of kind2 0 12 (LoongArch64 Shift10) mask2 range2 a2 bias2 thunkable2 implicit2) operands premise ∷ [])
      page_and_low target
  page_pairs {target} to operands e e2 premise plain =
      λ o small at before after step within at2 before2 after2 step2 any2.
      let m = page_distance target o in
      let t = target o in
      let below = difference_below (page (sum_64 t 0x800)) (page o.place) in
      let h = high_reads o before after step within m below (e o small) in
      let l = low_field _ before2 after2 0 step2 (sum_64 t 0) (sum_below t 0)
      (omega arith) (e2 o small at2) (plain _ _ any2) in
      ap (λ z. int_rem_euclid
      (z +ℤ signed 12 (field (window_of (loongarch_form Shift10) after2) 10 22)) (pos (2 ^ 64)))
      (page_and_distance o.place (field (window_of (loongarch_form Shift5) after) 5 25))
      ∙ page_halves_sum 0x800 o.place t m
      (signed 20 (field (window_of (loongarch_form Shift5) after) 5 25))
      (signed 12 (field (window_of (loongarch_form Shift10) after2) 10 22)) (omega arith)
      (to o small) small.place refl h
      (rounded_low t (field (window_of (loongarch_form Shift10) after2) 10 22) l)

  -- with the low part of a `jirl`, which is a multiple of 4
  pub page_jumps : {target : Operands → ℕ} → IsSmall target → (operands : Operands → ℕ → Operands)
      → FirstHasNumber (row_of kind 12 32 (LoongArch64 Shift5) mask range a bias thunkable implicit) (page_distance target)
      → HasNumber (row_of kind2 0 12 (LoongArch64 Shift10) mask2 range2 a2 bias2 thunkable2 implicit2) operands (absolute target)
      → AgreesInReach false (row_of kind2 0 12 (LoongArch64 Shift10) mask2 range2 a2 bias2 thunkable2 implicit2)
      → ((x : ℕ) → is_jirl x ≡ true → is_low_jump (LoongArch64 Shift10) kind2 x ≡ true)
      → Law
      (first_step (row_of kind 12 32 (LoongArch64 Shift5) mask range a bias thunkable implicit) (of_values (bit_bounds 32 Signed))
      ∷ step_of (row_of kind2 0 12 (LoongArch64 Shift10) mask2 range2 a2 bias2 thunkable2 implicit2) operands (of_words is_jirl) ∷ [])
      (λ o x y. pcalau12i o.place x +ℤ ((loongarch_form Shift10).machine y *ℤ pos 4)) target
  page_jumps {target} to operands e e2 agrees jumps =
      λ o small at before after step within at2 before2 after2 step2 jump.
      let m = page_distance target o in
      let t = target o in
      let n = sum_64 t 0 in
      let below = difference_below (page (sum_64 t 0x800)) (page o.place) in
      let h = high_reads o before after step within m below (e o small) in
      let is = value_is _ (operands o at2) before2 after2 step2 (cast_signed w64 n) (e2 o small at2) in
      let l = (reads _ (operands o at2) before2 after2 step2 n (sum_below t 0) is false agrees).jump
      (jumps (window_of (loongarch_form Shift10) before2) jump) in
      let bits = taken_bits (record { start = 0; end = 12 }) n step2.value (sum_below t 0) is in
      let low : (loongarch_form Shift10).machine (window_of (loongarch_form Shift10) after2) *ℤ pos 4
      ≡ signed 12 (field n 0 12) = l ∙ ap (signed 12) bits in
      ap (λ z. int_rem_euclid
      (z +ℤ ((loongarch_form Shift10).machine (window_of (loongarch_form Shift10) after2) *ℤ pos 4))
      (pos (2 ^ 64)))
      (page_and_distance o.place (field (window_of (loongarch_form Shift5) after) 5 25))
      ∙ page_halves_sum 0x800 o.place t m
      (signed 20 (field (window_of (loongarch_form Shift5) after) 5 25))
      ((loongarch_form Shift10).machine (window_of (loongarch_form Shift10) after2) *ℤ pos 4)
      (omega arith) (to o small) small.place refl h
      (ap (λ z. z +ℤ pos 0x800) low ∙ rounded_low t (field n 0 12) refl)

  -- `lu12i.w` and `ori`
  pub two_parts : {begin target number : Operands → ℕ} → IsNumber begin target number
      → IsRounded 0 number number → (operands : Operands → ℕ → Operands)
      → FirstHasNumber (row_of kind 12 32 (LoongArch64 Shift5) mask range a bias thunkable implicit) number
      → HasNumber (row_of kind2 0 12 (LoongArch64 Shift10) mask2 range2 a2 bias2 thunkable2 implicit2) operands number → IsPlainBy kind2 none
      → Law (first_step (row_of kind 12 32 (LoongArch64 Shift5) mask range a bias thunkable implicit) (of_values (bit_bounds 32 Signed))
      ∷ step_of (row_of kind2 0 12 (LoongArch64 Shift10) mask2 range2 a2 bias2 thunkable2 implicit2) operands none ∷ [])
      (λ o x y. pos (begin o) +ℤ upper_and_or x y) target
  two_parts {begin} {target} {number} leads rounds operands e e2 plain =
      λ o small at before after step within at2 before2 after2 step2 any2.
      let n = number o in
      let numbers = leads o small in
      let x = window_of (loongarch_form Shift5) after in
      let y = window_of (loongarch_form Shift10) after2 in
      let h = high_reads o before after step within n numbers.below (e o small) in
      let l = low_field _ before2 after2 0 step2 n numbers.below (omega arith)
      (e2 o small at2) (plain _ step2.value tt) in
      let low : field y 10 22 ≡ n % 2 ^ 12 = l ∙ omega arith in
      ap (λ z. int_rem_euclid z (pos (2 ^ 64)))
      (regroup (begin o) (signed 20 (field x 5 25) *ℤ pos 4096) (pos (field y 10 22)))
      ∙ halves_sum 12 0 (begin o) (target o) n n (signed 20 (field x 5 25)) (pos (field y 10 22))
      (omega arith) (omega arith) numbers.small numbers.below numbers.leads (rounds o small) h
      (ap (λ k. pos k +ℤ pos 0) low ∙ ap pos (omega arith))

  -- the same with rounding, and a low part in two's complement
  pub rounded_parts : {begin target number rounded : Operands → ℕ} → IsNumber begin target number
      → IsRounded 0x800 number rounded → (operands : Operands → ℕ → Operands)
      → FirstHasNumber (row_of kind 12 32 (LoongArch64 Shift5) mask range a bias thunkable implicit) rounded
      → HasNumber (row_of kind2 0 12 (LoongArch64 Shift10) mask2 range2 a2 bias2 thunkable2 implicit2) operands number → IsPlainBy kind2 none
      → Law (first_step (row_of kind 12 32 (LoongArch64 Shift5) mask range a bias thunkable implicit) (of_values (bit_bounds 32 Signed))
      ∷ step_of (row_of kind2 0 12 (LoongArch64 Shift10) mask2 range2 a2 bias2 thunkable2 implicit2) operands none ∷ [])
      (λ o x y. (pos (begin o) +ℤ (signed 20 (field x 5 25) *ℤ pos 4096)) +ℤ signed 12 (field y 10 22)) target
  rounded_parts {begin} {target} {number} {rounded} leads rounds operands e e2 plain =
      λ o small at before after step within at2 before2 after2 step2 any2.
      let n = number o in
      let numbers = leads o small in
      let is = rounds o small in
      let below : rounded o < 2 ^ 64 = subst (λ k. k < 2 ^ 64) (sym is) (sum_below n 0x800) in
      let x = window_of (loongarch_form Shift5) after in
      let y = window_of (loongarch_form Shift10) after2 in
      let h = high_reads o before after step within (rounded o) below (e o small) in
      let l = low_field _ before2 after2 0 step2 n numbers.below (omega arith)
      (e2 o small at2) (plain _ step2.value tt) in
      halves_sum 12 0x800 (begin o) (target o) n (rounded o) (signed 20 (field x 5 25))
      (signed 12 (field y 10 22))
      (omega arith) (omega arith) numbers.small numbers.below numbers.leads is h
      (rounded_remainder n (rounded o) (field y 10 22) l is)

  -- of four and five instructions
  module _ {kind3 : RelocationKind} {mask3 : Option PageMask} {range3 : AllowedRange} {a3 : ℕ}
      {bias3 : Option ℕ} {thunkable3 implicit3 : Bool}
      {kind4 : RelocationKind} {mask4 : Option PageMask} {range4 : AllowedRange} {a4 : ℕ}
      {bias4 : Option ℕ} {thunkable4 implicit4 : Bool} where
    pub four_parts : {begin target number : Operands → ℕ} → IsNumber begin target number
        → (operands2 operands3 operands4 : Operands → ℕ → Operands)
        → FirstHasNumber (row_of kind 12 32 (LoongArch64 Shift5) mask range a bias thunkable implicit) number
        → HasNumber (row_of kind2 0 12 (LoongArch64 Shift10) mask2 range2 a2 bias2 thunkable2 implicit2) operands2 number
        → HasNumber (row_of kind3 32 52 (LoongArch64 Shift5) mask3 range3 a3 bias3 thunkable3 implicit3) operands3 number
        → HasNumber (row_of kind4 52 64 (LoongArch64 Shift10) mask4 range4 a4 bias4 thunkable4 implicit4) operands4 number
        → IsPlainBy kind2 none → IsPlainBy kind4 none
        → Law
        (first_step (row_of kind 12 32 (LoongArch64 Shift5) mask range a bias thunkable implicit) none
        ∷ step_of (row_of kind2 0 12 (LoongArch64 Shift10) mask2 range2 a2 bias2 thunkable2 implicit2) operands2 none
        ∷ step_of (row_of kind3 32 52 (LoongArch64 Shift5) mask3 range3 a3 bias3 thunkable3 implicit3) operands3 none
        ∷ step_of (row_of kind4 52 64 (LoongArch64 Shift10) mask4 range4 a4 bias4 thunkable4 implicit4) operands4 none ∷ []) (λ o x y z u. pos (begin o) +ℤ four x y z u) target
    four_parts {begin} {target} {number} leads operands2 operands3 operands4 e e2 e3 e4 plain upper =
        λ o small at before after step any at2 before2 after2 step2 any2 at3 before3 after3 step3 any3
        at4 before4 after4 step4 any4.
        let n = number o in
        let numbers = leads o small in
        let there = numbers.leads in
        let f = high_field _ before after 12 step n numbers.below (omega arith)
        (e o small) in
        let l = low_field _ before2 after2 0 step2 n numbers.below (omega arith)
        (e2 o small at2) (plain _ step2.value tt) in
        let m = high_field _ before3 after3 32 step3 n numbers.below (omega arith)
        (e3 o small at3) in
        let u = low_field _ before4 after4 52 step4 n numbers.below (omega arith)
        (e4 o small at4) (upper _ step4.value tt) in
        ap (λ z. int_rem_euclid (pos (begin o) +ℤ z) (pos (2 ^ 64)))
        (four_of (field (window_of (loongarch_form Shift5) after) 5 25)
        (field (window_of (loongarch_form Shift10) after2) 10 22)
        (field (window_of (loongarch_form Shift5) after3) 5 25)
        (field (window_of (loongarch_form Shift10) after4) 10 22) n numbers.below f l m u)
        ∙ ap pos there

    pub five_parts : {target : Operands → ℕ} → IsSmall target
        → (operands2 operands3 operands4 : Operands → ℕ → Operands)
        → FirstHasNumber (row_of kind 12 32 (LoongArch64 Shift5) mask range a bias thunkable implicit) (page_distance target)
        → HasNumber (row_of kind2 0 12 (LoongArch64 Shift10) mask2 range2 a2 bias2 thunkable2 implicit2) operands2 (absolute target)
        → HasNumber (row_of kind3 32 52 (LoongArch64 Shift5) mask3 range3 a3 bias3 thunkable3 implicit3) operands3 (far_distance target)
        → HasNumber (row_of kind4 52 64 (LoongArch64 Shift10) mask4 range4 a4 bias4 thunkable4 implicit4) operands4 (fourth_distance target)
        → (premise : Premise) → IsPlainBy kind2 premise → IsPlainBy kind4 none
        → Law
        (first_step (row_of kind 12 32 (LoongArch64 Shift5) mask range a bias thunkable implicit) none
        ∷ step_of (row_of kind2 0 12 (LoongArch64 Shift10) mask2 range2 a2 bias2 thunkable2 implicit2) operands2 premise
        ∷ step_of (row_of kind3 32 52 (LoongArch64 Shift5) mask3 range3 a3 bias3 thunkable3 implicit3) operands3 none
        ∷ step_of (row_of kind4 52 64 (LoongArch64 Shift10) mask4 range4 a4 bias4 thunkable4 implicit4) operands4 none ∷ []) five target
    five_parts {target} to operands2 operands3 operands4 e e2 e3 e4 premise plain upper =
        λ o small at before after step any at2 before2 after2 step2 any2 at3 before3 after3 step3 any3
        at4 before4 after4 step4 any4.
        let t = target o in
        let h = far_distance target o in
        let below = far_below target o in
        let same : sum_64 t 0 ≡ t = unbiased t (to o small) in
        let f = high_field _ before after 12 step (page_distance target o)
        (difference_below (page (sum_64 t 0x800)) (page o.place)) (omega arith) (e o small) in
        let l = low_field _ before2 after2 0 step2 (sum_64 t 0) (sum_below t 0)
        (omega arith) (e2 o small at2) (plain _ _ any2) in
        let m = high_field _ before3 after3 32 step3 h below (omega arith)
        (e3 o small at3) in
        let u = low_field _ before4 after4 52 step4 h below (omega arith)
        (e4 o small at4 ∙ ap (λ n. Some (cast_signed w64 n)) (fourth_is_far target o))
        (upper _ step4.value tt) in
        let pc = o.place in
        five_from pc (field (window_of (loongarch_form Shift5) after) 5 25)
        (field (window_of (loongarch_form Shift10) after2) 10 22)
        (field (window_of (loongarch_form Shift5) after3) 5 25)
        (field (window_of (loongarch_form Shift10) after4) 10 22)
        (first_of_five pc t) (field t 0 12) (field (high_of_five pc t) 32 52)
        (field (high_of_five pc t) 52 64)
        f (l ∙ ap (λ k. field k 0 12) same)
        (m ∙ ap (λ k. field (high_distance k (sum_64 pc 8)) 32 52) same)
        (u ∙ ap (λ k. field (high_distance k (sum_64 pc 8)) 52 64) same)
        ∙ made pc t small.place (to o small)

-- ---- a call

pub calls_far : {target number : Operands → ℕ} → IsNumber place target number
    → {kind : RelocationKind} {mask : Option PageMask} {range : AllowedRange}
    {bias : Option ℕ} {thunkable implicit : Bool}
    → ((o : Operands)
    → value_of (row_of kind 2 38 (LoongArch64 Call36) mask range 4 bias thunkable implicit) o
    ≡ Some (cast_signed w64 (number o)))
    → Law (first_step (row_of kind 2 38 (LoongArch64 Call36) mask range 4 bias thunkable implicit) none ∷ [])
    (λ o x. pos o.place +ℤ (reach x *ℤ pos 1)) target
calls_far {target} {number} leads e = λ o small at before after applied any.
    let n = number o in
    let numbers = leads o small in
    let is = value_is _ o before after applied (cast_signed w64 n) (e o) in
    let sum : reach (window_of (loongarch_form Call36) after) ≡ applied.value =
    holds _ o before after applied n numbers.below is refl refl applied.accepted.aligned.0 in
    ap (λ z. int_rem_euclid (pos o.place +ℤ z) (pos (2 ^ 64))) (once _ ∙ sum ∙ sym is)
    ∙ goes o.place n (target o) numbers.below numbers.leads
