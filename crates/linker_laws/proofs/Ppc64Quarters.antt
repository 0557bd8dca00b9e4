-- Numbers of 64 bits of PowerPC64 by parts of 16 bits.
use Rattle.linker_laws.proofs.Imports.{AllowedRange, Bool, D, DUnsigned, IsApplied, Law, List, Operands, Option, PageMask, Ppc64, Ppc64Form, RelocationKind, Some, [], by_quarters, ap, arith, cast_signed, consecutive_bits_sum, field, mod_below, none, place_sum, pos, pow_pos, ppc64_form, ppc64_reads, refl, replaced, subst, sum_64, sym, low_half, upper_parts, value_of, w64, window_of, ℕ, ◌%◌, ◌*◌, ◌+◌, ◌-◌, ◌/◌, ◌<◌, ◌^◌, ◌∙◌, ◌∷◌, ◌≡◌}
use Rattle.linker_laws.proofs.Ppc64Halves.{ReadsLow, adjusted_low, d_field}
use Rattle.linker_laws.proofs.Rounded.{IsRounded}
use Rattle.linker_laws.proofs.Instructions.{FirstHasNumber, HasNumber, IsNumber, first_step, row_of, field_sum, step_of}
use Rattle.linker_laws.proofs.Sums.{Leads, low_part, sum_below}

-- ---- a part

part_below : (n start : ℕ) → field n start (start + 16) < 2 ^ 16
part_below n start =
    let width : start + 16 - start ≡ 16 = omega arith in
    subst (λ w. field n start (start + 16) < 2 ^ w) width
    (mod_below (n / 2 ^ start) (2 ^ (start + 16 - start)) (pow_pos (start + 16 - start)))

pub d_part : (kind : RelocationKind) (start : ℕ) (mask : Option PageMask) (range : AllowedRange)
    (a : ℕ) (bias : Option ℕ) (thunkable implicit : Bool) (o : Operands) (before after : List ℕ)
    (applied : IsApplied (row_of kind start (start + 16) (Ppc64 D) mask range a bias thunkable
    implicit) o before after) (n : ℕ) → n < 2 ^ 64 → start + 16 < 65
    → value_of (row_of kind start (start + 16) (Ppc64 D) mask range a bias thunkable implicit) o
    ≡ Some (cast_signed w64 n)
    → field (window_of (ppc64_form D) after) 0 16 ≡ field n start (start + 16)
d_part kind start mask range a bias thunkable implicit o before after applied n below inside e =
    let sum = field_sum kind start (start + 16) (Ppc64 D) mask range a bias thunkable implicit o
    before after applied refl refl (omega arith) n below e in
    let small = part_below n start in
    sym (d_field (window_of (ppc64_form D) after)) ∙ sum ∙ omega arith

u_field : (x : ℕ) → place_sum ((ppc64_form DUnsigned).places 0) x ≡ field x 0 16
u_field x = consecutive_bits_sum replaced 16 0 0 0 x refl ∙ omega arith

pub u_part : (kind : RelocationKind) (start : ℕ) (mask : Option PageMask) (range : AllowedRange)
    (a : ℕ) (bias : Option ℕ) (thunkable implicit : Bool) (o : Operands) (before after : List ℕ)
    (applied : IsApplied (row_of kind start (start + 16) (Ppc64 DUnsigned) mask range a bias
    thunkable implicit) o before after) (n : ℕ) → n < 2 ^ 64 → start + 16 < 65
    → value_of (row_of kind start (start + 16) (Ppc64 DUnsigned) mask range a bias thunkable
    implicit) o ≡ Some (cast_signed w64 n)
    → field (window_of (ppc64_form DUnsigned) after) 0 16 ≡ field n start (start + 16)
u_part kind start mask range a bias thunkable implicit o before after applied n below inside e =
    let sum = field_sum kind start (start + 16) (Ppc64 DUnsigned) mask range a bias thunkable
    implicit o before after applied refl refl (omega arith) n below e in
    let small = part_below n start in
    sym (u_field (window_of (ppc64_form DUnsigned) after)) ∙ sum ∙ omega arith

-- ---- all parts

-- the parts above the low half
upper_of : (n x y z : ℕ) → n < 2 ^ 64 → field x 0 16 ≡ field n 48 64 → field y 0 16 ≡ field n 32 48
    → field z 0 16 ≡ field n 16 32 → upper_parts x y z + n % 2 ^ 16 ≡ n
upper_of n x y z below ex ey ez =
    ap (λ k. 2 ^ 48 * k + 2 ^ 32 * field y 0 16 + 2 ^ 16 * field z 0 16 + n % 2 ^ 16) ex
    ∙ ap (λ k. 2 ^ 48 * field n 48 64 + 2 ^ 32 * k + 2 ^ 16 * field z 0 16 + n % 2 ^ 16) ey
    ∙ ap (λ k. 2 ^ 48 * field n 48 64 + 2 ^ 32 * field n 32 48 + 2 ^ 16 * k + n % 2 ^ 16) ez
    ∙ parts n below
  where
    parts : (n : ℕ) → n < 2 ^ 64
        → 2 ^ 48 * field n 48 64 + 2 ^ 32 * field n 32 48 + 2 ^ 16 * field n 16 32 + n % 2 ^ 16 ≡ n
    parts n below = omega arith

unsigned_sum : (p s n upper low : ℕ) → Leads p n s → upper + n % 2 ^ 16 ≡ n → low ≡ n % 2 ^ 16
    → (p + upper + low) % 2 ^ 64 ≡ s
unsigned_sum p s n upper low leads is e = omega arith

adjusted_sum : (p s n m upper : ℕ) → Leads p n s → m ≡ sum_64 n 0x8000
    → upper + m % 2 ^ 16 ≡ m → s < 2 ^ 64
    → (s + 0x8000) % 2 ^ 64 ≡ ((p + upper) % 2 ^ 64 + m % 2 ^ 16) % 2 ^ 64
adjusted_sum p s n m upper leads is e small = omega arith

module _ {kind : RelocationKind} {mask : Option PageMask} {range : AllowedRange} {a : ℕ}
    {bias : Option ℕ} {thunkable implicit : Bool}
    {kind2 : RelocationKind} {mask2 : Option PageMask} {range2 : AllowedRange} {a2 : ℕ}
    {bias2 : Option ℕ} {thunkable2 implicit2 : Bool}
    {kind3 : RelocationKind} {mask3 : Option PageMask} {range3 : AllowedRange} {a3 : ℕ}
    {bias3 : Option ℕ} {thunkable3 implicit3 : Bool}
    {kind4 : RelocationKind} {mask4 : Option PageMask} {range4 : AllowedRange} {a4 : ℕ}
    {bias4 : Option ℕ} {thunkable4 implicit4 : Bool} where
  pub quarters : {begin target number : Operands → ℕ} → IsNumber begin target number
      → (operands2 operands3 operands4 : Operands → ℕ → Operands)
      → FirstHasNumber (row_of kind 48 64 (Ppc64 D) mask range a bias thunkable implicit) number
      → HasNumber (row_of kind2 32 48 (Ppc64 DUnsigned) mask2 range2 a2 bias2 thunkable2 implicit2) operands2 number
      → HasNumber (row_of kind3 16 32 (Ppc64 DUnsigned) mask3 range3 a3 bias3 thunkable3 implicit3) operands3 number
      → HasNumber (row_of kind4 0 16 (Ppc64 D) mask4 range4 a4 bias4 thunkable4 implicit4) operands4 number
      → Law
      (first_step (row_of kind 48 64 (Ppc64 D) mask range a bias thunkable implicit) none
      ∷ step_of (row_of kind2 32 48 (Ppc64 DUnsigned) mask2 range2 a2 bias2 thunkable2 implicit2) operands2 none
      ∷ step_of (row_of kind3 16 32 (Ppc64 DUnsigned) mask3 range3 a3 bias3 thunkable3 implicit3) operands3 none
      ∷ step_of (row_of kind4 0 16 (Ppc64 D) mask4 range4 a4 bias4 thunkable4 implicit4) operands4 none
      ∷ []) (by_quarters begin low_half) target
  quarters {begin} {target} {number} leads operands2 operands3 operands4 e e2 e3 e4 =
      λ o small at before after step any at2 before2 after2 step2 any2 at3 before3 after3 step3 any3
      at4 before4 after4 step4 any4.
      let n = number o in
      let numbers = leads o small in
      let x = d_part _ 48 _ _ _ _ _ _ _ before after step n numbers.below (omega arith) (e o small) in
      let y = u_part _ 32 _ _ _ _ _ _ _ before2 after2 step2 n numbers.below (omega arith)
      (e2 o small at2) in
      let z = u_part _ 16 _ _ _ _ _ _ _ before3 after3 step3 n numbers.below (omega arith)
      (e3 o small at3) in
      let l = d_part _ 0 _ _ _ _ _ _ _ before4 after4 step4 n numbers.below (omega arith)
      (e4 o small at4) in
      ap pos (unsigned_sum (begin o) (target o) n
      (upper_parts (window_of (ppc64_form D) after) (window_of (ppc64_form DUnsigned) after2)
      (window_of (ppc64_form DUnsigned) after3))
      (field (window_of (ppc64_form D) after4) 0 16) numbers.leads
      (upper_of n (window_of (ppc64_form D) after) (window_of (ppc64_form DUnsigned) after2)
      (window_of (ppc64_form DUnsigned) after3) numbers.below x y z) (l ∙ omega arith))

  pub quarters_adjusted : {begin target number rounded : Operands → ℕ} → IsNumber begin target number
      → IsRounded 0x8000 number rounded → {f : Ppc64Form} → ReadsLow f a4
      → (operands2 operands3 operands4 : Operands → ℕ → Operands)
      → FirstHasNumber (row_of kind 48 64 (Ppc64 D) mask range a bias thunkable implicit) rounded
      → HasNumber (row_of kind2 32 48 (Ppc64 DUnsigned) mask2 range2 a2 bias2 thunkable2 implicit2) operands2 rounded
      → HasNumber (row_of kind3 16 32 (Ppc64 DUnsigned) mask3 range3 a3 bias3 thunkable3 implicit3) operands3 rounded
      → HasNumber (row_of kind4 0 16 (Ppc64 f) mask4 range4 a4 bias4 thunkable4 implicit4) operands4 number
      → Law
      (first_step (row_of kind 48 64 (Ppc64 D) mask range a bias thunkable implicit) none
      ∷ step_of (row_of kind2 32 48 (Ppc64 DUnsigned) mask2 range2 a2 bias2 thunkable2 implicit2) operands2 none
      ∷ step_of (row_of kind3 16 32 (Ppc64 DUnsigned) mask3 range3 a3 bias3 thunkable3 implicit3) operands3 none
      ∷ step_of (row_of kind4 0 16 (Ppc64 f) mask4 range4 a4 bias4 thunkable4 implicit4) operands4 none
      ∷ []) (by_quarters begin (ppc64_reads f)) target
  quarters_adjusted {begin} {target} {number} {rounded} leads rounds {f} low operands2 operands3
      operands4 e e2 e3 e4 =
      λ o small at before after step any at2 before2 after2 step2 any2 at3 before3 after3 step3 any3
      at4 before4 after4 step4 any4.
      let n = number o in
      let m = rounded o in
      let numbers = leads o small in
      let is = rounds o small in
      let below : m < 2 ^ 64 = subst (λ x. x < 2 ^ 64) (sym is) (sum_below n 0x8000) in
      let x = d_part _ 48 _ _ _ _ _ _ _ before after step m below (omega arith) (e o small) in
      let y = u_part _ 32 _ _ _ _ _ _ _ before2 after2 step2 m below (omega arith)
      (e2 o small at2) in
      let z = u_part _ 16 _ _ _ _ _ _ _ before3 after3 step3 m below (omega arith)
      (e3 o small at3) in
      let l = low _ _ _ _ _ _ _ before4 after4 step4 n numbers.below (e4 o small at4) in
      let upper = upper_parts (window_of (ppc64_form D) after)
      (window_of (ppc64_form DUnsigned) after2) (window_of (ppc64_form DUnsigned) after3) in
      low_part (pos (begin o + upper)) (ppc64_reads f (window_of (ppc64_form f) after4))
      ((begin o + upper) % 2 ^ 64) 0x8000 (m % 2 ^ 16) (target o) refl
      (adjusted_low n m _ l is) numbers.small
      (adjusted_sum (begin o) (target o) n m upper numbers.leads is
      (upper_of m (window_of (ppc64_form D) after) (window_of (ppc64_form DUnsigned) after2)
      (window_of (ppc64_form DUnsigned) after3) below x y z) numbers.small)
