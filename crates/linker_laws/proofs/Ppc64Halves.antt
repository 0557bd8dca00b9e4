-- Halves of PowerPC64.
use Rattle.linker_laws.proofs.Imports.{AllowedRange, AreAddresses, Bool, D, Ds, IsApplied, IsWithin, Law, List, Operands, Option, PageMask, Ppc64, Ppc64Form, RelocationKind, Some, [], adjusted, ap, arith, cast_signed, consecutive_bits_sum, difference_64, field, none, place_sum, pos, ppc64_form, ppc64_reads, reach_of, refl, replaced, signed, subst, sum_64, sym, true, unadjusted, value_of, w64, window_of, without_low, ℕ, ℤ, ◌%◌, ◌*ℤ◌, ◌+ℤ◌, ◌+◌, ◌-◌, ◌<◌, ◌^◌, ◌∙◌, ◌∷◌, ◌≡◌}
use Rattle.linker_laws.proofs.Applied.{fits, value_is, taken_bits, ds_stands}
use Rattle.linker_laws.proofs.Instructions.{HasNumber, IsNumber, IsSmall, first_step, row_of, step_of, is_read, reads_bits, field_sum, multiple}
use Rattle.linker_laws.proofs.Rounded.{IsRounded}
use Rattle.linker_laws.proofs.Sums.{high_sum, halves_sum, signed_16, sum_below, difference_below}

-- ---- low halves

-- The machine reads the low 16 bits of the number in two's complement.
abbrev pub ReadsLow : Ppc64Form → ℕ → Type 0
ReadsLow f a =
    (kind : RelocationKind) (mask : Option PageMask) (range : AllowedRange) (bias : Option ℕ)
    (thunkable implicit : Bool) (o : Operands) (before after : List ℕ)
    (applied : IsApplied (row_of kind 0 16 (Ppc64 f) mask range a bias thunkable implicit) o before
    after) (n : ℕ) → n < 2 ^ 64
    → value_of (row_of kind 0 16 (Ppc64 f) mask range a bias thunkable implicit) o
    ≡ Some (cast_signed w64 n)
    → ppc64_reads f (window_of (ppc64_form f) after) ≡ signed 16 (n % 2 ^ 16)

pub d_reads : ReadsLow D 1
d_reads kind mask range bias thunkable implicit o before after applied n below e =
    let sum = field_sum kind 0 16 (Ppc64 D) mask range 1 bias thunkable implicit o before after
    applied refl refl (omega arith) n below e in
    let low : place_sum ((ppc64_form D).places 0) (window_of (ppc64_form D) after) ≡ n % 2 ^ 16 =
    sum ∙ omega arith in
    ap (signed 16) low

pub ds_reads : ReadsLow Ds 4
ds_reads kind mask range bias thunkable implicit o before after applied n below e =
    let row = row_of kind 0 16 (Ppc64 Ds) mask range 4 bias thunkable implicit in
    let is = value_is row o before after applied (cast_signed w64 n) e in
    let taken = taken_bits (record { start = 0; end = 16 }) n applied.value below is in
    let none : n % 2 ^ 2 ≡ 0 =
    multiple kind 0 16 (Ppc64 Ds) mask range 4 bias thunkable implicit o before after applied n 2
    below (omega arith) refl e in
    ds_stands applied.value before after (fits row o before after applied n below is)
    applied.accepted.aligned.1 applied.written
    ∙ ap (λ f. signed 16 ((f - f % 2 ^ 2) % 2 ^ 16)) taken
    ∙ ap (signed 16) (let low : (field n 0 16 - field n 0 16 % 2 ^ 2) % 2 ^ 16 ≡ n % 2 ^ 16 =
    omega arith in low)

-- ---- pairs

pub adjusted_low : (n m : ℕ) (low : ℤ) → low ≡ signed 16 (n % 2 ^ 16) → m ≡ sum_64 n 0x8000
    → low +ℤ pos 0x8000 ≡ pos (m % 2 ^ 16)
adjusted_low n m low reads is =
    ap (λ z. z +ℤ pos 0x8000) reads ∙ signed_16 (n % 2 ^ 16) (omega arith)
    ∙ ap pos (let same : (n % 2 ^ 16 + 0x8000) % 2 ^ 16 ≡ m % 2 ^ 16 = omega arith in same)

-- the low half without a sign
pub d_field : (x : ℕ) → place_sum ((ppc64_form D).places 0) x ≡ field x 0 16
d_field x = consecutive_bits_sum replaced 16 0 0 0 x refl ∙ omega arith

module _ {kind : RelocationKind} {mask : Option PageMask} {range : AllowedRange} {a : ℕ}
    {bias : Option ℕ} {thunkable implicit : Bool} {b : ℤ × ℤ}
    {kind' : RelocationKind} {mask' : Option PageMask} {range' : AllowedRange}
    {bias' : Option ℕ} {thunkable' implicit' : Bool} where
  pub adjusted_halves : {begin target number rounded : Operands → ℕ} → IsNumber begin target number
      → IsRounded 0x8000 number rounded → {f : Ppc64Form} {a' : ℕ} → ReadsLow f a'
      → (operands : Operands → ℕ → Operands)
      → reach_of (row_of kind 16 32 (Ppc64 D) mask range a bias thunkable implicit) ≡ Some b
      → is_read (Ppc64 D) 16 32 b a ≡ true
      → ((o : Operands)
      → value_of (row_of kind 16 32 (Ppc64 D) mask range a bias thunkable implicit) o
      ≡ Some (cast_signed w64 (rounded o)))
      → HasNumber (row_of kind' 0 16 (Ppc64 f) mask' range' a' bias' thunkable' implicit') operands number
      → Law
      (first_step (row_of kind 16 32 (Ppc64 D) mask range a bias thunkable implicit) none
      ∷ step_of (row_of kind' 0 16 (Ppc64 f) mask' range' a' bias' thunkable' implicit') operands none
      ∷ []) (adjusted begin f) target
  adjusted_halves {begin} {target} {number} {rounded} leads rounds {f} low operands within ok e e' =
      λ o small at before after high any at' before' after' rest any'.
      let n = number o in
      let numbers = leads o small in
      let is = rounds o small in
      let below : rounded o < 2 ^ 64 = subst (λ x. x < 2 ^ 64) (sym is) (sum_below n 0x8000) in
      let h = reads_bits _ _ _ _ _ _ _ _ _ _ o before after high _
      (subst (λ b. IsWithin b high.value) within high.accepted.reached.0) ok (rounded o) below (e o)
      in
      let l = low _ _ _ _ _ _ _ before' after' rest n numbers.below (e' o small at') in
      halves_sum 16 0x8000 (begin o) (target o) n (rounded o)
      ((ppc64_form D).machine (window_of (ppc64_form D) after))
      (ppc64_reads f (window_of (ppc64_form f) after')) (omega arith) (omega arith)
      numbers.small numbers.below numbers.leads is h (adjusted_low n (rounded o) _ l is)

  pub unadjusted_halves : {begin target number : Operands → ℕ} → IsNumber begin target number
      → (operands : Operands → ℕ → Operands)
      → reach_of (row_of kind 16 32 (Ppc64 D) mask range a bias thunkable implicit) ≡ Some b
      → is_read (Ppc64 D) 16 32 b a ≡ true
      → ((o : Operands)
      → value_of (row_of kind 16 32 (Ppc64 D) mask range a bias thunkable implicit) o
      ≡ Some (cast_signed w64 (number o)))
      → HasNumber (row_of kind' 0 16 (Ppc64 D) mask' range' 1 bias' thunkable' implicit') operands number
      → Law
      (first_step (row_of kind 16 32 (Ppc64 D) mask range a bias thunkable implicit) none
      ∷ step_of (row_of kind' 0 16 (Ppc64 D) mask' range' 1 bias' thunkable' implicit') operands none
      ∷ []) (unadjusted begin) target
  unadjusted_halves {begin} {target} {number} leads operands within ok e e' =
      λ o small at before after high any at' before' after' rest any'.
      let n = number o in
      let numbers = leads o small in
      let below = numbers.below in
      let h = reads_bits _ _ _ _ _ _ _ _ _ _ o before after high _
      (subst (λ b. IsWithin b high.value) within high.accepted.reached.0) ok n below (e o) in
      let y = window_of (ppc64_form D) after' in
      let sum = field_sum _ 0 16 (Ppc64 D) _ _ 1 _ _ _ _ before' after' rest refl refl (omega arith) n
      numbers.below (e' o small at') in
      let l : field y 0 16 ≡ n % 2 ^ 16 = sym (d_field y) ∙ sum ∙ omega arith in
      halves_sum 16 0 (begin o) (target o) n n
      ((ppc64_form D).machine (window_of (ppc64_form D) after)) (pos (field y 0 16)) (omega arith)
      (omega arith) numbers.small below numbers.leads (let same : n ≡ sum_64 n 0 = omega arith in same) h
      (ap (λ x. pos x +ℤ pos 0) l ∙ ap pos (omega arith))

-- ---- the high half alone

pub high_half : {begin number : Operands → ℕ} → IsSmall begin
    → (target : Operands → ℕ) (r : ℕ)
    → ((o : Operands) → AreAddresses o
    → number o ≡ difference_64 (sum_64 (target o) r) (begin o))
    → {kind : RelocationKind} {mask : Option PageMask} {range : AllowedRange} {a : ℕ}
    {bias : Option ℕ} {thunkable implicit : Bool} {b : ℤ × ℤ}
    → reach_of (row_of kind 16 32 (Ppc64 D) mask range a bias thunkable implicit) ≡ Some b
    → is_read (Ppc64 D) 16 32 b a ≡ true
    → ((o : Operands)
    → value_of (row_of kind 16 32 (Ppc64 D) mask range a bias thunkable implicit) o
    ≡ Some (cast_signed w64 (number o)))
    → Law (first_step (row_of kind 16 32 (Ppc64 D) mask range a bias thunkable implicit) none ∷ []) (λ o x. pos (begin o) +ℤ ((ppc64_form D).machine x *ℤ pos (2 ^ 16)))
    (without_low 16 r begin target)
high_half {begin} {number} from target r is within ok e = λ o small at before after high any.
    let same = is o small in
    let below : number o < 2 ^ 64 =
    subst (λ x. x < 2 ^ 64) (sym same) (difference_below (sum_64 (target o) r) (begin o)) in
    let h = reads_bits _ _ _ _ _ _ _ _ _ _ o before after high _
    (subst (λ b. IsWithin b high.value) within high.accepted.reached.0) ok (number o) below (e o)
    in
    high_sum 16 r (begin o) (target o) (number o)
    ((ppc64_form D).machine (window_of (ppc64_form D) after)) (omega arith) (from o small) same h
