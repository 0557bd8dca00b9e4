-- What two relocations of one place leave there.
use Rattle.linker_laws.proofs.Imports.{AbsoluteAddition, AbsoluteAdditionWord6, AbsoluteSet, AbsoluteSetWord6, AbsoluteSubtraction, AbsoluteSubtractionWord6, AllowedRange, Bool, IsAddress, IsApplied, List, Operands, Option, PageMask, RowInfo, Some, ap, arith, cases_lt, cast_negative, cast_signed, cast_unsigned, difference_64, field, inl, inr, int_rem_euclid, ints, mod_mod, negsuc, number_of_bytes, pos, refl, rem_rem, suc, sum_64, sym, symbol_address, to_z_pos, unsigned_abs, value_of, w64, zero, zero-add, ℕ, ◌%◌, ◌*◌, ◌+ℤ◌, ◌+◌, ◌-ℤ◌, ◌-◌, ◌<◌, ◌^◌, ◌∙◌, ◌≡◌, ◌≤◌}
use Rattle.linker_laws.specs.Schemes.{AddsDistance, AddsDistance6, SetsDistance, SetsDistance6}
use Rattle.linker_laws.proofs.Fields.{bytes_of, held}
use Rattle.linker_laws.proofs.Instructions.{absolute}
use Rattle.linker_laws.proofs.Sums.{goes, cast_low, lifted_is, sum_below}

-- ---- sums and differences with a value

sum_rem : (old n k : ℕ) → n < 2 ^ 64 → k ≤ 64
    → int_rem_euclid (pos old +ℤ cast_signed w64 n) (pos (2 ^ k)) ≡ pos ((old + n) % 2 ^ k)
sum_rem old n k below short =
    sym (rem_rem (pos old +ℤ cast_signed w64 n) (sum_64 old n) 64 k short
    (sym (goes old n (sum_64 old n) below refl)))
    ∙ ap pos (mod_mod (old + n) 64 k short)

taken : (old n : ℕ) → n < 2 ^ 64
    → IsAddress (pos old -ℤ cast_signed w64 n) (difference_64 old n)
taken old n below =
    elim (cases_lt n (2 ^ 63)) [
      | inl low ↦ ap (λ z. int_rem_euclid (pos old -ℤ z) (pos (2 ^ 64))) (to_z_pos w64 n low)
          ∙ lifted_is (pos old -ℤ pos n) 1 (old + (2 ^ 64 - n)) (omega (arith, ints))
      | inr high ↦
          ap (λ z. int_rem_euclid (pos old -ℤ z) (pos (2 ^ 64))) (cast_negative n below high)
          ∙ lifted_is (pos old -ℤ negsuc (2 ^ 64 - suc n)) 0 (old + (2 ^ 64 - n))
          (omega (arith, ints))
    ]

difference_rem : (old n k : ℕ) → n < 2 ^ 64 → k ≤ 64
    → int_rem_euclid (pos old -ℤ cast_signed w64 n) (pos (2 ^ k))
    ≡ pos ((old + (2 ^ 64 - n)) % 2 ^ k)
difference_rem old n k below short =
    sym (rem_rem (pos old -ℤ cast_signed w64 n) (difference_64 old n) 64 k short
    (sym (taken old n below)))
    ∙ ap pos (mod_mod (old + (2 ^ 64 - n)) 64 k short)

-- the value is S + A
abbrev pub HasAddress : RowInfo → Type 0
HasAddress row =
    (o : Operands) → value_of row o ≡ Some (cast_signed w64 (absolute symbol_address o))

-- ---- one relocation

module _ {n : ℕ} {mask : Option PageMask} {range : AllowedRange} {a : ℕ} {bias : Option ℕ}
    {thunkable implicit : Bool} (o : Operands) (before after : List ℕ) (number : ℕ)
    (below : number < 2 ^ 64) where
  -- the number of the bytes by that before
  added : (applied : IsApplied
      (bytes_of AbsoluteAddition n mask range a bias thunkable implicit) o before after)
      → value_of (bytes_of AbsoluteAddition n mask range a bias thunkable implicit) o
      ≡ Some (cast_signed w64 number) → 8 * n ≤ 64
      → number_of_bytes n after ≡ (number_of_bytes n before + number) % 2 ^ (8 * n)
  added applied e short =
      ap unsigned_abs (held o before after applied number below e
      ∙ sum_rem (number_of_bytes n before) number (8 * n) below short)

  subtracted : (applied : IsApplied
      (bytes_of AbsoluteSubtraction n mask range a bias thunkable implicit) o before after)
      → value_of (bytes_of AbsoluteSubtraction n mask range a bias thunkable implicit) o
      ≡ Some (cast_signed w64 number) → 8 * n ≤ 64
      → number_of_bytes n after ≡ (number_of_bytes n before + (2 ^ 64 - number)) % 2 ^ (8 * n)
  subtracted applied e short =
      ap unsigned_abs (held o before after applied number below e
      ∙ difference_rem (number_of_bytes n before) number (8 * n) below short)

  set : (applied : IsApplied
      (bytes_of AbsoluteSet n mask range a bias thunkable implicit) o before after)
      → value_of (bytes_of AbsoluteSet n mask range a bias thunkable implicit) o
      ≡ Some (cast_signed w64 number) → 8 * n ≤ 64
      → number_of_bytes n after ≡ number % 2 ^ (8 * n)
  set applied e short =
      ap unsigned_abs (held o before after applied number below e
      ∙ cast_low number (8 * n) below (omega arith))

-- the same of 6 bits of a byte
byte_of : (old f : ℕ) → ℕ
byte_of old f = (old - old % 64 + f % 64) % 2 ^ 8

module _ {mask : Option PageMask} {range : AllowedRange} {a : ℕ} {bias : Option ℕ}
    {thunkable implicit : Bool} (o : Operands) (before after : List ℕ) (number : ℕ)
    (below : number < 2 ^ 64) where
  added_6 : (applied : IsApplied
      (bytes_of AbsoluteAdditionWord6 1 mask range a bias thunkable implicit) o before after)
      → value_of (bytes_of AbsoluteAdditionWord6 1 mask range a bias thunkable implicit) o
      ≡ Some (cast_signed w64 number)
      → number_of_bytes 1 after
      ≡ byte_of (number_of_bytes 1 before) (number_of_bytes 1 before + number)
  unfolding byte_of
  added_6 applied e =
      let old = number_of_bytes 1 before in
      ap unsigned_abs (held o before after applied number below e
      ∙ ap (λ z. int_rem_euclid (pos (old - old % 64) +ℤ z) (pos (2 ^ 8)))
      (sum_rem old number 6 below (omega arith)))

  subtracted_6 : (applied : IsApplied
      (bytes_of AbsoluteSubtractionWord6 1 mask range a bias thunkable implicit) o before after)
      → value_of (bytes_of AbsoluteSubtractionWord6 1 mask range a bias thunkable implicit) o
      ≡ Some (cast_signed w64 number)
      → number_of_bytes 1 after
      ≡ byte_of (number_of_bytes 1 before) (number_of_bytes 1 before + (2 ^ 64 - number))
  unfolding byte_of
  subtracted_6 applied e =
      let old = number_of_bytes 1 before in
      ap unsigned_abs (held o before after applied number below e
      ∙ ap (λ z. int_rem_euclid (pos (old - old % 64) +ℤ z) (pos (2 ^ 8)))
      (difference_rem old number 6 below (omega arith)))

  set_6 : (applied : IsApplied
      (bytes_of AbsoluteSetWord6 1 mask range a bias thunkable implicit) o before after)
      → value_of (bytes_of AbsoluteSetWord6 1 mask range a bias thunkable implicit) o
      ≡ Some (cast_signed w64 number)
      → number_of_bytes 1 after ≡ byte_of (number_of_bytes 1 before) number
  unfolding byte_of
  set_6 applied e =
      let old = number_of_bytes 1 before in
      ap unsigned_abs (held o before after applied number below e
      ∙ ap (λ z. int_rem_euclid (pos (old - old % 64) +ℤ z) (pos (2 ^ 8)))
      (cast_low number 6 below (omega arith)))

-- ---- both

-- the sum modulo 2 ^ (8 * n), less a number
sum_less : (n b s t : ℕ) → n < 9 → t < 2 ^ 64
    → ((b + sum_64 s 0) % 2 ^ (8 * n) + (2 ^ 64 - sum_64 t 0)) % 2 ^ (8 * n)
    ≡ sum_64 b (difference_64 s t) % 2 ^ (8 * n)
sum_less zero b s t h small = omega arith
sum_less (suc zero) b s t h small = omega arith
sum_less (suc (suc zero)) b s t h small = omega arith
sum_less (suc (suc (suc zero))) b s t h small = omega arith
sum_less (suc (suc (suc (suc zero)))) b s t h small = omega arith
sum_less (suc (suc (suc (suc (suc zero))))) b s t h small = omega arith
sum_less (suc (suc (suc (suc (suc (suc zero)))))) b s t h small = omega arith
sum_less (suc (suc (suc (suc (suc (suc (suc zero))))))) b s t h small = omega arith
sum_less (suc (suc (suc (suc (suc (suc (suc (suc zero)))))))) b s t h small = omega arith
sum_less (suc (suc (suc (suc (suc (suc (suc (suc (suc n))))))))) b s t h small =
    absurd (omega arith)

number_less : (n s t : ℕ) → n < 9 → t < 2 ^ 64
    → (sum_64 s 0 % 2 ^ (8 * n) + (2 ^ 64 - sum_64 t 0)) % 2 ^ (8 * n)
    ≡ difference_64 s t % 2 ^ (8 * n)
number_less n s t h small =
    ap (λ x. (x % 2 ^ (8 * n) + (2 ^ 64 - sum_64 t 0)) % 2 ^ (8 * n)) (sym (zero-add (sum_64 s 0)))
    ∙ sum_less n 0 s t h small
    ∙ ap (λ d. d % 2 ^ (8 * n))
    (let same : sum_64 0 (difference_64 s t) ≡ difference_64 s t = omega arith in same)

-- ---- both in 6 bits

low_6 : (old f : ℕ) → field (byte_of old f) 0 6 ≡ f % 64
unfolding byte_of
low_6 old f = omega arith

high_2 : (old f : ℕ) → field (byte_of old f) 6 8 ≡ field old 6 8
unfolding byte_of
high_2 old f = omega arith

six_of : (m : ℕ) → m % 64 ≡ field m 0 6
six_of m = omega arith

taken_6 : (m t : ℕ) → t < 2 ^ 64 → (m + (2 ^ 64 - sum_64 t 0)) % 64 ≡ (m % 64 + (2 ^ 64 - t)) % 64
taken_6 m t small = omega arith

sum_6 : (b s t : ℕ) → t < 2 ^ 64
    → ((b + sum_64 s 0) % 64 + (2 ^ 64 - t)) % 64 ≡ sum_64 b (difference_64 s t) % 2 ^ 6
sum_6 b s t small = omega arith

number_6 : (s t : ℕ) → t < 2 ^ 64
    → (sum_64 s 0 % 64 + (2 ^ 64 - t)) % 64 ≡ difference_64 s t % 2 ^ 6
number_6 s t small = omega arith

-- ---- the laws

module _ {mask : Option PageMask} {range : AllowedRange} {a : ℕ} {bias : Option ℕ}
    {thunkable implicit : Bool}
    {mask2 : Option PageMask} {range2 : AllowedRange} {a2 : ℕ} {bias2 : Option ℕ}
    {thunkable2 implicit2 : Bool} where
  pub adds_distance : (n : ℕ) → n < 9
      → HasAddress (bytes_of AbsoluteAddition n mask range a bias thunkable implicit) → HasAddress (bytes_of AbsoluteSubtraction n mask2 range2 a2 bias2 thunkable2 implicit2)
      → AddsDistance n (Some (bytes_of AbsoluteAddition n mask range a bias thunkable implicit))
      (Some (bytes_of AbsoluteSubtraction n mask2 range2 a2 bias2 thunkable2 implicit2))
  adds_distance n few e e2 = λ o p before between after first second.
      let one = added o before between (absolute symbol_address o) (sum_below (symbol_address o) 0)
      first (e o) (omega arith) in
      let two = subtracted p between after (absolute symbol_address p)
      (sum_below (symbol_address p) 0) second (e2 p) (omega arith) in
      two
      ∙ ap (λ m. (m + (2 ^ 64 - absolute symbol_address p)) % 2 ^ (8 * n)) one
      ∙ sum_less n (number_of_bytes n before) (symbol_address o) (symbol_address p) few
      (sum_below p.symbol (cast_unsigned w64 p.addend))

  pub sets_distance : (n : ℕ) → n < 9
      → HasAddress (bytes_of AbsoluteSet n mask range a bias thunkable implicit) → HasAddress (bytes_of AbsoluteSubtraction n mask2 range2 a2 bias2 thunkable2 implicit2)
      → SetsDistance n (Some (bytes_of AbsoluteSet n mask range a bias thunkable implicit))
      (Some (bytes_of AbsoluteSubtraction n mask2 range2 a2 bias2 thunkable2 implicit2))
  sets_distance n few e e2 = λ o p before between after first second.
      let one = set o before between (absolute symbol_address o) (sum_below (symbol_address o) 0)
      first (e o) (omega arith) in
      let two = subtracted p between after (absolute symbol_address p)
      (sum_below (symbol_address p) 0) second (e2 p) (omega arith) in
      two
      ∙ ap (λ m. (m + (2 ^ 64 - absolute symbol_address p)) % 2 ^ (8 * n)) one
      ∙ number_less n (symbol_address o) (symbol_address p) few
      (sum_below p.symbol (cast_unsigned w64 p.addend))

  pub adds_distance_6 : HasAddress (bytes_of AbsoluteAdditionWord6 1 mask range a bias thunkable implicit) → HasAddress (bytes_of AbsoluteSubtractionWord6 1 mask2 range2 a2 bias2 thunkable2 implicit2)
      → AddsDistance6 (Some (bytes_of AbsoluteAdditionWord6 1 mask range a bias thunkable implicit))
      (Some (bytes_of AbsoluteSubtractionWord6 1 mask2 range2 a2 bias2 thunkable2 implicit2))
  adds_distance_6 e e2 = λ o p before between after first second.
      let old = number_of_bytes 1 before in
      let m = number_of_bytes 1 between in
      let s = absolute symbol_address o in
      let t = absolute symbol_address p in
      let small = sum_below p.symbol (cast_unsigned w64 p.addend) in
      let one = added_6 o before between s (sum_below (symbol_address o) 0) first (e o) in
      let two = subtracted_6 p between after t (sum_below (symbol_address p) 0) second (e2 p) in (
        ap (λ x. field x 0 6) two ∙ low_6 m (m + (2 ^ 64 - t))
            ∙ taken_6 m (symbol_address p) small
            ∙ ap (λ x. (x + (2 ^ 64 - symbol_address p)) % 64)
            (six_of m ∙ ap (λ x. field x 0 6) one ∙ low_6 old (old + s))
            ∙ sum_6 old (symbol_address o) (symbol_address p) small,
        ap (λ x. field x 6 8) two ∙ high_2 m (m + (2 ^ 64 - t)) ∙ ap (λ x. field x 6 8) one
            ∙ high_2 old (old + s),
      )

  pub sets_distance_6 : HasAddress (bytes_of AbsoluteSetWord6 1 mask range a bias thunkable implicit) → HasAddress (bytes_of AbsoluteSubtractionWord6 1 mask2 range2 a2 bias2 thunkable2 implicit2)
      → SetsDistance6 (Some (bytes_of AbsoluteSetWord6 1 mask range a bias thunkable implicit))
      (Some (bytes_of AbsoluteSubtractionWord6 1 mask2 range2 a2 bias2 thunkable2 implicit2))
  sets_distance_6 e e2 = λ o p before between after first second.
      let old = number_of_bytes 1 before in
      let m = number_of_bytes 1 between in
      let s = absolute symbol_address o in
      let t = absolute symbol_address p in
      let small = sum_below p.symbol (cast_unsigned w64 p.addend) in
      let one = set_6 o before between s (sum_below (symbol_address o) 0) first (e o) in
      let two = subtracted_6 p between after t (sum_below (symbol_address p) 0) second (e2 p) in (
        ap (λ x. field x 0 6) two ∙ low_6 m (m + (2 ^ 64 - t))
            ∙ taken_6 m (symbol_address p) small
            ∙ ap (λ x. (x + (2 ^ 64 - symbol_address p)) % 64)
            (six_of m ∙ ap (λ x. field x 0 6) one ∙ low_6 old s)
            ∙ number_6 (symbol_address o) (symbol_address p) small,
        ap (λ x. field x 6 8) two ∙ high_2 m (m + (2 ^ 64 - t)) ∙ ap (λ x. field x 6 8) one
            ∙ high_2 old s,
      )
