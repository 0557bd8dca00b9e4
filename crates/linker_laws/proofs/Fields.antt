-- The law of a field of whole bytes.
use Rattle.linker_laws.proofs.Imports.{AllowedRange, AreAddresses, Bool, ByteSize, IsApplied, IsWithin, Law, List, Operands, Option, PageMask, RelocationKind, RowInfo, Sign, SizeNumber, Some, [], ap, arith, bits_from, cast_signed, from_zero, int_rem_euclid, mod-eq_of_lt, none, number_agrees, number_of, number_of_bytes, of_values, pos, reach_of, reaches, rem_below, subst, suc, sym, true, unsigned_abs, value_of, w64, whole_number, zero, ℕ, ℤ, ◌%◌, ◌*ℤ◌, ◌*◌, ◌+ℤ◌, ◌+◌, ◌<◌, ◌^◌, ◌∙◌, ◌∷◌, ◌≡◌}
use Rattle.linker_elf.proofs.WrittenNumbers.{row_number}
use Rattle.linker_laws.proofs.Applied.{fits, value_is}
use Rattle.linker_laws.proofs.Instructions.{IsNumber, first_step}
use Rattle.linker_laws.proofs.Sums.{goes, cast_low, cast_is, once}

-- n whole bytes
abbrev pub bytes_of : RelocationKind → ℕ → Option PageMask → AllowedRange → ℕ → Option ℕ → Bool
    → Bool → RowInfo
bytes_of kind n mask range a bias thunkable implicit =
    record {
      kind = kind;
      size = ByteSize n;
      mask = mask;
      range = range;
      alignment = a;
      bias = bias;
      thunkable = thunkable;
      implicit_addend = implicit;
    }

-- The bytes hold the value itself.
abbrev pub IsValue : RelocationKind → Type 0
IsValue kind = (v : ℤ) (old : ℕ) → whole_number kind v old ≡ v

-- what the bytes hold, by the number of the formula
pub held : {kind : RelocationKind} {n : ℕ} {mask : Option PageMask} {range : AllowedRange} {a : ℕ}
    {bias : Option ℕ} {thunkable implicit : Bool} (o : Operands) (before after : List ℕ)
    → IsApplied (bytes_of kind n mask range a bias thunkable implicit) o before after
    → (number : ℕ) → number < 2 ^ 64
    → value_of (bytes_of kind n mask range a bias thunkable implicit) o
    ≡ Some (cast_signed w64 number)
    → SizeNumber (ByteSize n) kind (cast_signed w64 number) before after
held {kind} {n} {mask} {range} {a} {bias} {thunkable} {implicit} o before after applied number below
    e =
    let row = bytes_of kind n mask range a bias thunkable implicit in
    let is = value_is row o before after applied (cast_signed w64 number) e in
    subst (λ v. SizeNumber (ByteSize n) kind v before after) (sym is)
    (row_number row applied.value before after (fits row o before after applied number below is)
    applied.accepted.supported applied.written)

module _ {kind : RelocationKind} {n : ℕ} {mask : Option PageMask} {range : AllowedRange} {a : ℕ}
    {bias : Option ℕ} {thunkable implicit : Bool} (whole : IsValue kind) (o : Operands)
    (before after : List ℕ)
    (applied : IsApplied (bytes_of kind n mask range a bias thunkable implicit) o before after)
    (number : ℕ) (below : number < 2 ^ 64)
    (e : value_of (bytes_of kind n mask range a bias thunkable implicit) o
    ≡ Some (cast_signed w64 number)) where
  -- the number of the bytes, modulo 2 ^ 8 for each
  pub field_number : pos (number_of_bytes n after)
      ≡ int_rem_euclid (cast_signed w64 number) (pos (2 ^ (8 * n)))
  field_number =
      held o before after applied number below e
      ∙ ap (λ z. int_rem_euclid z (pos (2 ^ (8 * n))))
      (whole (cast_signed w64 number) (number_of_bytes n before))

  -- read by a sign, of a value within bounds
  pub field_reads : (sign : Sign) (b : ℤ × ℤ) → IsWithin (Some b) applied.value
      → reaches sign (8 * n) 0 (8 * n) (Some b) ≡ true
      → number_of sign (8 * n) (number_of_bytes n after) ≡ cast_signed w64 number
  field_reads sign b within ok =
      let row = bytes_of kind n mask range a bias thunkable implicit in
      let is = value_is row o before after applied (cast_signed w64 number) e in
      let v = cast_signed w64 number in
      let f = number_of_bytes n after in
      let from : pos f ≡ int_rem_euclid (bits_from 0 v) (pos (2 ^ (8 * n))) =
      field_number ∙ ap (λ z. int_rem_euclid z (pos (2 ^ (8 * n)))) (sym (from_zero v)) in
      ap (number_of sign (8 * n)) (sym (mod-eq_of_lt (rem_below (bits_from 0 v) f (8 * n) from)))
      ∙ number_agrees sign (8 * n) 0 (8 * n) (Some b) ok v f
      (subst (IsWithin (Some b)) (sym is) within) from
      ∙ from_zero v

-- a field of a value within the row's range
pub field_adds : {begin target number : Operands → ℕ} → IsNumber begin target number
    → (sign : Sign) {kind : RelocationKind} {n : ℕ} {mask : Option PageMask} {range : AllowedRange}
    {a : ℕ} {bias : Option ℕ} {thunkable implicit : Bool} {b : ℤ × ℤ} → IsValue kind
    → reach_of (bytes_of kind n mask range a bias thunkable implicit) ≡ Some b
    → reaches sign (8 * n) 0 (8 * n) (Some b) ≡ true
    → ((o : Operands) → value_of (bytes_of kind n mask range a bias thunkable implicit) o
    ≡ Some (cast_signed w64 (number o)))
    → Law (first_step (bytes_of kind n mask range a bias thunkable implicit) none ∷ []) (λ o x. pos (begin o) +ℤ (number_of sign (8 * n) x *ℤ pos 1)) target
field_adds {begin} {target} {number} leads sign whole within ok e =
    λ o small at before after applied any.
    let numbers = leads o small in
    ap (λ z. int_rem_euclid (pos (begin o) +ℤ z) (pos (2 ^ 64)))
    (once _ ∙ field_reads whole o before after applied (number o) numbers.below (e o) sign _
    (subst (λ b. IsWithin b applied.value) within applied.accepted.reached.0) ok)
    ∙ goes (begin o) (number o) (target o) numbers.below numbers.leads

-- a field of a value within other bounds
pub field_adds_within : {begin target number : Operands → ℕ} → IsNumber begin target number
    → (sign : Sign) {kind : RelocationKind} {n : ℕ} {mask : Option PageMask} {range : AllowedRange}
    {a : ℕ} {bias : Option ℕ} {thunkable implicit : Bool} {b : ℤ × ℤ} → IsValue kind
    → reaches sign (8 * n) 0 (8 * n) (Some b) ≡ true
    → ((o : Operands) → value_of (bytes_of kind n mask range a bias thunkable implicit) o
    ≡ Some (cast_signed w64 (number o)))
    → Law (first_step (bytes_of kind n mask range a bias thunkable implicit) (of_values b) ∷ []) (λ o x. pos (begin o) +ℤ (number_of sign (8 * n) x *ℤ pos 1)) target
field_adds_within {begin} {target} {number} leads sign whole ok e =
    λ o small at before after applied within.
    let numbers = leads o small in
    ap (λ z. int_rem_euclid (pos (begin o) +ℤ z) (pos (2 ^ 64)))
    (once _ ∙ field_reads whole o before after applied (number o) numbers.below (e o) sign _
    within ok)
    ∙ goes (begin o) (number o) (target o) numbers.below numbers.leads

-- a field of 8 bytes
pub whole_field_adds : {begin target number : Operands → ℕ} → IsNumber begin target number
    → {kind : RelocationKind} {mask : Option PageMask} {range : AllowedRange}
    {a : ℕ} {bias : Option ℕ} {thunkable implicit : Bool} → IsValue kind
    → ((o : Operands) → value_of (bytes_of kind 8 mask range a bias thunkable implicit) o
    ≡ Some (cast_signed w64 (number o)))
    → Law (first_step (bytes_of kind 8 mask range a bias thunkable implicit) none ∷ [])
    (λ o x. pos (begin o) +ℤ (pos x *ℤ pos 1)) target
whole_field_adds {begin} {target} {number} leads whole e = λ o small at before after applied any.
    let numbers = leads o small in
    let there = numbers.leads in
    let is : number_of_bytes 8 after ≡ number o =
    ap unsigned_abs (field_number whole o before after applied (number o) numbers.below (e o)
    ∙ cast_is (number o) numbers.below) in
    ap (λ z. int_rem_euclid (pos (begin o) +ℤ z) (pos (2 ^ 64))) (once _ ∙ ap pos is)
    ∙ ap pos there

-- ---- fields of data

led_low : (n b f s number : ℕ) → n < 9 → (b + number) % 2 ^ 64 ≡ s → f ≡ number % 2 ^ (8 * n)
    → (b + f) % 2 ^ (8 * n) ≡ s % 2 ^ (8 * n)
led_low zero b f s number h leads is = omega arith
led_low (suc zero) b f s number h leads is = omega arith
led_low (suc (suc zero)) b f s number h leads is = omega arith
led_low (suc (suc (suc zero))) b f s number h leads is = omega arith
led_low (suc (suc (suc (suc zero)))) b f s number h leads is = omega arith
led_low (suc (suc (suc (suc (suc zero))))) b f s number h leads is = omega arith
led_low (suc (suc (suc (suc (suc (suc zero)))))) b f s number h leads is = omega arith
led_low (suc (suc (suc (suc (suc (suc (suc zero))))))) b f s number h leads is = omega arith
led_low (suc (suc (suc (suc (suc (suc (suc (suc zero)))))))) b f s number h leads is = omega arith
led_low (suc (suc (suc (suc (suc (suc (suc (suc (suc n))))))))) b f s number h leads is =
    absurd (omega arith)

pub holds_distance : {begin target number : Operands → ℕ} → IsNumber begin target number
    → {kind : RelocationKind} {n : ℕ} {mask : Option PageMask} {range : AllowedRange}
    {a : ℕ} {bias : Option ℕ} {thunkable implicit : Bool} → n < 9 → IsValue kind
    → ((o : Operands) → value_of (bytes_of kind n mask range a bias thunkable implicit) o
    ≡ Some (cast_signed w64 (number o)))
    → (o : Operands) → AreAddresses o → (before after : List ℕ)
    → IsApplied (bytes_of kind n mask range a bias thunkable implicit) o before after
    → (begin o + number_of_bytes n after) % 2 ^ (8 * n) ≡ target o % 2 ^ (8 * n)
holds_distance {begin} {target} {number} leads {kind} {n} few whole e =
    λ o small before after applied.
    let numbers = leads o small in
    let is : number_of_bytes n after ≡ number o % 2 ^ (8 * n) =
    ap unsigned_abs (field_number whole o before after applied (number o) numbers.below (e o)
    ∙ cast_low (number o) (8 * n) numbers.below (omega arith)) in
    led_low n (begin o) (number_of_bytes n after) (target o) (number o) few numbers.leads is
