-- Numbers as a read returns them.
use Rattle.linker_elf.proofs.Imports.{Bool, Encoding, Field, FitsSigned, Sign, and_mask, and_parts, and_pow, and_zero_r, ap, arith, bit_and, bit_at, cases_lt, cast_unsigned, eqb, eqb-true, false, if◌then◌else◌, inl, inr, int_lt, ints, le-leb, le-ltb, leb, lt-leb, lt-ltb, ltb, ltb-true, mod-eq_of_lt, negsuc, number_of, place_sum, place_sum_below, pos, pow-add, pow_below, pow_mono, refl, signed, signed_bits, sym, true, twos_complement, unsigned, values_apart, values_below, w64, ℕ, ◌%◌, ◌&&◌, ◌*◌, ◌+◌, ◌-ℤ◌, ◌-◌, ◌<◌, ◌^◌, ◌∙◌, ◌≡◌, ◌≤◌}

-- ---- a number in two's complement, as the code takes twice its sign bit off

pub sign_taken_off : (n f sign : ℕ) → 0 < n → n < 64 → f < 2 ^ n → sign ≡ 2 ^ (n - 1)
    → (f + (2 ^ 64 - bit_and f sign * 2 % 2 ^ 64)) % 2 ^ 64 ≡ cast_unsigned w64 (signed n f)
sign_taken_off n f sign some short small is =
    let back : n - 1 + 1 ≡ n = omega arith in
    let bit : bit_and f sign ≡ bit_at f (n - 1) * 2 ^ (n - 1) = ap (bit_and f) is ∙ and_pow f (n - 1) in
    let double : 2 ^ (n - 1 + 1) ≡ 2 ^ (n - 1) * 2 ^ 1 = pow-add 2 (n - 1) 1 in
    let below : f < 2 ^ (n - 1 + 1) = rw back small in
    let within : 2 ^ (n - 1 + 1) < 2 ^ 64 = rw back (pow_below n 64 short) in
    let whole : f % 2 ^ (n - 1 + 1) ≡ f = mod-eq_of_lt below in
    signed_bits n f ((f + (2 ^ 64 - bit_and f sign * 2 % 2 ^ 64)) % 2 ^ 64) some short small
    (λ clear. let none : bit_and f sign ≡ 0 = bit ∙ ap (λ b. b * 2 ^ (n - 1)) clear ∙ omega arith in
    rw none (omega (arith, below, within)))
    (λ set. let one : bit_and f sign ≡ 2 ^ (n - 1) = bit ∙ ap (λ b. b * 2 ^ (n - 1)) set ∙ omega arith in
    rw (one, whole) (omega (arith, double, below, within)))

-- ---- what the code makes of the number in a window

abbrev pub value_of : Encoding → ℕ → ℕ
value_of e n = bit_and (((n + (2 ^ 64 - bit_and n e.signs * 2 % 2 ^ 64)) % 2 ^ 64 + (2 ^ 64 - e.rounded)) % 2 ^ 64) e.returned

-- all of it is returned
pub whole : (t r : ℕ) → bit_and ((t + (2 ^ 64 - r)) % 2 ^ 64) (2 ^ 64 - 1) ≡ (t + (2 ^ 64 - r)) % 2 ^ 64
whole t r = and_mask ((t + (2 ^ 64 - r)) % 2 ^ 64) 64 ∙ omega arith

abbrev pub sign_of : Sign → ℕ → ℕ
sign_of unsigned n = 0
sign_of twos_complement n = 2 ^ (n - 1)

pub taken_off : (s : Sign) (n f : ℕ) → 0 < n → n < 64 → f < 2 ^ n → (f + (2 ^ 64 - bit_and f (sign_of s n) * 2 % 2 ^ 64)) % 2 ^ 64 ≡ cast_unsigned w64 (number_of s n f)
taken_off unsigned n f some short small =
    let fits : 2 ^ n ≤ 2 ^ 63 = pow_mono {i = n} {j = 63} (omega arith) in
    ap (λ b. (f + (2 ^ 64 - b * 2 % 2 ^ 64)) % 2 ^ 64) (and_zero_r f) ∙ omega (arith, fits, small)
taken_off twos_complement n f some short small = sign_taken_off n f (2 ^ (n - 1)) some short small refl

-- the flag, which is that of a number below 0, or none
abbrev pub is_flag : Sign → Bool → ℕ → ℕ → Bool
is_flag twos_complement true n flag = eqb flag (2 ^ (n - 1))
is_flag unsigned true n flag = false
is_flag s false n flag = eqb flag (2 ^ 64 - 1)

pub flag_is : (s : Sign) (flags : Bool) (n f flag : ℕ) → n < 64 → f < 2 ^ n → is_flag s flags n flag ≡ true → leb flag f ≡ (flags && int_lt (number_of s n f) (pos 0))
flag_is unsigned true n f flag short small h = cc
flag_is unsigned false n f flag short small h =
    let fits : 2 ^ n ≤ 2 ^ 63 = pow_mono {i = n} {j = 63} (omega arith) in
    let top = eqb-true flag (2 ^ 64 - 1) h in
    lt-leb flag f (omega (arith, fits, small, top))
flag_is twos_complement false n f flag short small h =
    let fits : 2 ^ n ≤ 2 ^ 63 = pow_mono {i = n} {j = 63} (omega arith) in
    let top = eqb-true flag (2 ^ 64 - 1) h in
    lt-leb flag f (omega (arith, fits, small, top))
flag_is twos_complement true n f flag short small h =
    let top = eqb-true flag (2 ^ (n - 1)) h in
    elim (cases_lt f (2 ^ (n - 1))) [
      | inl less ↦
          let number = ap (λ b. int_lt (if b then pos f else pos f -ℤ pos (2 ^ n)) (pos 0)) (lt-ltb f (2 ^ (n - 1)) less) in
          lt-leb flag f (omega (arith, top, less)) ∙ sym (number ∙ le-ltb f 0 (omega arith))
      | inr most ↦
          let number = ap (λ b. int_lt (if b then pos f else pos f -ℤ pos (2 ^ n)) (pos 0)) (le-ltb f (2 ^ (n - 1)) most) in
          let down : pos f -ℤ pos (2 ^ n) ≡ negsuc (2 ^ n - f - 1) = omega (arith, ints, small) in
          le-leb flag f (omega (arith, top, most)) ∙ sym (number ∙ ap (λ z. int_lt z (pos 0)) down)
    ]

-- a form of one field is read as it says
abbrev pub is_read_by : Encoding → Field → Bool
is_read_by e d =
    values_apart d.places && (values_below d.bits d.places && (ltb 0 d.bits && (ltb d.bits 64
    && (eqb e.signs (sign_of d.read d.bits) && (eqb e.rounded 0 && (eqb e.returned (2 ^ 64 - 1) && is_flag d.read d.flags d.bits e.flag))))))

pub record ReadBy (e : Encoding) (d : Field) : Type 0 where
  pub apart : values_apart d.places ≡ true
  pub below : values_below d.bits d.places ≡ true
  pub some : 0 < d.bits
  pub short : d.bits < 64
  pub signs : e.signs ≡ sign_of d.read d.bits
  pub rounded : e.rounded ≡ 0
  pub returned : e.returned ≡ 2 ^ 64 - 1
  pub flag : is_flag d.read d.flags d.bits e.flag ≡ true

read_parts : (e : Encoding) (d : Field) → is_read_by e d ≡ true → ReadBy e d
read_parts e d h =
    let flag = is_flag d.read d.flags d.bits e.flag in
    let f = eqb e.returned (2 ^ 64 - 1) && flag in
    let r = eqb e.rounded 0 && f in
    let s = eqb e.signs (sign_of d.read d.bits) && r in
    let l = ltb d.bits 64 && s in
    let o = ltb 0 d.bits && l in
    let b = values_below d.bits d.places && o in
    let p0 = and_parts (values_apart d.places) b h in
    let p1 = and_parts (values_below d.bits d.places) o p0.1 in
    let p2 = and_parts (ltb 0 d.bits) l p1.1 in
    let p3 = and_parts (ltb d.bits 64) s p2.1 in
    let p4 = and_parts (eqb e.signs (sign_of d.read d.bits)) r p3.1 in
    let p5 = and_parts (eqb e.rounded 0) f p4.1 in
    let p6 = and_parts (eqb e.returned (2 ^ 64 - 1)) flag p5.1 in
    record {
      apart = p0.0;
      below = p1.0;
      some = ltb-true 0 d.bits p2.0;
      short = ltb-true d.bits 64 p3.0;
      signs = eqb-true e.signs (sign_of d.read d.bits) p4.0;
      rounded = eqb-true e.rounded 0 p5.0;
      returned = eqb-true e.returned (2 ^ 64 - 1) p6.0;
      flag = p6.1;
    }

pub field_value : (e : Encoding) (d : Field) → is_read_by e d ≡ true → (x : ℕ) → value_of e (place_sum d.places x) ≡ cast_unsigned w64 (number_of d.read d.bits (place_sum d.places x))
field_value e d h x =
    let k = read_parts e d h in
    let n = place_sum d.places x in
    let t = (n + (2 ^ 64 - bit_and n (sign_of d.read d.bits) * 2 % 2 ^ 64)) % 2 ^ 64 in
    ap (λ s. bit_and (((n + (2 ^ 64 - bit_and n s * 2 % 2 ^ 64)) % 2 ^ 64 + (2 ^ 64 - e.rounded)) % 2 ^ 64) e.returned) k.signs
    ∙ ap (λ r. bit_and ((t + (2 ^ 64 - r)) % 2 ^ 64) e.returned) k.rounded
    ∙ ap (bit_and ((t + (2 ^ 64 - 0)) % 2 ^ 64)) k.returned
    ∙ whole t 0
    ∙ again (n + (2 ^ 64 - bit_and n (sign_of d.read d.bits) * 2 % 2 ^ 64))
    ∙ taken_off d.read d.bits n k.some k.short (place_sum_below d.places d.bits x k.apart k.below)
  where
    again : (y : ℕ) → (y % 2 ^ 64 + (2 ^ 64 - 0)) % 2 ^ 64 ≡ y % 2 ^ 64
    again y = omega arith

pub field_flag : (e : Encoding) (d : Field) → is_read_by e d ≡ true → (x : ℕ) → leb e.flag (place_sum d.places x) ≡ (d.flags && int_lt (number_of d.read d.bits (place_sum d.places x)) (pos 0))
field_flag e d h x =
    let k = read_parts e d h in
    flag_is d.read d.flags d.bits (place_sum d.places x) e.flag k.short (place_sum_below d.places d.bits x k.apart k.below) k.flag

pub signed_fits : (n f : ℕ) → 0 < n → n < 64 → f < 2 ^ n → FitsSigned w64 (signed n f)
signed_fits n f some short small =
    let fits : 2 ^ n ≤ 2 ^ 63 = pow_mono {i = n} {j = 63} (omega arith) in
    elim (cases_lt f (2 ^ (n - 1))) [
      | inl less ↦ rw (lt-ltb f (2 ^ (n - 1)) less) (record { sfits = omega (arith, fits, small) })
      | inr most ↦
          let down : negsuc (2 ^ n - f - 1) ≡ pos f -ℤ pos (2 ^ n) = omega (arith, ints, small) in
          rw (le-ltb f (2 ^ (n - 1)) most, sym down) (record { sfits = omega (arith, fits, small) })
    ]
