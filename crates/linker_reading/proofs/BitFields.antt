-- Fields of bits of the number that an instruction holds, and of the value.
use Rattle.linker_reading.proofs.Imports.{BitRange, Bool, IsClear, Layout, Sign, Written, ap, arith, bit_at, bit_at_mod, bit_at_mod_above, bit_at_run, bit_at_shl, bit_at_shr, bits_within, cases_lt, cast_unsigned, field, form_of, high_of, inl, inr, is_sound_layout, layout_laid, le-ltb, low_of, lt-ltb, mod_below, mod_mod, number_of, one_field, own_form, place_sum, pow_pos, refl, same_fields, same_from_bits, shr_split, signed, signed_bits, subst, sym, true, twos_complement, unsigned, w64, ℕ, ◌%◌, ◌*◌, ◌+◌, ◌-◌, ◌/◌, ◌<◌, ◌^◌, ◌∙◌, ◌≡◌, ◌≤◌}

-- fields below bit m of numbers that are the same there
pub low_bits_same : (x y a m : ℕ) → x % 2 ^ m ≡ y % 2 ^ m → field x a m ≡ field y a m
low_bits_same x y a m e =
    same_fields x y a m (λ w from below.
    sym (bit_at_mod x m w below) ∙ ap (λ z. bit_at z w) e ∙ bit_at_mod y m w below)

-- of a number of n bits, whatever its sign
pub number_bits : (sign : Sign) (n f a m : ℕ) → f < 2 ^ n → n ≤ 64 → m ≤ n
    → field (cast_unsigned w64 (number_of sign n f)) a m ≡ field f a m
number_bits unsigned n f a m small most inside = refl
number_bits twos_complement n f a m small most inside =
    low_bits_same (cast_unsigned w64 (signed n f)) f a m
    (sym (mod_mod (cast_unsigned w64 (signed n f)) n m inside)
    ∙ ap (λ y. y % 2 ^ m) (signed_bits n f small most))

-- of a number without its low bits
pub sum_bits : (f low n a m : ℕ) → low ≤ a → m ≤ n → field ((f - f % 2 ^ low) % 2 ^ n) a m ≡ field f a m
sum_bits f low n a m above inside =
    same_fields ((f - f % 2 ^ low) % 2 ^ n) f a m (λ w from below.
    let whole : f - f % 2 ^ low ≡ f / 2 ^ low * 2 ^ low = omega (arith, shr_split f low) in
    let place : low + (w - low) ≡ w = omega arith in
    bit_at_mod (f - f % 2 ^ low) n w (omega arith) ∙ ap (λ z. bit_at z w) whole
    ∙ bit_at_shl (f / 2 ^ low) low w (omega arith) ∙ bit_at_shr f low (w - low)
    ∙ ap (bit_at f) place)

-- of a field of bits
pub part_of_part : (n s e a m : ℕ) → s + m ≤ e → field (field n s e) a m ≡ field n (s + a) (s + m)
part_of_part n s e a m inside =
    same_from_bits (field (field n s e) a m) (field n (s + a) (s + m)) (λ j.
    elim (cases_lt j (m - a)) [
      | inl below ↦
          let place : s + (a + j) ≡ s + a + j = omega arith in
          bit_at_run (field n s e) a (m - a) j below ∙ bit_at_run n s (e - s) (a + j) (omega arith)
          ∙ ap (bit_at n) place ∙ sym (bit_at_run n (s + a) (s + m - (s + a)) j (omega arith))
      | inr above ↦ bit_at_mod_above (field n s e / 2 ^ a) (m - a) j above
          ∙ sym (bit_at_mod_above (n / 2 ^ (s + a)) (s + m - (s + a)) j (omega arith))
    ])

-- what a form of one field holds after a write
pub layout_bits : (l : Layout) → is_sound_layout l ≡ true → (f : ℕ) (neg : Bool) (before after : ℕ)
    → f < 2 ^ 64 → Written (form_of l) f neg before after
    → IsClear ((form_of l).places before) before
    → (a m : ℕ) → low_of l ≤ a → m ≤ high_of l → high_of l ≤ 64
    → field (cast_unsigned w64 ((form_of l).machine after)) a m ≡ field f a m
layout_bits (one_field d) sound f neg before after wide laid clear a m above inside most =
    let sum = place_sum d.places after in
    let is : sum ≡ (f - f % 2 ^ d.low) % 2 ^ d.bits =
    layout_laid (one_field d) sound f neg before after wide laid clear in
    let small : sum < 2 ^ d.bits =
    subst (λ y. y < 2 ^ d.bits) (sym is) (mod_below (f - f % 2 ^ d.low) (2 ^ d.bits) (pow_pos d.bits)) in
    number_bits d.machine d.bits sum a m small most inside ∙ ap (λ y. field y a m) is
    ∙ sum_bits f d.low d.bits a m above inside
layout_bits (own_form form) sound f neg before after wide laid clear a m above inside most = cc

-- ---- the bits of an immediate within a range

pub record AreWithin (immediate bits : BitRange) : Type 0 where
  pub count : ℕ
  pub end_is : (bits_within immediate bits).end ≡ bits.start + count
  pub most : count ≤ immediate.end
  pub inside : bits.start + count ≤ bits.end

pub are_within : (immediate bits : BitRange) → bits.start ≤ bits.end → AreWithin immediate bits
are_within immediate bits order =
    elim (cases_lt bits.end (bits.start + immediate.end)) [
      | inl short ↦ record {
        count = bits.end - bits.start;
        end_is = rw (lt-ltb bits.end (bits.start + immediate.end) short) (omega arith);
        most = omega arith;
        inside = omega arith;
      }
      | inr long ↦ record {
        count = immediate.end;
        end_is = rw (le-ltb bits.end (bits.start + immediate.end) long) refl;
        most = omega arith;
        inside = omega arith;
      }
    ]

-- Bits of a number that are those of the value's bits of the range are the value's own.
pub own_bits : (immediate bits : BitRange) (number n r : ℕ) → bits.start ≤ bits.end
    → ((m : ℕ) → m ≤ immediate.end → bits.start + m ≤ bits.end
    → field number immediate.start m ≡ field n (bits.start + immediate.start) (bits.start + m))
    → field n (bits_within immediate bits).start (bits_within immediate bits).end
    ≡ field number ((bits_within immediate bits).start - bits.start)
    ((bits_within immediate bits).end - bits.start)
own_bits immediate bits number n r order same =
    let s = bits.start in
    let low = immediate.start in
    let w = are_within immediate bits order in
    let m = w.count in
    let start : s + low - s ≡ low = omega arith in
    let end : (bits_within immediate bits).end - s ≡ m =
    ap (λ y. y - s) w.end_is ∙ (let t : s + m - s ≡ m = omega arith in t) in
    ap (λ e. field n (s + low) e) w.end_is
    ∙ sym (same m w.most w.inside)
    ∙ sym (ap (λ a. field number a ((bits_within immediate bits).end - s)) start
    ∙ ap (λ k. field number low k) end)
