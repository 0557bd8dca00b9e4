-- What is read of an immediate after a write has the bits of the value that was written.
use Rattle.linker_reading.proofs.Imports.{AnyForm, BitRange, Bool, FitsSigned, IsClear, IsSameModulo, Written, and_parts, ap, arith, bits_from, bits_taken, bits_within, cast_unsigned, field, from_zero, high_of, immediate_of, int_rem_euclid, ints, is_sound_layout, leb, leb-true, low_of, mod_mod, neg_ℤ, negsuc, pos, relocation_form, relocation_layout, sum_64, sym, taken_below, taken_is_field, true, unsigned_abs, w64, ℕ, ℤ, ◌%◌, ◌&&◌, ◌*ℤ◌, ◌+ℤ◌, ◌+◌, ◌-◌, ◌/◌, ◌<ℤ◌, ◌<◌, ◌^◌, ◌∙◌, ◌≡◌, ◌≤ℤ◌, ◌≤◌}
use Rattle.linker_reading.proofs.Aligned.{cast_below}
use Rattle.linker_reading.proofs.BitFields.{layout_bits, part_of_part, own_bits, low_bits_same}
use Rattle.linker_reading.proofs.Numbers.{IsShort, short}

-- ---- forms of one field

-- the immediate is that of the form
abbrev is_laid_out : AnyForm → Bool
is_laid_out insn =
    leb (low_of (relocation_layout insn)) (immediate_of insn).start
    && (leb (immediate_of insn).end (high_of (relocation_layout insn))
    && leb (high_of (relocation_layout insn)) 64)

-- no rounding
pub unrounded : (n s e : ℕ) → n < 2 ^ 64 → field (sum_64 n 0) s e ≡ field n s e
unrounded n s e small =
    ap (λ y. field y s e) (let same : (n + 0) % 2 ^ 64 ≡ n = omega arith in same)

-- an instruction in whose form the value's bits of the range were written
pub plain_read : (insn : AnyForm) → is_sound_layout (relocation_layout insn) ≡ true
    → is_laid_out insn ≡ true
    → (bits : BitRange) (v : ℤ) (neg : Bool) (old window number : ℕ) → FitsSigned w64 v
    → bits.start < bits.end → bits.end ≤ 64
    → Written (relocation_form insn) (bits_taken bits v) neg old window
    → IsClear ((relocation_form insn).places old) old
    → number ≡ cast_unsigned w64 ((relocation_form insn).machine window)
    → field (sum_64 (cast_unsigned w64 v) 0) (bits_within (immediate_of insn) bits).start
    (bits_within (immediate_of insn) bits).end
    ≡ field number ((bits_within (immediate_of insn) bits).start - bits.start)
    ((bits_within (immediate_of insn) bits).end - bits.start)
plain_read insn sound laid_out bits v neg old window number fits some inside laid clear is =
    let l = relocation_layout insn in
    let imm = immediate_of insn in
    let n = cast_unsigned w64 v in
    let a = and_parts (leb (low_of l) imm.start) (leb imm.end (high_of l) && leb (high_of l) 64) laid_out in
    let b = and_parts (leb imm.end (high_of l)) (leb (high_of l) 64) a.1 in
    let low = leb-true (low_of l) imm.start a.0 in
    let high = leb-true imm.end (high_of l) b.0 in
    let most = leb-true (high_of l) 64 b.1 in
    unrounded n (bits_within imm bits).start (bits_within imm bits).end (cast_below v fits)
    ∙ own_bits imm bits number n 0 (omega arith) (λ m short within.
    ap (λ y. field y imm.start m) is
    ∙ layout_bits l sound (bits_taken bits v) neg old window (taken_below bits v inside) laid clear
    imm.start m low (omega arith) most
    ∙ part_of_part n bits.start bits.end imm.start m within)

-- ---- numbers that are known modulo a power of two

modulo_bits : (z : ℤ) (n f a m : ℕ) → FitsSigned w64 z → IsSameModulo n z (pos f) → 0 < n → n ≤ 64
    → m ≤ n → field (cast_unsigned w64 z) a m ≡ field f a m
modulo_bits z n f a m fits same some most inside =
    let c = cast_unsigned w64 z in
    let all : BitRange = record { start = 0; end = n } in
    let taken : pos (field c 0 n) ≡ int_rem_euclid (bits_from 0 z) (pos (2 ^ (n - 0))) =
    taken_is_field all z fits some most in
    let from : int_rem_euclid (bits_from 0 z) (pos (2 ^ (n - 0))) ≡ int_rem_euclid z (pos (2 ^ n)) =
    ap (λ y. int_rem_euclid y (pos (2 ^ (n - 0)))) (from_zero z)
    ∙ ap (λ k. int_rem_euclid z (pos (2 ^ k))) (let t : n - 0 ≡ n = omega arith in t) in
    let whole : field c 0 n ≡ f % 2 ^ n = ap unsigned_abs (taken ∙ from ∙ same) in
    let one : c / 2 ^ 0 ≡ c = omega arith in
    let low : c % 2 ^ n ≡ f % 2 ^ n =
    sym (ap (λ y. y % 2 ^ (n - 0)) one ∙ ap (λ k. c % 2 ^ k) (let t : n - 0 ≡ n = omega arith in t)) ∙ whole in
    low_bits_same c f a m (sym (mod_mod c n m inside) ∙ ap (λ y. y % 2 ^ m) low ∙ mod_mod f n m inside)

between : (z : ℤ) → neg_ℤ (pos (2 ^ 62)) ≤ℤ z → z <ℤ pos (2 ^ 62) → FitsSigned w64 z
between (pos n) low high =
    let below : n < 2 ^ 62 = omega (arith, ints, high) in record { sfits = omega arith }
between (negsuc n) low high =
    let below : n < 2 ^ 62 = omega (arith, ints, low) in record { sfits = omega arith }

-- sums of two short numbers
pub sum_fits : (x y : ℤ) → IsShort x → IsShort y → FitsSigned w64 (x +ℤ y)
sum_fits x y f g =
    between (x +ℤ y) (omega (arith, ints, f.0, f.1, g.0, g.1)) (omega (arith, ints, f.0, f.1, g.0, g.1))

pub moved_sum_fits : (x y : ℤ) → neg_ℤ (pos (2 ^ 20)) ≤ℤ x → x <ℤ pos (2 ^ 20) → IsShort y
    → FitsSigned w64 ((x *ℤ pos (2 ^ 16)) +ℤ y)
moved_sum_fits x y f g h =
    between ((x *ℤ pos (2 ^ 16)) +ℤ y) (omega (arith, ints, f, g, h.0, h.1)) (omega (arith, ints, f, g, h.0, h.1))

-- an instruction of which the machine's number is the value's bits, modulo a power of two
pub modulo_read : (n : ℕ) (bits : BitRange) (v z : ℤ) → FitsSigned w64 v → bits.start < bits.end
    → FitsSigned w64 z → IsSameModulo n z (pos (bits_taken bits v)) → 0 < n → n ≤ 64
    → field (sum_64 (cast_unsigned w64 v) 0)
    (bits_within (record { start = 0; end = n }) bits).start
    (bits_within (record { start = 0; end = n }) bits).end
    ≡ field (cast_unsigned w64 z)
    ((bits_within (record { start = 0; end = n }) bits).start - bits.start)
    ((bits_within (record { start = 0; end = n }) bits).end - bits.start)
modulo_read n bits v z fits order short same some most =
    let imm : BitRange = record { start = 0; end = n } in
    let number = cast_unsigned w64 v in
    unrounded number (bits_within imm bits).start (bits_within imm bits).end (cast_below v fits)
    ∙ own_bits imm bits (cast_unsigned w64 z) number 0 (omega arith) (λ m inside within.
    modulo_bits z n (bits_taken bits v) 0 m short same some most inside
    ∙ part_of_part number bits.start bits.end 0 m within)

-- a value's remainder is that of its number
pub rest_is : (v : ℤ) (k : ℕ) → FitsSigned w64 v → 0 < k → k ≤ 64
    → pos (cast_unsigned w64 v % 2 ^ k) ≡ int_rem_euclid v (pos (2 ^ k))
rest_is v k fits some most =
    let c = cast_unsigned w64 v in
    let width : k - 0 ≡ k = omega arith in
    let one : c / 2 ^ 0 ≡ c = omega arith in
    sym (ap (λ y. pos (y % 2 ^ (k - 0))) one ∙ ap (λ j. pos (c % 2 ^ j)) width)
    ∙ taken_is_field (record { start = 0; end = k }) v fits some most
    ∙ ap (λ y. int_rem_euclid y (pos (2 ^ (k - 0)))) (from_zero v)
    ∙ ap (λ j. int_rem_euclid v (pos (2 ^ j))) width
