-- What is read of an instruction of AArch64 after a write; and what a write keeps of it.
use Rattle.linker_reading.proofs.Imports.{AArch64, AArch64Instruction, BitRange, BitsWritten, Bool, Bounds, FitsSigned, InstructionWritten, IsClear, IsOfValue, IsWithin, List, MachOLow12, Movkz, Movnz, None, Some, Written, [], aarch64_form, aarch64_keeps, aarch64_layout, access_scale, always_clear, and_parts, ap, are_signed, arith, bit_at, bit_at-lt, bit_at_cat_high, bit_at_cat_low, bit_bounds, bits_from, bits_held, bits_read, bits_taken, byte_len, cases_lt, cast_unsigned, clear_after, consecutive_bits_sum, eqb, eqb-true, false, field, high_kept, holds_bits, if◌then◌else◌, imm16_places, int_lt, int_rem_euclid, ints, is_32_bit_move, is_instruction_bit, is_movk, is_placed, is_sound_layout, le-ltb, le_yes, lt-ltb, ltb, ltb-true, mod_below, move_opcode, moved_bits, moved_value, movnz, nat_lt, neg_ℤ, negsuc, none_ored, not, or_first, or_second, ored_cleared, place_sum, place_sum_laid, places_cleared, pos, pow_pos, quotient_high, quotient_low, refl, replaced, same_window, subst, suc, sum_64, sym, taken_is_field, true, unsigned_abs, w64, window_of, with_bit_31_if, zero, ℕ, ℤ, ⊎_elim, ◌%◌, ◌&&◌, ◌*◌, ◌+◌, ◌-◌, ◌/◌, ◌<ℤ◌, ◌<◌, ◌^◌, ◌||◌, ◌∙◌, ◌≡◌, ◌≤ℤ◌, ◌≤◌}
use Rattle.std.specs.Int.Signed.{le_z}
use Rattle.linker_elf.specs.declared.elf.Sign.TheVariants.{Signed}
use Rattle.linker_reading.proofs.Aligned.{cast_below}
use Rattle.linker_reading.proofs.WrittenImmediates.{unrounded, plain_read}
use Rattle.linker_reading.proofs.WrittenBits.{not_cleared, outside}
use Rattle.linker_elf.proofs.RowsAgree.{sign_of_quotient}

-- ---- what is read

aarch64_clear : (f : AArch64Instruction) → is_sound_layout (aarch64_layout f) ≡ true
    → (bits : BitRange) (v : ℤ) (before after : List ℕ)
    → (w : InstructionWritten (AArch64 f) bits v before after)
    → IsClear ((aarch64_form f).places w.clear) w.clear
aarch64_clear MachOLow12 sound bits v before after w = cc
aarch64_clear f sound bits v before after w =
    clear_after ((aarch64_form f).places (window_of (aarch64_form f) before))
    (window_of (aarch64_form f) before) w.clear w.clears.placed

aarch64_written : (f : AArch64Instruction) → is_sound_layout (aarch64_layout f) ≡ true
    → (bits : BitRange) (v : ℤ) (before after : List ℕ)
    → (w : InstructionWritten (AArch64 f) bits v before after)
    → Written (aarch64_form f) (bits_taken bits v) (int_lt v (pos 0)) w.clear
    (window_of (aarch64_form f) after)
aarch64_written Movnz sound bits v before after w = cc
aarch64_written f sound bits v before after w = w.written

-- ---- MOVN and MOVZ

-- what was written of f, by the sign
move_written : (neg narrow : Bool) (f clear x : ℕ)
    → Written movnz f neg clear (with_bit_31_if narrow x)
    → movnz.reading x ≡ moved_value neg (moved_bits neg f) 0
move_written neg narrow f clear x laid =
    let y = with_bit_31_if narrow x in
    let base = move_opcode neg * 2 ^ 23 + clear % 2 ^ 23 in
    let of_x : place_sum imm16_places x ≡ x / 2 ^ 5 % 2 ^ 16 * 2 ^ 0 =
    consecutive_bits_sum replaced 16 0 5 0 x refl in
    let of_y : place_sum imm16_places y ≡ y / 2 ^ 5 % 2 ^ 16 * 2 ^ 0 =
    consecutive_bits_sum replaced 16 0 5 0 y refl in
    let stands : place_sum imm16_places y ≡ (moved_bits neg f + 0) % 2 ^ 64 / 2 ^ 0 % 2 ^ (16 - 0) * 2 ^ 0 =
    place_sum_laid 0 16 0 imm16_places (moved_bits neg f) base y (omega arith) refl refl laid
    (always_clear imm16_places base refl) in
    let few = moved_small neg f in
    let low = low_kept narrow x in
    let sum : place_sum imm16_places x ≡ moved_bits neg f = omega arith in
    let sign : bit_at y 30 ≡ bit_at base 30 = laid.kept 30 refl in
    let same : eqb (bit_at x 30) 0 ≡ neg = sign_is neg (clear % 2 ^ 23) (bit_at x 30) (mod_below clear (2 ^ 23) (omega arith)) (bit_kept narrow x ∙ sign) in
    ap (λ t. moved_value t (place_sum imm16_places x) 0) same
    ∙ ap (λ n. moved_value neg n 0) sum
  where
    moved_small : (neg : Bool) (f : ℕ) → moved_bits neg f < 2 ^ 16
    moved_small true f = omega arith
    moved_small false f = omega arith

    low_kept : (narrow : Bool) (x : ℕ)
        → with_bit_31_if narrow x / 2 ^ 5 % 2 ^ 16 ≡ x / 2 ^ 5 % 2 ^ 16
    low_kept true x = omega arith
    low_kept false x = refl

    bit_kept : (narrow : Bool) (x : ℕ) → bit_at x 30 ≡ bit_at (with_bit_31_if narrow x) 30
    bit_kept true x = omega arith
    bit_kept false x = refl

    sign_is : (neg : Bool) (r b : ℕ) → r < 2 ^ 23 → b ≡ bit_at (move_opcode neg * 2 ^ 23 + r) 30
        → eqb b 0 ≡ neg
    sign_is true r b small e = let zero : b ≡ 0 = omega arith in ap (λ y. eqb y 0) zero
    sign_is false r b small e = let one : b ≡ 1 = omega arith in ap (λ y. eqb y 0) one

-- its 16 bits, and 17 with the sign
move_bits : (neg : Bool) (f : ℕ) → f < 2 ^ 16
    → field (cast_unsigned w64 (moved_value neg (moved_bits neg f) 0)) 0 16 ≡ f
move_bits true f small = omega arith
move_bits false f small = omega arith

abbrev with_sign : Bool → ℕ → ℕ
with_sign true f = f + 65536
with_sign false f = f

move_and_sign : (neg : Bool) (f : ℕ) → f < 2 ^ 16
    → field (cast_unsigned w64 (moved_value neg (moved_bits neg f) 0)) 0 17 ≡ with_sign neg f
move_and_sign true f small = omega arith
move_and_sign false f small = omega arith

not_negative : (n : ℕ) → int_lt (pos n) (pos 0) ≡ false
not_negative n = le-ltb n 0 (let h : 0 ≤ n = omega arith in h)

-- of a value of 17 signed bits from bit s up
signed_bits_17 : (v q : ℤ) (f g : ℕ) → neg_ℤ (pos (2 ^ 16)) ≤ℤ q → q <ℤ pos (2 ^ 16)
    → int_lt v (pos 0) ≡ int_lt q (pos 0)
    → pos f ≡ int_rem_euclid q (pos (2 ^ 16)) → pos g ≡ int_rem_euclid q (pos (2 ^ 17))
    → g ≡ with_sign (int_lt v (pos 0)) f
signed_bits_17 v (pos b) f g low high sign is all =
    let small : b < 2 ^ 16 = omega (arith, ints, high) in
    let x : f ≡ b % 2 ^ 16 = ap unsigned_abs is in
    let y : g ≡ b % 2 ^ 17 = ap unsigned_abs all in
    (let same : g ≡ f = omega arith in same)
    ∙ sym (ap (λ t. with_sign t f) (sign ∙ not_negative b))
signed_bits_17 v (negsuc b) f g low high sign is all =
    let small : b < 2 ^ 16 = omega (arith, ints, low) in
    let x : f ≡ 2 ^ 16 - 1 - b % 2 ^ 16 = ap unsigned_abs is in
    let y : g ≡ 2 ^ 17 - 1 - b % 2 ^ 17 = ap unsigned_abs all in
    (let same : g ≡ f + 65536 = omega arith in same) ∙ sym (ap (λ t. with_sign t f) sign)

-- the values that are so short
short_values : (e : ℕ) (reached : Bounds) (v : ℤ) → are_signed (e + 1) reached ≡ true
    → IsWithin reached v → (neg_ℤ (pos (2 ^ e)) ≤ℤ v) × (v <ℤ pos (2 ^ e))
short_values e None v h within = cc
short_values e (Some b) v h within =
    let parts = and_parts (le_z (bit_bounds (e + 1) Signed).0 b.0)
    (le_z b.1 (bit_bounds (e + 1) Signed).1) h in
    let low = le_yes (bit_bounds (e + 1) Signed).0 b.0 parts.0 in
    let high = le_yes b.1 (bit_bounds (e + 1) Signed).1 parts.1 in
    let size : e + 1 - 1 ≡ e = omega arith in
    subst (λ k. (neg_ℤ (pos (2 ^ k)) ≤ℤ v) × (v <ℤ pos (2 ^ k))) size
    (omega (arith, ints, within.0, low), omega (arith, ints, within.1, high))

move_read : (longer : Bool) (bits : BitRange) (reached : Bounds) (v : ℤ) (number : ℕ)
    → FitsSigned w64 v → bits.end ≡ bits.start + 16 → bits.end ≤ 64
    → (longer ≡ true → (bits.end < 49) × (are_signed (bits.end + 1) reached ≡ true))
    → IsWithin reached v
    → number ≡ cast_unsigned w64 (moved_value (int_lt v (pos 0))
    (moved_bits (int_lt v (pos 0)) (bits_taken bits v)) 0)
    → field (sum_64 (cast_unsigned w64 v) 0)
    (if longer then record { start = bits.start; end = bits.end + 1 } else bits).start
    (if longer then record { start = bits.start; end = bits.end + 1 } else bits).end
    ≡ field number
    ((if longer then record { start = bits.start; end = bits.end + 1 } else bits).start - bits.start)
    ((if longer then record { start = bits.start; end = bits.end + 1 } else bits).end - bits.start)
move_read false bits reached v number fits size inside h within is =
    let n = cast_unsigned w64 v in
    let f = bits_taken bits v in
    let width : bits.end - bits.start ≡ 16 = omega arith in
    let none : bits.start - bits.start ≡ 0 = omega arith in
    let small : f < 2 ^ 16 =
    subst (λ k. f < 2 ^ k) width (mod_below (n / 2 ^ bits.start) (2 ^ (bits.end - bits.start)) (pow_pos (bits.end - bits.start))) in
    unrounded n bits.start bits.end (cast_below v fits)
    ∙ sym (ap (λ y. field y (bits.start - bits.start) (bits.end - bits.start)) is
    ∙ ap (λ a. field (cast_unsigned w64 (moved_value (int_lt v (pos 0)) (moved_bits (int_lt v (pos 0)) f) 0)) a (bits.end - bits.start)) none
    ∙ ap (λ k. field (cast_unsigned w64 (moved_value (int_lt v (pos 0)) (moved_bits (int_lt v (pos 0)) f) 0)) 0 k) width
    ∙ move_bits (int_lt v (pos 0)) f small)
move_read true bits reached v number fits size inside h within is =
    let n = cast_unsigned w64 v in
    let f = bits_taken bits v in
    let s = bits.start in
    let neg = int_lt v (pos 0) in
    let both = h refl in
    let below = both.0 in
    let width : bits.end - s ≡ 16 = omega arith in
    let wide : bits.end + 1 - s ≡ 17 = omega arith in
    let none : s - s ≡ 0 = omega arith in
    let small : f < 2 ^ 16 =
    subst (λ k. f < 2 ^ k) width (mod_below (n / 2 ^ s) (2 ^ (bits.end - s)) (pow_pos (bits.end - s))) in
    let all : BitRange = record { start = s; end = bits.end + 1 } in
    let values = short_values bits.end reached v both.1 within in
    let e : bits.end ≡ 16 + s = omega arith in
    let low = quotient_low v 16 s (subst (λ k. neg_ℤ (pos (2 ^ k)) ≤ℤ v) e values.0) in
    let high = quotient_high v 16 s (subst (λ k. v <ℤ pos (2 ^ k)) e values.1) in
    let own : pos f ≡ int_rem_euclid (bits_from s v) (pos (2 ^ 16)) =
    taken_is_field bits v fits (omega arith) inside
    ∙ ap (λ k. int_rem_euclid (bits_from s v) (pos (2 ^ k))) width in
    let more : pos (field n s (bits.end + 1)) ≡ int_rem_euclid (bits_from s v) (pos (2 ^ 17)) =
    taken_is_field all v fits (omega arith) (omega arith)
    ∙ ap (λ k. int_rem_euclid (bits_from s v) (pos (2 ^ k))) wide in
    unrounded n s (bits.end + 1) (cast_below v fits)
    ∙ signed_bits_17 v (bits_from s v) f (field n s (bits.end + 1)) low high (sign_of_quotient v s) own more
    ∙ sym (ap (λ y. field y (s - s) (bits.end + 1 - s)) is
    ∙ ap (λ a. field (cast_unsigned w64 (moved_value neg (moved_bits neg f) 0)) a (bits.end + 1 - s)) none
    ∙ ap (λ k. field (cast_unsigned w64 (moved_value neg (moved_bits neg f) 0)) 0 k) wide
    ∙ move_and_sign neg f small)

pub aarch64_read : (f : AArch64Instruction) (bits : BitRange) (reached : Bounds) (v : ℤ)
    (before after : List ℕ) → FitsSigned w64 v → bits.start < bits.end → bits.end ≤ 64
    → holds_bits (AArch64 f) bits ≡ true → IsWithin reached v
    → InstructionWritten (AArch64 f) bits v before after
    → IsOfValue (bits_read (AArch64 f) bits.start (bits_held (AArch64 f) bits reached)
    (window_of (aarch64_form f) after)) v
aarch64_read Movnz bits reached v before after fits order inside holds within w =
    let x = window_of (aarch64_form Movnz) after in
    let neg = int_lt v (pos 0) in
    move_read (ltb bits.end 49 && are_signed (bits.end + 1) reached) bits reached v
    (cast_unsigned w64 (movnz.reading x)) fits (eqb-true bits.end (bits.start + 16) holds) inside
    (λ both. let parts = and_parts (ltb bits.end 49) (are_signed (bits.end + 1) reached) both in
    (ltb-true bits.end 49 parts.0, parts.1))
    within
    (ap (cast_unsigned w64) (move_written neg (eqb (bit_at (window_of (aarch64_form Movnz) before) 31) 0)
    (bits_taken bits v) w.clear x w.written))
aarch64_read MachOLow12 bits reached v before after fits order inside holds within w = cc
aarch64_read f bits reached v before after fits order inside holds within w =
    plain_read (AArch64 f) refl refl bits v (int_lt v (pos 0)) w.clear (window_of (aarch64_form f) after)
    (cast_unsigned w64 ((aarch64_form f).machine (window_of (aarch64_form f) after))) fits order inside
    (aarch64_written f refl bits v before after w) (aarch64_clear f refl bits v before after w) refl

-- ---- that a MOVK stays, and what is no MOVK

pub movk_kept : (bits : BitRange) (v : ℤ) (before after : List ℕ)
    → InstructionWritten (AArch64 Movkz) bits v before after
    → is_movk (window_of (aarch64_form Movkz) after) ≡ is_movk (window_of (aarch64_form Movkz) before)
movk_kept bits v before after w =
    let x = window_of (aarch64_form Movkz) before in
    let y = window_of (aarch64_form Movkz) after in
    let places = (aarch64_form Movkz).places x in
    let high : y / 2 ^ 21 ≡ w.clear / 2 ^ 21 =
    high_kept places (bits_taken bits v) w.clear y w.written 21 refl in
    let first : w.clear / 2 ^ 21 ≡ x / 2 ^ 21 =
    high_kept (ored_cleared places) 0 x w.clear w.clears 21 refl in
    let same : field y 23 31 ≡ field x 23 31 = omega arith in
    ap (λ o. eqb o 0xe5) same

-- MOVN or MOVZ is no MOVK
pub no_movk_after : (bits : BitRange) (v : ℤ) (before after : List ℕ)
    → InstructionWritten (AArch64 Movnz) bits v before after
    → is_movk (window_of (aarch64_form Movnz) after) ≡ false
no_movk_after bits v before after w =
    let x = window_of (aarch64_form Movnz) before in
    let y = window_of (aarch64_form Movnz) after in
    let neg = int_lt v (pos 0) in
    let narrow = is_32_bit_move (AArch64 Movnz) x in
    let base = move_opcode neg * 2 ^ 23 + w.clear % 2 ^ 23 in
    let high : with_bit_31_if narrow y / 2 ^ 21 ≡ base / 2 ^ 21 =
    high_kept imm16_places (moved_bits neg (bits_taken bits v)) base (with_bit_31_if narrow y) w.written 21
    refl in
    by_move neg narrow y (w.clear % 2 ^ 23) (omega arith) high
  where
    by_move : (neg narrow : Bool) (y r : ℕ) → r < 2 ^ 23
        → with_bit_31_if narrow y / 2 ^ 21 ≡ (move_opcode neg * 2 ^ 23 + r) / 2 ^ 21
        → is_movk y ≡ false
    by_move true true y r small e =
        let is : field y 23 31 ≡ 0x25 = omega arith in ap (λ o. eqb o 0xe5) is
    by_move true false y r small e =
        let is : field y 23 31 ≡ 0x25 = omega arith in ap (λ o. eqb o 0xe5) is
    by_move false true y r small e =
        let is : field y 23 31 ≡ 0xa5 = omega arith in ap (λ o. eqb o 0xe5) is
    by_move false false y r small e =
        let is : field y 23 31 ≡ 0xa5 = omega arith in ap (λ o. eqb o 0xe5) is

-- ---- bits of no field

-- an opcode from bit 23 up, of which bit 31 is 1
opcode_top : (neg : Bool) (r : ℕ) → r < 2 ^ 23 → bit_at (move_opcode neg * 2 ^ 23 + r) 31 ≡ 1
opcode_top true r h = bit_at_cat_high 0x125 23 r 31 h (omega arith)
opcode_top false r h = bit_at_cat_high 0x1a5 23 r 31 h (omega arith)

low_kept : (narrow : Bool) (y w : ℕ) → w < 31 → bit_at (with_bit_31_if narrow y) w ≡ bit_at y w
low_kept true y w h = ap (λ n. bit_at n w) (let e : y + 2 ^ 31 ≡ 1 * 2 ^ 31 + y = omega arith in e) ∙ bit_at_cat_low 1 31 y w h
low_kept false y w h = refl

top_is : (b : ℕ) (y : ℕ) → b < 2 → bit_at (with_bit_31_if (eqb b 0) y) 31 ≡ 1 → bit_at y 31 ≡ b
top_is zero y h e = omega arith
top_is (suc zero) y h e = e
top_is (suc (suc b)) y h e = absurd (omega arith)

move_outside : (n x clear y w : ℕ) (neg : Bool) → w < 32
    → (is_placed ((aarch64_form Movnz).places x) w || nat_lt 22 w && nat_lt w 31) ≡ false
    → BitsWritten [] 0 x clear → Written (aarch64_form Movnz) n neg clear (with_bit_31_if (eqb (bit_at x 31) 0) y) → bit_at y w ≡ bit_at x w
move_outside n x clear y w neg h ignored clears laid =
    ⊎_elim
    (λ below. sym (low_kept (eqb (bit_at x 31) 0) y w (omega arith))
    ∙ outside (aarch64_form Movnz) [] n x clear (with_bit_31_if (eqb (bit_at x 31) 0) y) w neg (aarch64_keeps Movnz) clears laid refl free
    (ap not (lt-ltb w 23 below)))
    (λ above. ⊎_elim (λ inside. absurd (opcode_bit above inside)) (λ top.
    let last : w ≡ 31 = omega arith in
    ap (bit_at y) last
    ∙ top_is (bit_at x 31) y (bit_at-lt x 31) (laid.kept 31 refl ∙ opcode_top neg (clear % 2 ^ 23) (mod_below clear (2 ^ 23) (omega arith)))
    ∙ ap (bit_at x) (sym last)) (cases_lt w 31))
    (cases_lt w 23)
  where
    free : is_placed ((aarch64_form Movnz).places x) w ≡ false
    free = or_first (is_placed ((aarch64_form Movnz).places x) w) (nat_lt 22 w && nat_lt w 31) ignored

    opcode_bit : 23 ≤ w → w < 31 → ⊥
    opcode_bit above inside =
        let set : (nat_lt 22 w && nat_lt w 31) ≡ true =
        ap (λ b. b && nat_lt w 31) (lt-ltb 22 w (omega arith)) ∙ lt-ltb w 31 inside in
        let clear_bit : (nat_lt 22 w && nat_lt w 31) ≡ false = or_second (is_placed ((aarch64_form Movnz).places x) w) (nat_lt 22 w && nat_lt w 31) ignored in
        cc

pub aarch64_outside : (f : AArch64Instruction) (bits : BitRange) (n x clear y w : ℕ) (neg : Bool) → w < 32
    → is_instruction_bit (AArch64 f) bits x w ≡ false
    → BitsWritten (places_cleared (AArch64 f) bits x) 0 x clear
    → Written (aarch64_form f) n neg clear (with_bit_31_if (is_32_bit_move (AArch64 f) x) y) → bit_at y w ≡ bit_at x w
aarch64_outside Movnz bits n x clear y w neg h ignored clears laid = move_outside n x clear y w neg h ignored clears laid
aarch64_outside MachOLow12 bits n x clear y w neg h ignored clears laid =
    let s = access_scale x in
    let none : BitsWritten [] 0 x clear = subst (λ ps. BitsWritten ps 0 x clear) (none_ored (s + 11 + 1 - s) s 10 0) clears in
    let same : clear ≡ x = same_window 0 x clear none in
    outside (aarch64_form MachOLow12) [] n x clear y w neg (aarch64_keeps MachOLow12) none laid refl
    (ap (λ c. is_placed ((aarch64_form MachOLow12).places c) w) same ∙ ignored) refl
aarch64_outside f bits n x clear y w neg h ignored clears laid =
    outside (aarch64_form f) (ored_cleared ((aarch64_form f).places x)) n x clear y w neg (aarch64_keeps f) clears laid
    (not_cleared ((aarch64_form f).places x) w ignored) ignored refl

-- ---- its length

pub aarch64_word : (f : AArch64Instruction) → byte_len (aarch64_form f).window ≡ 4
aarch64_word Movnz = refl
aarch64_word f = refl
