-- What is read of an instruction of LoongArch after a write; and what a write keeps of it.
use Rattle.linker_reading.proofs.Imports.{BitMasking, BitRange, BitsWritten, Bool, Bounds, Call30, Call36, FitsSigned, HoldsBits, ImmediateBit, InstructionWritten, IsAligned, IsClear, IsOfValue, List, LoongArch64, LoongArch64Instruction, RelocationKind, Shift10, Shift5, Written, [], always_clear, ap, arith, bit_at, bit_at_mod_above, bits_held, bits_read, bits_taken, bits_within, byte_len, cases_lt, cast_unsigned, clear_after, consecutive_bits_sum, eqb, eqb-true, false, field, high_kept, holds_bits, if◌then◌else◌, immediate_of, inl, inr, int_lt, ints, is_instruction_bit, is_jirl, is_low_jump, is_placed, jirl_imm, jump_read, list_any-append, loongarch_form, loongarch_keeps, low_part, lt-ltb, ltb, max, mod_mod, nat_lt, neg_ℤ, one_field, or_bits_to, or_cases, ored, ored_cleared, pcaddu18i_imm, place_sum, place_sum_below, places_cleared, pos, refl, replaced, same_window, shift10_imm16, shift10_low, signed, signed_cases, subst, sums, sym, taken_below, true, twos_complement, unsigned_abs, w64, window_of, ℕ, ℤ, ⊎_elim, ◌%◌, ◌*◌, ◌+◌, ◌-◌, ◌/◌, ◌<ℤ◌, ◌<◌, ◌^◌, ◌||◌, ◌∙◌, ◌≡◌, ◌≤ℤ◌, ◌≤◌}
use Rattle.linker_elf.specs.declared.elf.RelocationKind.TheVariants as kinds
use Rattle.linker_elf.proofs.LoongArch.{loongarch_machine, shift10_low_sum, shift10_low_field}
use Rattle.linker_reading.proofs.Aligned.{cast_below}
use Rattle.linker_reading.proofs.BitFields.{layout_bits, part_of_part, own_bits, low_bits_same, number_bits}
use Rattle.linker_reading.proofs.Numbers.{short}
use Rattle.linker_elf.specs.Inner.Runs.{words_below}
use Rattle.linker_reading.proofs.WrittenImmediates.{unrounded, plain_read, moved_sum_fits, modulo_read, rest_is}
use Rattle.linker_reading.proofs.WrittenBits.{not_cleared, outside}

-- ---- what is read

-- an immediate of 16 bits, of which the upper four were cleared or are no bits of the value
shift10_bits : (bits : BitRange) (v : ℤ) (before after : List ℕ) → bits.end ≤ 64
    → bits.start < bits.end
    → (w : InstructionWritten (LoongArch64 Shift10) bits v before after)
    → (m : ℕ) → m ≤ 16 → bits.start + m ≤ bits.end
    → field (cast_unsigned w64 ((loongarch_form Shift10).machine
    (window_of (loongarch_form Shift10) after))) 0 m ≡ field (bits_taken bits v) 0 m
shift10_bits bits v before after inside order w m short within =
    let x = window_of (loongarch_form Shift10) after in
    let f = bits_taken bits v in
    let places = (loongarch_form Shift10).places x in
    let small = place_sum_below places 16 x refl refl in
    elim (cases_lt 12 (bits.end - bits.start)) [
      | inl wide ↦
          let cleared : IsClear ((loongarch_form Shift10).places w.clear) w.clear =
          clear_after ((loongarch_form Shift10).places (window_of (loongarch_form Shift10) before))
          (window_of (loongarch_form Shift10) before) w.clear
          ((rw (lt-ltb 12 (bits.end - bits.start) wide) at w.clears).placed) in
          layout_bits (one_field shift10_imm16) refl f (int_lt v (pos 0)) w.clear x
          (taken_below bits v inside) w.written cleared 0 m (omega arith) short (omega arith)
      | inr narrow ↦
          let low : place_sum shift10_low x ≡ f % 2 ^ 12 =
          sym (ap (λ y. y) refl) ∙ shift10_low_sum f w.clear x (taken_below bits v inside) w.written in
          let high_part : place_sum (or_bits_to 12 15 22) x ≡ x / 2 ^ 22 % 2 ^ 4 * 2 ^ 12 =
          consecutive_bits_sum ored 4 12 22 0 x refl in
          let both : place_sum places x ≡ place_sum shift10_low x + place_sum (or_bits_to 12 15 22) x =
          sums shift10_low (or_bits_to 12 15 22) x in
          let same : place_sum places x % 2 ^ 12 ≡ f % 2 ^ 12 = omega arith in
          number_bits twos_complement 16 (place_sum places x) 0 m small (omega arith) short
          ∙ low_bits_same (place_sum places x) f 0 m
          (sym (mod_mod (place_sum places x) 12 m (omega arith)) ∙ ap (λ y. y % 2 ^ m) same
          ∙ mod_mod f 12 m (omega arith))
    ]

pub loongarch_read : (f : LoongArch64Instruction) (bits : BitRange) (reached : Bounds) (v : ℤ)
    (before after : List ℕ) → FitsSigned w64 v → bits.start < bits.end → bits.end ≤ 64
    → holds_bits (LoongArch64 f) bits ≡ true
    → HoldsBits (BitMasking bits (LoongArch64 f)) v before
    → InstructionWritten (LoongArch64 f) bits v before after
    → IsOfValue (bits_read (LoongArch64 f) bits.start (bits_held (LoongArch64 f) bits reached)
    (window_of (loongarch_form f) after)) v
loongarch_read Call30 bits reached v before after fits order inside holds fit w = cc
loongarch_read Call36 bits reached v before after fits order inside holds fit w =
    let x = window_of (loongarch_form Call36) after in
    let same = loongarch_machine Call36 (bits_taken bits v) (int_lt v (pos 0)) w.clear x
    (taken_below bits v inside) fit w.written
    (always_clear ((loongarch_form Call36).places w.clear) w.clear refl) in
    let a = field x 5 25 in
    let h : a < 2 ^ 20 = omega arith in
    let c = field x 42 58 in
    let l : c < 2 ^ 16 = omega arith in
    let wide = short_20 a h in
    modulo_read 36 bits v ((loongarch_form Call36).machine x) fits order
    (moved_sum_fits (pcaddu18i_imm x) (jirl_imm x) wide.0 wide.1 (short 16 c (omega arith) l))
    same (omega arith) (omega arith)
  where
    short_20 : (f : ℕ) → f < 2 ^ 20
        → (neg_ℤ (pos (2 ^ 20)) ≤ℤ signed 20 f) × (signed 20 f <ℤ pos (2 ^ 20))
    short_20 f small =
        elim (signed_cases 20 f) [
          | inl a ↦ subst (λ z. (neg_ℤ (pos (2 ^ 20)) ≤ℤ z) × (z <ℤ pos (2 ^ 20))) (sym a.1) (omega (arith, ints), omega (arith, ints))
          | inr a ↦ subst (λ z. (neg_ℤ (pos (2 ^ 20)) ≤ℤ z) × (z <ℤ pos (2 ^ 20))) (sym a.1) (omega (arith, ints), omega (arith, ints))
        ]
loongarch_read Shift10 bits reached v before after fits order inside holds fit w =
    let x = window_of (loongarch_form Shift10) after in
    let n = cast_unsigned w64 v in
    let imm = immediate_of (LoongArch64 Shift10) in
    unrounded n (bits_within imm bits).start (bits_within imm bits).end (cast_below v fits)
    ∙ own_bits imm bits (cast_unsigned w64 ((loongarch_form Shift10).machine x)) n 0 (omega arith)
    (λ m few within. shift10_bits bits v before after inside order w m few within
    ∙ part_of_part n bits.start bits.end 0 m within)
loongarch_read f bits reached v before after fits order inside holds fit w =
    plain_read (LoongArch64 f) refl refl bits v (int_lt v (pos 0)) w.clear
    (window_of (loongarch_form f) after)
    (cast_unsigned w64 ((loongarch_form f).machine (window_of (loongarch_form f) after))) fits order
    inside w.written (always_clear ((loongarch_form f).places w.clear) w.clear refl) refl

-- where a `jirl` has the low part of an address
pub jump_value : (v : ℤ) (before after : List ℕ) → FitsSigned w64 v → IsAligned 4 v
    → InstructionWritten (LoongArch64 Shift10) (record { start = 2; end = 18 }) (low_part v) before
    after
    → IsOfValue (jump_read (window_of (loongarch_form Shift10) after)) v
jump_value v before after fits aligned w =
    let bits : BitRange = record { start = 2; end = 18 } in
    let c = cast_unsigned w64 v in
    let f = field c 0 12 in
    let d = cast_unsigned w64 (low_part v) in
    let g = bits_taken bits (low_part v) in
    let y = window_of (loongarch_form Shift10) after in
    let small : f < 2 ^ 12 = omega arith in
    let rest : c % 2 ^ 2 ≡ 0 =
    ap unsigned_abs (rest_is v 2 fits (omega arith) (omega arith) ∙ aligned) in
    let low : field d 2 12 ≡ field f 2 12 =
    number_bits twos_complement 12 f 2 12 small (omega arith) (omega arith) in
    let here : field y 10 22 ≡ g % 2 ^ 12 =
    sym (shift10_low_field y) ∙ shift10_low_sum g w.clear y (taken_below bits (low_part v) (omega arith)) w.written in
    unrounded c 0 12 (cast_below v fits) ∙ omega arith

-- ---- that a `jirl` stays

cleared_below : (wide : Bool) (x : ℕ)
    → words_below 26 (if wide then ored_cleared ((loongarch_form Shift10).places x) else []) ≡ true
cleared_below true x = refl
cleared_below false x = refl

jirl_kept : (bits : BitRange) (v : ℤ) (before after : List ℕ)
    → InstructionWritten (LoongArch64 Shift10) bits v before after
    → is_jirl (window_of (loongarch_form Shift10) after)
    ≡ is_jirl (window_of (loongarch_form Shift10) before)
jirl_kept bits v before after w =
    let x = window_of (loongarch_form Shift10) before in
    let y = window_of (loongarch_form Shift10) after in
    let high : y / 2 ^ 26 ≡ w.clear / 2 ^ 26 =
    high_kept ((loongarch_form Shift10).places x) (bits_taken bits v) w.clear y w.written 26 refl in
    let first : w.clear / 2 ^ 26 ≡ x / 2 ^ 26 =
    high_kept (places_cleared (LoongArch64 Shift10) bits x) 0 x w.clear w.clears 26
    (cleared_below (ltb 12 (bits.end - bits.start)) x) in
    ap (λ q. eqb (q % 2 ^ 6) 19) (high ∙ first)

pub low_jump_kept : (kind : RelocationKind) (bits : BitRange) (v : ℤ) (before after : List ℕ)
    → InstructionWritten (LoongArch64 Shift10) bits v before after
    → is_low_jump (LoongArch64 Shift10) kind (window_of (loongarch_form Shift10) after)
    ≡ is_low_jump (LoongArch64 Shift10) kind (window_of (loongarch_form Shift10) before)
low_jump_kept kinds.AbsoluteLowPart bits v before after w = jirl_kept bits v before after w
low_jump_kept kind bits v before after w = refl

-- ---- bits of no field

-- no place is only ORed or cleared first, by the test
either_cleared : (b : Bool) (ps : List ImmediateBit) (w : ℕ) → is_placed ps w ≡ false → is_placed (if b then ored_cleared ps else []) w ≡ false
either_cleared true ps w e = not_cleared ps w e
either_cleared false ps w e = refl

abbrev shift10_high : List ImmediateBit
shift10_high = or_bits_to 12 15 22

-- bits of the value that are 0 leave what they are ORed to
or_none : (taken old k : ℕ) → taken < 2 ^ 12 → 12 ≤ k → max old (bit_at ((taken + 0) % 2 ^ 64) k) ≡ old
or_none taken old k h l =
    let whole : (taken + 0) % 2 ^ 64 ≡ taken % 2 ^ 12 = omega arith in
    let none : bit_at ((taken + 0) % 2 ^ 64) k ≡ 0 = ap (λ n. bit_at n k) whole ∙ bit_at_mod_above taken 12 k l in
    ap (max old) none ∙ omega arith

shift10_narrow : (taken x clear y w : ℕ) (neg : Bool) → taken < 2 ^ 12 → is_placed shift10_low w ≡ false → BitsWritten [] 0 x clear
    → Written (loongarch_form Shift10) taken neg clear y → bit_at y w ≡ bit_at x w
shift10_narrow taken x clear y w neg h ignored clears laid =
    high (is_placed shift10_high w) refl
  where
    same : clear ≡ x
    same = same_window 0 x clear clears

    p : ImmediateBit
    p = record { value = 0; insn_bit = 0; added = 0; mark = replaced }

    kept_at : (k : ℕ) → bit_at y (10 + k) ≡ max (bit_at clear (10 + k)) (bit_at ((taken + 0) % 2 ^ 64) k) → 12 ≤ k → w ≡ 10 + k → bit_at y w ≡ bit_at x w
    kept_at k e l at = ap (bit_at y) at ∙ e ∙ or_none taken (bit_at clear (10 + k)) k h l ∙ ap (λ c. bit_at c (10 + k)) same ∙ ap (bit_at x) (sym at)

    high : (b : Bool) → is_placed shift10_high w ≡ b → bit_at y w ≡ bit_at x w
    high false e =
        outside (loongarch_form Shift10) [] taken x clear y w neg (loongarch_keeps Shift10) clears laid refl
        (list_any-append (λ (q : ImmediateBit). eqb q.insn_bit w) shift10_low shift10_high ∙ ap (λ b. b || is_placed shift10_high w) ignored ∙ e) refl
    high true e = ⊎_elim (λ a. kept_at 12 (laid.placed 12 p (omega arith)) (omega arith) (sym (eqb-true 22 w a)))
        (λ e. ⊎_elim (λ a. kept_at 13 (laid.placed 13 p (omega arith)) (omega arith) (sym (eqb-true 23 w a)))
        (λ e. ⊎_elim (λ a. kept_at 14 (laid.placed 14 p (omega arith)) (omega arith) (sym (eqb-true 24 w a)))
        (λ e. ⊎_elim (λ a. kept_at 15 (laid.placed 15 p (omega arith)) (omega arith) (sym (eqb-true 25 w a)))
        (λ e. cc)
        (or_cases (eqb 25 w) false e)) (or_cases (eqb 24 w) (eqb 25 w || false) e))
        (or_cases (eqb 23 w) (eqb 24 w || (eqb 25 w || false)) e)) (or_cases (eqb 22 w) (eqb 23 w || (eqb 24 w || (eqb 25 w || false))) e)

shift10_outside : (wide : Bool) (bits : BitRange) (taken x clear y w : ℕ) (neg : Bool) → (wide ≡ false → taken < 2 ^ 12)
    → (if wide then is_placed ((loongarch_form Shift10).places x) w else is_placed shift10_low w) ≡ false
    → BitsWritten (if wide then ored_cleared ((loongarch_form Shift10).places x) else []) 0 x clear
    → Written (loongarch_form Shift10) taken neg clear y → bit_at y w ≡ bit_at x w
shift10_outside true bits taken x clear y w neg h ignored clears laid =
    outside (loongarch_form Shift10) (ored_cleared ((loongarch_form Shift10).places x)) taken x clear y w neg (loongarch_keeps Shift10) clears laid
    (not_cleared ((loongarch_form Shift10).places x) w ignored) ignored refl
shift10_outside false bits taken x clear y w neg h ignored clears laid = shift10_narrow taken x clear y w neg (h refl) ignored clears laid

pub loongarch_outside : (f : LoongArch64Instruction) (bits : BitRange) (taken x clear y w : ℕ) (neg : Bool)
    → (nat_lt 12 (bits.end - bits.start) ≡ false → taken < 2 ^ 12)
    → is_instruction_bit (LoongArch64 f) bits x w ≡ false → BitsWritten (places_cleared (LoongArch64 f) bits x) 0 x clear
    → Written (loongarch_form f) taken neg clear y → bit_at y w ≡ bit_at x w
loongarch_outside Shift10 bits taken x clear y w neg h ignored clears laid =
    shift10_outside (nat_lt 12 (bits.end - bits.start)) bits taken x clear y w neg h ignored clears laid
loongarch_outside f bits taken x clear y w neg h ignored clears laid =
    outside (loongarch_form f) (places_cleared (LoongArch64 f) bits x) taken x clear y w neg (loongarch_keeps f) clears laid
    (either_cleared (nat_lt 12 (bits.end - bits.start)) ((loongarch_form f).places x) w ignored) ignored refl

-- ---- its length

pub loongarch_short : (f : LoongArch64Instruction) → byte_len (loongarch_form f).window ≤ 8
loongarch_short Shift5 = omega arith
loongarch_short f = omega arith
