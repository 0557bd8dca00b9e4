-- What is read of an instruction of PowerPC64 after a write; and what a write keeps of it.
use Rattle.linker_reading.proofs.Imports.{BitMasking, BitRange, BitsWritten, Bool, Bounds, D, Ds, FitsSigned, InstructionWritten, IsInUnits, IsOfValue, List, Ppc64, Ppc64Form, Written, [], always_clear, ap, arith, bit_at, bit_at_mod, bits_held, bits_read, bits_taken, byte_len, cases_lt, cast_unsigned, eqb-true, false, holds_bits, if◌then◌else◌, int_lt, is_dq_form, is_instruction_bit, is_placed, le-ltb, nat_lt, not, number_placed, pos, ppc64_form, ppc64_keeps, ppc64_reads, refl, replaced, suc, sym, taken_below, taken_in_units, true, w64, window_of, with_low_4, zero, ℕ, ℤ, ⊎_elim, ◌%◌, ◌&&◌, ◌+◌, ◌<◌, ◌^◌, ◌∙◌, ◌≡◌, ◌≤◌}
use Rattle.linker_elf.proofs.Placed.{reads_as}
use Rattle.linker_reading.proofs.WrittenImmediates.{plain_read}
use Rattle.linker_reading.proofs.WrittenBits.{outside}

-- ---- what is read

pub ppc64_read : (f : Ppc64Form) (bits : BitRange) (reached : Bounds) (v : ℤ)
    (before after : List ℕ) → FitsSigned w64 v → bits.start < bits.end → bits.end ≤ 64
    → holds_bits (Ppc64 f) bits ≡ true → IsInUnits (BitMasking bits (Ppc64 f)) v before
    → InstructionWritten (Ppc64 f) bits v before after
    → IsOfValue (bits_read (Ppc64 f) bits.start (bits_held (Ppc64 f) bits reached)
    (window_of (ppc64_form f) after)) v
ppc64_read Ds bits reached v before after fits order inside holds units w =
    let start = eqb-true bits.start 0 holds in
    let x = window_of (ppc64_form Ds) after in
    let r = reads_as (bits_taken bits v) (window_of (ppc64_form Ds) before) w.clear x
    (int_lt v (pos 0)) (taken_below bits v inside)
    (λ is. taken_in_units bits v fits start inside order (units is)) w.clears w.written in
    plain_read (Ppc64 Ds) refl refl bits v (int_lt v (pos 0)) r.old r.window
    (cast_unsigned w64 (ppc64_reads Ds x)) fits order inside r.written
    (always_clear ((ppc64_form Ds).places r.old) r.old refl) (ap (cast_unsigned w64) r.reads)
ppc64_read D bits reached v before after fits order inside holds units w =
    plain_read (Ppc64 D) refl refl bits v (int_lt v (pos 0)) w.clear (window_of (ppc64_form D) after)
    (cast_unsigned w64 ((ppc64_form D).machine (window_of (ppc64_form D) after))) fits order inside
    w.written (always_clear ((ppc64_form D).places w.clear) w.clear refl) refl
ppc64_read f bits reached v before after fits order inside holds units w =
    plain_read (Ppc64 f) refl refl bits v (int_lt v (pos 0)) w.clear (window_of (ppc64_form f) after)
    (cast_unsigned w64 ((ppc64_form f).machine (window_of (ppc64_form f) after))) fits order inside
    w.written (always_clear ((ppc64_form f).places w.clear) w.clear refl) refl

-- ---- bits of no field

and_true : (b : Bool) → (b && true) ≡ b
and_true true = refl
and_true false = refl

-- bits 2 and 3 are those of the number, and so the old ones
low_bit_kept : (taken x k : ℕ) → taken < 2 ^ 64 → k < 4 → bit_at ((with_low_4 taken x + 0) % 2 ^ 64) k ≡ bit_at x k
low_bit_kept taken x k h l =
    let whole : (with_low_4 taken x + 0) % 2 ^ 64 ≡ with_low_4 taken x = omega arith in
    let low : with_low_4 taken x % 2 ^ 4 ≡ x % 2 ^ 4 = omega arith in
    ap (λ n. bit_at n k) whole ∙ sym (bit_at_mod (with_low_4 taken x) 4 k l) ∙ ap (λ n. bit_at n k) low ∙ bit_at_mod x 4 k l

ds_outside : (b : Bool) (taken x clear y w : ℕ) (neg : Bool) → taken < 2 ^ 64
    → (is_placed ((ppc64_form Ds).places x) w && not (b && nat_lt w 4)) ≡ false → BitsWritten [] 0 x clear
    → Written (ppc64_form Ds) (if b then with_low_4 taken x else taken) neg clear y → bit_at y w ≡ bit_at x w
ds_outside false taken x clear y w neg h ignored clears laid =
    outside (ppc64_form Ds) [] taken x clear y w neg (ppc64_keeps Ds) clears laid refl
    (sym (and_true (is_placed ((ppc64_form Ds).places x) w)) ∙ ignored) refl
ds_outside true taken x clear y w neg h ignored clears laid =
    ⊎_elim (λ low. by_low w low ignored) (λ high.
    outside (ppc64_form Ds) [] (with_low_4 taken x) x clear y w neg (ppc64_keeps Ds) clears laid refl
    (sym (and_true (is_placed ((ppc64_form Ds).places x) w))
    ∙ ap (λ t. is_placed ((ppc64_form Ds).places x) w && not (true && t)) (sym (le-ltb w 4 high)) ∙ ignored) refl)
    (cases_lt w 4)
  where
    by_low : (w : ℕ) → w < 4 → (is_placed ((ppc64_form Ds).places x) w && not (true && nat_lt w 4)) ≡ false → bit_at y w ≡ bit_at x w
    by_low zero l e = outside (ppc64_form Ds) [] (with_low_4 taken x) x clear y 0 neg (ppc64_keeps Ds) clears laid refl refl refl
    by_low (suc zero) l e = outside (ppc64_form Ds) [] (with_low_4 taken x) x clear y 1 neg (ppc64_keeps Ds) clears laid refl refl refl
    by_low (suc (suc zero)) l e = laid.placed 0 (record { value = 2; insn_bit = 2; added = 0; mark = replaced }) (omega arith) ∙ low_bit_kept taken x 2 h l
    by_low (suc (suc (suc zero))) l e = laid.placed 1 (record { value = 2; insn_bit = 2; added = 0; mark = replaced }) (omega arith) ∙ low_bit_kept taken x 3 h l
    by_low (suc (suc (suc (suc w)))) l e = absurd (omega arith)

pub ppc64_outside : (f : Ppc64Form) (bits : BitRange) (taken x clear y w : ℕ) (neg : Bool) → taken < 2 ^ 64
    → is_instruction_bit (Ppc64 f) bits x w ≡ false → BitsWritten [] 0 x clear
    → Written (ppc64_form f) (number_placed (Ppc64 f) x taken) neg clear y → bit_at y w ≡ bit_at x w
ppc64_outside Ds bits taken x clear y w neg h ignored clears laid = ds_outside (is_dq_form x) taken x clear y w neg h ignored clears laid
ppc64_outside f bits taken x clear y w neg h ignored clears laid =
    outside (ppc64_form f) [] taken x clear y w neg (ppc64_keeps f) clears laid refl ignored refl

-- ---- its length

pub ppc64_short : (f : Ppc64Form) → byte_len (ppc64_form f).window ≤ 8
ppc64_short D = omega arith
ppc64_short f = omega arith
