-- What is read of an instruction of RISC-V after a write; and what a write keeps of it.
use Rattle.linker_reading.proofs.Imports.{BitRange, BitsWritten, Bool, Bounds, CluiType, FitsSigned, InstructionWritten, IsOfValue, List, RiscV, RiscVInstruction, UType, UiType, Written, [], aligned_rem, always_clear, ap, arith, bit_at, bits_held, bits_read, bits_taken, bits_within, byte_len, cast_unsigned, eqb-true, false, field, holds_bits, int_lt, is_instruction_bit, mod-add-mod, mod_mod, place_sum, place_sum_below, pos, refl, riscv_form, riscv_keeps, riscv_places, signed, sum_64, sym, taken_below, true, twos_complement, ui_high, ui_low, w64, window_of, ℕ, ℤ, ◌%◌, ◌*◌, ◌+◌, ◌-◌, ◌/◌, ◌<◌, ◌^◌, ◌∙◌, ◌≡◌, ◌≤◌}
use Rattle.linker_elf.proofs.RiscV.{u_laid, clui_laid, riscv_machine}
use Rattle.linker_reading.proofs.BitFields.{sum_bits, own_bits, low_bits_same, number_bits}
use Rattle.linker_reading.proofs.Numbers.{short}
use Rattle.linker_reading.proofs.WrittenImmediates.{plain_read, sum_fits, modulo_read}
use Rattle.linker_reading.proofs.WrittenBits.{outside}

-- ---- what is read

-- the rounding of a value, and of its bits
rounded_bits : (n e a m : ℕ) → m ≤ e → e ≤ 64
    → field ((field n 0 e + 0x800) % 2 ^ 64) a m ≡ field ((n + 0x800) % 2 ^ 64) a m
rounded_bits n e a m inside most =
    let one : n / 2 ^ 0 ≡ n = omega arith in
    let all : e - 0 ≡ e = omega arith in
    let low : field n 0 e ≡ n % 2 ^ e = ap (λ y. y % 2 ^ (e - 0)) one ∙ ap (λ k. n % 2 ^ k) all in
    low_bits_same ((field n 0 e + 0x800) % 2 ^ 64) ((n + 0x800) % 2 ^ 64) a m
    (mod_mod (field n 0 e + 0x800) 64 m (omega arith) ∙ ap (λ y. (y + 0x800) % 2 ^ m) low
    ∙ sym (mod-add-mod (n % 2 ^ e) (2 ^ m) 0x800)
    ∙ ap (λ y. (y + 0x800) % 2 ^ m) (mod_mod n e m inside) ∙ mod-add-mod n (2 ^ m) 0x800
    ∙ sym (mod_mod (n + 0x800) 64 m (omega arith)))

rounded_read : (k : ℕ) (bits : BitRange) (v : ℤ) (sum : ℕ)
    → bits.start ≡ 0 → bits.start < bits.end → bits.end ≤ 64 → 12 ≤ k → k ≤ 64
    → sum ≡ (bits_taken bits v + 0x800) % 2 ^ 64 / 2 ^ 12 % 2 ^ (k - 12) * 2 ^ 12
    → sum < 2 ^ k
    → field (sum_64 (cast_unsigned w64 v) 0x800)
    (bits_within (record { start = 12; end = k }) bits).start
    (bits_within (record { start = 12; end = k }) bits).end
    ≡ field (cast_unsigned w64 (signed k sum))
    ((bits_within (record { start = 12; end = k }) bits).start - bits.start)
    ((bits_within (record { start = 12; end = k }) bits).end - bits.start)
rounded_read k bits v sum first order inside long most is small =
    let imm : BitRange = record { start = 12; end = k } in
    let n = cast_unsigned w64 v in
    let whole = (bits_taken bits v + 0x800) % 2 ^ 64 in
    let taken : bits_taken bits v ≡ field n 0 bits.end = ap (λ s. field n s bits.end) first in
    own_bits imm bits (cast_unsigned w64 (signed k sum)) (sum_64 n 0x800) 0 (omega arith) (λ m short within.
    let start : bits.start + 12 ≡ 12 = omega arith in
    let end : bits.start + m ≡ m = omega arith in
    number_bits twos_complement k sum 12 m small most short
    ∙ ap (λ y. field y 12 m) (is ∙ sym (aligned_rem whole 12 k long))
    ∙ sum_bits whole 12 k 12 m (omega arith) short
    ∙ ap (λ y. field ((y + 0x800) % 2 ^ 64) 12 m) taken
    ∙ rounded_bits n bits.end 12 m (omega arith) inside
    ∙ sym (ap (λ a. field (sum_64 n 0x800) a (bits.start + m)) start
    ∙ ap (λ e. field (sum_64 n 0x800) 12 e) end))

pub riscv_read : (f : RiscVInstruction) (bits : BitRange) (reached : Bounds) (v : ℤ)
    (before after : List ℕ) → FitsSigned w64 v → bits.start < bits.end → bits.end ≤ 64
    → holds_bits (RiscV f) bits ≡ true → InstructionWritten (RiscV f) bits v before after
    → IsOfValue (bits_read (RiscV f) bits.start (bits_held (RiscV f) bits reached)
    (window_of (riscv_form f) after)) v
riscv_read UType bits reached v before after fits order inside holds w =
    let x = window_of (riscv_form UType) after in
    rounded_read 32 bits v (place_sum (riscv_places UType) x) (eqb-true bits.start 0 holds) order inside
    (omega arith) (omega arith) (u_laid (bits_taken bits v) w.clear x w.written)
    (place_sum_below (riscv_places UType) 32 x refl refl)
riscv_read CluiType bits reached v before after fits order inside holds w =
    let x = window_of (riscv_form CluiType) after in
    rounded_read 18 bits v (place_sum (riscv_places CluiType) x) (eqb-true bits.start 0 holds) order inside
    (omega arith) (omega arith) (clui_laid (bits_taken bits v) w.clear x w.written)
    (place_sum_below (riscv_places CluiType) 18 x refl refl)
riscv_read UiType bits reached v before after fits order inside holds w =
    let x = window_of (riscv_form UiType) after in
    let same = riscv_machine UiType (bits_taken bits v) (int_lt v (pos 0)) w.clear x
    (taken_below bits v inside) w.written
    (always_clear ((riscv_form UiType).places w.clear) w.clear refl) in
    modulo_read 32 bits v ((riscv_form UiType).machine x) fits order
    (sum_fits (signed 32 (place_sum ui_high x)) (signed 12 (place_sum ui_low x))
    (short 32 (place_sum ui_high x) (omega arith) (place_sum_below ui_high 32 x refl refl))
    (short 12 (place_sum ui_low x) (omega arith) (place_sum_below ui_low 12 x refl refl)))
    same (omega arith) (omega arith)
riscv_read f bits reached v before after fits order inside holds w =
    plain_read (RiscV f) refl refl bits v (int_lt v (pos 0)) w.clear (window_of (riscv_form f) after)
    (cast_unsigned w64 ((riscv_form f).machine (window_of (riscv_form f) after))) fits order inside
    w.written (always_clear ((riscv_form f).places w.clear) w.clear refl) refl

-- ---- bits of no field

pub riscv_outside : (f : RiscVInstruction) (bits : BitRange) (n x clear y w : ℕ) (neg : Bool)
    → is_instruction_bit (RiscV f) bits x w ≡ false → BitsWritten [] 0 x clear
    → Written (riscv_form f) n neg clear y → bit_at y w ≡ bit_at x w
riscv_outside UType bits n x clear y w neg ignored clears laid =
    outside (riscv_form UType) [] n x clear y w neg (riscv_keeps UType) clears laid refl ignored refl
riscv_outside f bits n x clear y w neg ignored clears laid =
    outside (riscv_form f) [] n x clear y w neg (riscv_keeps f) clears laid refl ignored refl

-- ---- its length

pub riscv_short : (f : RiscVInstruction) → byte_len (riscv_form f).window ≤ 8
riscv_short UType = omega arith
riscv_short f = omega arith
