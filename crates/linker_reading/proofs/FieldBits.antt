-- The masks of fields have the bits that a write of a row may change.
use Rattle.linker_reading.proofs.Imports.{AArch64, AbsoluteAdditionWord6, AbsoluteSetWord6, AbsoluteSubtractionWord6, AnyForm, BitMasking, BitRange, Bool, ByteSize, List, LoongArch64, Ppc64, RelocationKind, RiscV, RowInfo, RowSize, agree_below, agree_below_at, ap, arith, bit_and, bit_at, bits_at, bytes_mask, cases_lt, field_mask, insn_at, instruction_mask, is_field_bit, is_instruction_bit, is_size_bit, is_value_bit, lt-ltb, min, nat_lt, number_mask, refl, relocation_form, size_mask, sym, true, window_of, ℕ, ⊎_elim, ◌&&◌, ◌*◌, ◌-◌, ◌<◌, ◌==◌, ◌^◌, ◌∙◌, ◌≡◌, ◌≤◌}
use Rattle.linker_reading.proofs.AArch64FieldBits.{aarch64_agrees}
use Rattle.linker_reading.proofs.RiscVFieldBits.{riscv_agrees}
use Rattle.linker_reading.proofs.Ppc64FieldBits.{ppc64_agrees}
use Rattle.linker_reading.proofs.LoongArchFieldBits.{loongarch_agrees}

-- ---- instructions

instruction_agrees : (insn : AnyForm) (bits : BitRange) (x w : ℕ) → w < 64
    → (bit_at (instruction_mask insn bits x) w == 1) ≡ is_instruction_bit insn bits x w
instruction_agrees (AArch64 f) bits x w h = aarch64_agrees f bits x w h
instruction_agrees (RiscV f) bits x w h = riscv_agrees f bits x w h
instruction_agrees (Ppc64 f) bits x w h = ppc64_agrees f bits x w h
instruction_agrees (LoongArch64 f) bits x w h = loongarch_agrees f bits x w h

-- ---- whole bytes

abbrev bytes_agree_below : ℕ → Bool
bytes_agree_below m = agree_below (λ w. bit_at (2 ^ (8 * m) - 1) w == 1) (λ w. nat_lt w (8 * m)) 64

abbrev low_six_agree_below : ℕ → Bool
low_six_agree_below m = agree_below (λ w. bit_at (bit_and (2 ^ (8 * m) - 1) 0x3f) w == 1) (λ w. nat_lt w 6 && nat_lt w (8 * m)) 64

min_below : (n : ℕ) → n < 8 → min n 8 ≡ n
min_below n h = omega arith

min_above : (n : ℕ) → 8 ≤ n → min n 8 ≡ 8
min_above n h = omega arith

-- above 8 bytes nothing changes below bit 64
eight : (n w : ℕ) → w < 64 → nat_lt w (8 * min n 8) ≡ nat_lt w (8 * n)
eight n w h = ⊎_elim (λ lt. ap (λ m. nat_lt w (8 * m)) (min_below n lt)) (λ ge. ap (λ m. nat_lt w (8 * m)) (min_above n ge) ∙ lt-ltb w 64 h ∙ sym (lt-ltb w (8 * n) (omega arith))) (cases_lt n 8)

bytes_agree : (n w : ℕ) → w < 64 → (bit_at (bytes_mask n) w == 1) ≡ nat_lt w (8 * n)
bytes_agree n w h =
    agree_below_at (λ k. bit_at (bytes_mask n) k == 1) (λ k. nat_lt k (8 * min n 8)) 64 w
    (agree_below_at bytes_agree_below (λ _. true) 9 (min n 8) refl (omega arith)) h
    ∙ eight n w h

low_six_agree : (n w : ℕ) → w < 64 → (bit_at (bit_and (bytes_mask n) 0x3f) w == 1) ≡ (nat_lt w 6 && nat_lt w (8 * n))
low_six_agree n w h =
    agree_below_at (λ k. bit_at (bit_and (bytes_mask n) 0x3f) k == 1) (λ k. nat_lt k 6 && nat_lt k (8 * min n 8)) 64 w
    (agree_below_at low_six_agree_below (λ _. true) 9 (min n 8) refl (omega arith)) h
    ∙ ap (λ b. nat_lt w 6 && b) (eight n w h)

number_agrees : (kind : RelocationKind) (n w : ℕ) → w < 64 → (bit_at (number_mask kind n) w == 1) ≡ (is_value_bit kind w && nat_lt w (8 * n))
number_agrees AbsoluteSetWord6 n w h = low_six_agree n w h
number_agrees AbsoluteAdditionWord6 n w h = low_six_agree n w h
number_agrees AbsoluteSubtractionWord6 n w h = low_six_agree n w h
number_agrees kind n w h = bytes_agree n w h

-- ---- rows

size_agrees : (size : RowSize) (kind : RelocationKind) (bytes : List ℕ) (w : ℕ) → w < 64
    → (bit_at (size_mask size kind bytes) w == 1) ≡ is_size_bit size kind bytes w
size_agrees (ByteSize n) kind bytes w h = number_agrees kind n w h
size_agrees (BitMasking bits insn) kind bytes w h =
    let word = window_of (relocation_form insn) bytes in
    instruction_agrees (insn_at insn bits word) (bits_at insn kind bits word)
    (window_of (relocation_form (insn_at insn bits word)) bytes) w h

pub field_agrees : (row : RowInfo) (bytes : List ℕ) (w : ℕ) → w < 64
    → (bit_at (field_mask row bytes) w == 1) ≡ is_field_bit row bytes w
field_agrees row bytes w h =
    size_agrees row.size row.kind bytes w h ∙ ap (λ b. b && is_size_bit row.size row.kind bytes w) (sym (lt-ltb w 64 h))
