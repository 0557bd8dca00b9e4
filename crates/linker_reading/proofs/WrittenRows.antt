-- A write of a row's value to bytes changes bits of its field only.
use Rattle.linker_reading.proofs.Imports.{AArch64, AbsoluteAdditionWord6, AbsoluteSetWord6, AbsoluteSubtractionWord6, AnyForm, AreBytes, AreSameButFor, BitMasking, BitRange, Bool, ByteSize, ChangesField, InstructionWritten, IsSameBut, IsWritten, List, LoongArch64, Ppc64, RelocationKind, RiscV, RowInfo, RowSize, SizeNumber, WritesRow, aarch64_form, and_from, and_parts, ap, arith, bit_at, bit_at_cat_high, bit_at_mod, bit_at_shr, bits_at, bits_taken, both_ways, byte_len, cases_lt, drop, drop_at, false, get_or, get_or-append_right, get_or-drop, get_or-take, get_or_append_left, if◌then◌else◌, insn_at, int_lt, int_rem_euclid, is_instruction_bit, is_low_jump, is_size_bit, is_value_bit, le-leb, length, length-take-le, loongarch_form, low_bytes, lt-ltb, ltb-true, nat_le, nat_lt, negsuc, number_of_bytes, number_written, pos, ppc64_form, refl, relocation_form, replicate, riscv_form, size_len, slice_index, subst, subst_below, suc, sym, take, takes_size, to_le_bytes, true, unsigned_abs, value_at, w64, window_of, zero, ℕ, ℤ, ⊎_elim, ◌%◌, ◌&&◌, ◌*◌, ◌++◌, ◌+ℤ◌, ◌+◌, ◌-ℤ◌, ◌-◌, ◌/◌, ◌<◌, ◌^◌, ◌∙◌, ◌≡◌, ◌≤◌}
use Rattle.linker_reading.proofs.WindowBits.{window_bit}
use Rattle.linker_reading.proofs.X86WrittenChoices.{IsWhole, whole_writes_field, first_part}
use Rattle.linker_reading.proofs.AArch64Written.{aarch64_outside, aarch64_word}
use Rattle.linker_reading.proofs.LoongArchWritten.{loongarch_outside, loongarch_short}
use Rattle.linker_reading.proofs.Ppc64Written.{ppc64_outside, ppc64_short}
use Rattle.linker_reading.proofs.RiscVWritten.{riscv_outside, riscv_short}
use Rattle.linker_reading.proofs.WrittenBits.{taken_small}

-- ---- instructions

short_window : (insn : AnyForm) → byte_len (relocation_form insn).window ≤ 8
short_window (AArch64 f) = omega (arith, aarch64_word f)
short_window (RiscV f) = riscv_short f
short_window (Ppc64 f) = ppc64_short f
short_window (LoongArch64 f) = loongarch_short f

instruction_outside : (insn : AnyForm) (bits : BitRange) (v : ℤ) (before after : List ℕ) (w : ℕ) → bits.end - bits.start ≤ 64
    → w < 8 * byte_len (relocation_form insn).window → is_instruction_bit insn bits (window_of (relocation_form insn) before) w ≡ false
    → InstructionWritten insn bits v before after → bit_at (window_of (relocation_form insn) after) w ≡ bit_at (window_of (relocation_form insn) before) w
instruction_outside (AArch64 f) bits v before after w few h ignored written =
    aarch64_outside f bits (bits_taken bits v) (window_of (aarch64_form f) before) written.clear (window_of (aarch64_form f) after) w (int_lt v (pos 0))
    (omega (arith, h, aarch64_word f)) ignored written.clears written.written
instruction_outside (RiscV f) bits v before after w few h ignored written =
    riscv_outside f bits (bits_taken bits v) (window_of (riscv_form f) before) written.clear (window_of (riscv_form f) after) w (int_lt v (pos 0))
    ignored written.clears written.written
instruction_outside (Ppc64 f) bits v before after w few h ignored written =
    ppc64_outside f bits (bits_taken bits v) (window_of (ppc64_form f) before) written.clear (window_of (ppc64_form f) after) w (int_lt v (pos 0))
    (subst_below (bits_taken bits v) (bits.end - bits.start) 64 (taken_small bits v) few) ignored written.clears written.written
instruction_outside (LoongArch64 f) bits v before after w few h ignored written =
    loongarch_outside f bits (bits_taken bits v) (window_of (loongarch_form f) before) written.clear (window_of (loongarch_form f) after) w (int_lt v (pos 0))
    (λ narrow. subst_below (bits_taken bits v) (bits.end - bits.start) 12 (taken_small bits v) (ltb-false narrow)) ignored written.clears written.written
  where
    ltb-false : nat_lt 12 (bits.end - bits.start) ≡ false → bits.end - bits.start ≤ 12
    ltb-false e =
        ⊎_elim (λ wide. absurd (both_ways (nat_lt 12 (bits.end - bits.start)) e (lt-ltb 12 (bits.end - bits.start) wide))) (λ few. few)
        (cases_lt 12 (bits.end - bits.start))

-- the second of two tests, if the first holds
second : (a b : Bool) → a ≡ true → (a && b) ≡ false → b ≡ false
second true b e f = f
second false b e f = cc

-- a bit of a byte of the window that is no bit of the instruction's field
in_window : (insn : AnyForm) (bits : BitRange) (v : ℤ) (before after : List ℕ) (i j : ℕ) → AreBytes before after → bits.end - bits.start ≤ 64
    → i < byte_len (relocation_form insn).window → j < 8
    → (nat_le 0 i && (nat_lt (8 * (i - 0) + j) 64 && is_instruction_bit insn bits (window_of (relocation_form insn) before) (8 * (i - 0) + j))) ≡ false
    → InstructionWritten insn bits v before after → bit_at (slice_index before i) j ≡ bit_at (slice_index after i) j
in_window insn bits v before after i j bytes few h k ignored written =
    let w = 8 * (i - 0) + j in
    let short = short_window insn in
    let first : w ≡ 8 * i + j = omega arith in
    let free : is_instruction_bit insn bits (window_of (relocation_form insn) before) w ≡ false =
    second (nat_lt w 64) _ (lt-ltb w 64 (omega arith)) (second (nat_le 0 i) _ (le-leb 0 i (omega arith)) ignored) in
    sym (window_bit (relocation_form insn).window before i j bytes.bytes_before h k)
    ∙ ap (bit_at (window_of (relocation_form insn) before)) (sym first)
    ∙ sym (instruction_outside insn bits v before after w few (omega arith) free written)
    ∙ ap (bit_at (window_of (relocation_form insn) after)) first
    ∙ window_bit (relocation_form insn).window after i j bytes.bytes_after h k

following : (n : ℕ) (before after : List ℕ) (i : ℕ) → n ≤ i → drop n after ≡ drop n before → slice_index before i ≡ slice_index after i
following n before after i h rest =
    let at : i ≡ n + (i - n) = omega arith in
    ap (λ l. get_or before l 0) at ∙ sym (get_or-drop n before (i - n) 0) ∙ ap (λ l. get_or l (i - n) 0) (sym rest)
    ∙ get_or-drop n after (i - n) 0 ∙ ap (λ l. get_or after l 0) (sym at)

instruction_same : (insn : AnyForm) (bits : BitRange) (v : ℤ) (before after : List ℕ) → AreBytes before after → bits.end - bits.start ≤ 64
    → InstructionWritten insn bits v before after → (i : ℕ)
    → IsSameBut (λ j. nat_le 0 i && (nat_lt (8 * (i - 0) + j) 64 && is_instruction_bit insn bits (window_of (relocation_form insn) before) (8 * (i - 0) + j)))
    (slice_index before i) (slice_index after i)
instruction_same insn bits v before after bytes few written i j k ignored =
    ⊎_elim (λ h. in_window insn bits v before after i j bytes few h k ignored written)
    (λ h. ap (λ b. bit_at b j) (following (byte_len (relocation_form insn).window) before after i h written.rest))
    (cases_lt i (byte_len (relocation_form insn).window))

-- ---- six bits of a byte

zeros : (k i : ℕ) → get_or (replicate k zero) i zero ≡ zero
zeros zero i = refl
zeros (suc k) zero = refl
zeros (suc k) (suc i) = zeros k i

abbrev padded_with_zeros : ℕ → List ℕ → List ℕ
padded_with_zeros n bytes = take n bytes ++ replicate (8 - n) 0

front_byte : (n : ℕ) (bytes : List ℕ) (i : ℕ) → n ≤ length bytes → i < n → slice_index (padded_with_zeros n bytes) i ≡ slice_index bytes i
front_byte n bytes i room h =
    get_or_append_left (take n bytes) (replicate (8 - n) 0) 0 i (omega (arith, length-take-le n bytes room, h)) ∙ get_or-take n bytes i 0 h

padded_small : (n : ℕ) (bytes : List ℕ) → n ≤ length bytes → ((i : ℕ) → slice_index bytes i < 2 ^ 8) → (i : ℕ) → slice_index (padded_with_zeros n bytes) i < 2 ^ 8
padded_small n bytes room small i =
    ⊎_elim (λ h. subst (λ b. b < 2 ^ 8) (sym (front_byte n bytes i room h)) (small i))
    (λ h. subst (λ b. b < 2 ^ 8) (sym (
    get_or-append_right (take n bytes) (replicate (8 - n) 0) n i 0 (length-take-le n bytes room) h ∙ zeros (8 - n) (i - n))) (omega arith))
    (cases_lt i n)

-- a bit of the number is that of its byte
number_bit : (n : ℕ) (bytes : List ℕ) (i j : ℕ) → n < 9 → n ≤ length bytes → ((i : ℕ) → slice_index bytes i < 2 ^ 8) → i < n → j < 8
    → bit_at (number_of_bytes n bytes) (8 * i + j) ≡ bit_at (slice_index bytes i) j
number_bit n bytes i j few room small h k =
    window_bit w64 (padded_with_zeros n bytes) i j (padded_small n bytes room small) (let e : i < 8 = omega arith in e) k
    ∙ ap (λ b. bit_at b j) (front_byte n bytes i room h)

rem_64 : (z : ℤ) → (r : ℕ) × ((int_rem_euclid z (pos 64) ≡ pos r) × (r < 64))
rem_64 (pos n) = (n % 64, (refl, omega arith))
rem_64 (negsuc n) = (63 - n % 64, (refl, omega arith))

-- the bits above the lowest six
above_six : (old r n w : ℕ) → r < 64 → 6 ≤ w → w < 8 * n → bit_at ((old - old % 64 + r) % 2 ^ (8 * n)) w ≡ bit_at old w
above_six old r n w small from below =
    bit_at_mod (old - old % 64 + r) (8 * n) w below
    ∙ ap (λ m. bit_at m w) (let e : old - old % 64 + r ≡ old / 2 ^ 6 * 2 ^ 6 + r = omega arith in e)
    ∙ bit_at_cat_high (old / 2 ^ 6) 6 r w small from
    ∙ bit_at_shr old 6 (w - 6) ∙ ap (bit_at old) (let e : 6 + (w - 6) ≡ w = omega arith in e)

of_sum : (n old now : ℕ) (z : ℤ) → pos now ≡ int_rem_euclid (pos (old - old % 64) +ℤ int_rem_euclid z (pos 64)) (pos (2 ^ (8 * n)))
    → (r : ℕ) × ((now ≡ (old - old % 64 + r) % 2 ^ (8 * n)) × (r < 64))
of_sum n old now z e =
    let rest = rem_64 z in
    (rest.0, (ap unsigned_abs (e ∙ ap (λ t. int_rem_euclid (pos (old - old % 64) +ℤ t) (pos (2 ^ (8 * n)))) rest.1.0), rest.1.1))

is_low_six : RelocationKind → Bool
is_low_six AbsoluteSetWord6 = true
is_low_six AbsoluteAdditionWord6 = true
is_low_six AbsoluteSubtractionWord6 = true
is_low_six kind = false

low_six_number : (kind : RelocationKind) (n : ℕ) (v : ℤ) (before after : List ℕ) → is_low_six kind ≡ true → SizeNumber (ByteSize n) kind v before after
    → (r : ℕ) × ((number_of_bytes n after ≡ (number_of_bytes n before - number_of_bytes n before % 64 + r) % 2 ^ (8 * n)) × (r < 64))
unfolding is_low_six
low_six_number AbsoluteSetWord6 n v before after is number = of_sum n (number_of_bytes n before) (number_of_bytes n after) v number
low_six_number AbsoluteAdditionWord6 n v before after is number =
    of_sum n (number_of_bytes n before) (number_of_bytes n after) (pos (number_of_bytes n before) +ℤ v) number
low_six_number AbsoluteSubtractionWord6 n v before after is number =
    of_sum n (number_of_bytes n before) (number_of_bytes n after) (pos (number_of_bytes n before) -ℤ v) number
low_six_number kind n v before after is number = cc

six : (n w : ℕ) → w < 8 * n → (nat_lt w 6 && nat_lt w (8 * n)) ≡ false → 6 ≤ w
six n w below e =
    ⊎_elim (λ low. absurd (both_ways (nat_lt w 6 && nat_lt w (8 * n)) e (and_from (nat_lt w 6) (nat_lt w (8 * n)) (lt-ltb w 6 low) (lt-ltb w (8 * n) below))))
    (λ from. from) (cases_lt w 6)

low_six_bit : (kind : RelocationKind) (n w : ℕ) → is_low_six kind ≡ true → w < 8 * n → (is_value_bit kind w && nat_lt w (8 * n)) ≡ false → 6 ≤ w
unfolding is_low_six
low_six_bit AbsoluteSetWord6 n w is below e = six n w below e
low_six_bit AbsoluteAdditionWord6 n w is below e = six n w below e
low_six_bit AbsoluteSubtractionWord6 n w is below e = six n w below e
low_six_bit kind n w is below e = cc

six_same : (kind : RelocationKind) (n : ℕ) (v : ℤ) (before after : List ℕ) → is_low_six kind ≡ true → n < 9 → n ≤ length before → AreBytes before after
    → SizeNumber (ByteSize n) kind v before after → drop n after ≡ drop n before → (i : ℕ)
    → IsSameBut (λ j. nat_le 0 i && (nat_lt (8 * (i - 0) + j) 64 && (is_value_bit kind (8 * (i - 0) + j) && nat_lt (8 * (i - 0) + j) (8 * n))))
    (slice_index before i) (slice_index after i)
six_same kind n v before after is few room bytes number rest i j k ignored =
    ⊎_elim
    (λ h.
    let w = 8 * (i - 0) + j in
    let first : w ≡ 8 * i + j = omega arith in
    let free : (is_value_bit kind w && nat_lt w (8 * n)) ≡ false =
    second (nat_lt w 64) _ (lt-ltb w 64 (omega arith)) (second (nat_le 0 i) _ (le-leb 0 i (omega arith)) ignored) in
    let from : 6 ≤ w = low_six_bit kind n w is (omega arith) free in
    let sum = low_six_number kind n v before after is number in
    sym (number_bit n before i j few room bytes.bytes_before h k)
    ∙ sym (ap (λ m. bit_at m (8 * i + j)) sum.1.0 ∙ above_six (number_of_bytes n before) sum.0 n (8 * i + j) sum.1.1 (omega arith) (omega arith))
    ∙ number_bit n after i j few (omega (arith, room, bytes.lengths)) bytes.bytes_after h k)
    (λ h. ap (λ b. bit_at b j) (following n before after i h rest))
    (cases_lt i n)

-- ---- rows

whole_kind : (kind : RelocationKind) → is_low_six kind ≡ false → (w : ℕ) → is_value_bit kind w ≡ true
unfolding is_low_six
whole_kind AbsoluteSetWord6 e w = cc
whole_kind AbsoluteAdditionWord6 e w = cc
whole_kind AbsoluteSubtractionWord6 e w = cc
whole_kind kind e w = refl

module _ (row : RowInfo) (v : ℤ) (before after : List ℕ) (bytes : AreBytes before after) (writes : WritesRow row v before after) where
  takes : (size : RowSize) → row.size ≡ size → takes_size row.kind size ≡ true
  takes size e =
      first_part (takes_size row.kind size) (nat_lt 0 row.alignment) (nat_lt row.alignment (2 ^ 63))
      (subst (λ s. (takes_size row.kind s && nat_lt 0 row.alignment && nat_lt row.alignment (2 ^ 63)) ≡ true) e writes.accepted.supported)

  all_same : (size : RowSize) → row.size ≡ size
      → ((i : ℕ) → IsSameBut (λ j. nat_le 0 i && (nat_lt (8 * (i - 0) + j) 64 && is_size_bit size row.kind (drop 0 before) (8 * (i - 0) + j))) (slice_index before i) (slice_index after i))
      → AreSameButFor row before after
  all_same size e same =
      record {
        lengths = sym bytes.lengths;
        room = writes.accepted.long;
        same = λ i h. subst (λ s. IsSameBut (λ j. nat_le 0 i && (nat_lt (8 * (i - 0) + j) 64 && is_size_bit s row.kind (drop 0 before) (8 * (i - 0) + j))) (slice_index before i) (slice_index after i)) (sym e) (same i);
      }

  of_bytes : (n : ℕ) (low : Bool) → row.size ≡ ByteSize n → is_low_six row.kind ≡ low → AreSameButFor row before after
  of_bytes n true e is =
      let few : n < 9 = ltb-true n 9 (and_parts (nat_lt n 9) _ (takes (ByteSize n) e)).0 in
      let room : n ≤ length before = subst (λ s. size_len s ≤ length before) e writes.accepted.long in
      let written : after ≡ low_bytes n (number_written row.kind v (number_of_bytes n before)) ++ drop n before =
      subst (λ s. IsWritten s row.kind v before after) e writes.written in
      let rest : drop n after ≡ drop n before =
      ap (drop n) written ∙ drop_at (low_bytes n (number_written row.kind v (number_of_bytes n before))) (drop n before) n
      (length-take-le n (to_le_bytes w64 (number_written row.kind v (number_of_bytes n before))) (omega arith)) in
      all_same (ByteSize n) e (six_same row.kind n v before after is few room bytes (subst (λ s. SizeNumber s row.kind v before after) e writes.number) rest)
  of_bytes n false e is =
      whole_writes_field row (subst (λ s. IsWhole s row.kind) (sym e) (whole_kind row.kind is)) v before after writes

  few_at : (jump : Bool) (bits : BitRange) → bits.end < 65
      → (if jump then record { start = 2; end = 18 } else bits).end
      - (if jump then record { start = 2; end = 18 } else bits).start ≤ 64
  few_at true bits below = omega arith
  few_at false bits below = omega arith

  of_size : (size : RowSize) → row.size ≡ size → AreSameButFor row before after
  of_size (ByteSize n) e = of_bytes n (is_low_six row.kind) e refl
  of_size (BitMasking bits insn) e =
      let parts = and_parts (nat_lt bits.start bits.end && nat_lt bits.end 65) _ (takes (BitMasking bits insn) e) in
      let below = ltb-true bits.end 65 (and_parts (nat_lt bits.start bits.end) (nat_lt bits.end 65) parts.0).1 in
      let word = window_of (relocation_form insn) before in
      all_same (BitMasking bits insn) e (instruction_same (insn_at insn bits word) (bits_at insn row.kind bits word)
      (value_at insn row.kind v word) before after bytes (few_at (is_low_jump insn row.kind word) bits below)
      (subst (λ s. IsWritten s row.kind v before after) e writes.written))

-- whatever the row is
pub row_changes_field : (row : RowInfo) → ChangesField row
row_changes_field row v before after bytes writes = of_size row v before after bytes writes row.size refl
