-- What is read after a write has the bits of the value that was written.
use Rattle.linker_reading.proofs.Imports.{AArch64, AnyForm, BitMasking, BitRange, Bool, Bounds, ByteSize, FitsSigned, HoldsBits, InstructionWritten, IsAligned, IsInUnits, IsInWords, IsOfValue, IsWithin, IsWritten, List, LoongArch64, Movkz, Movnz, Ppc64, RelocationKind, RiscV, RowInfo, RowSize, Shift10, SizeNumber, aarch64_form, and_parts, ap, arith, bits_held, bits_of_bytes, bits_read, bytes_read, cast_unsigned, false, field_read, holds_bits, holds_field, holds_value, if◌then◌else◌, insn_at, int_rem_euclid, is_low_jump, is_supported, jump_read, loongarch_form, low_part, ltb, ltb-true, mod_mod, number_of_bytes, pos, refl, relocation_form, stays_movk, subst, sym, takes_size, true, unsigned_abs, w64, whole_number, window_of, ℕ, ℤ, ◌%◌, ◌&&◌, ◌*◌, ◌+ℤ◌, ◌+◌, ◌-◌, ◌/◌, ◌<◌, ◌^◌, ◌∙◌, ◌≡◌, ◌≤◌}
use Rattle.linker_elf.proofs.Relocated.{plain_written, movk_written, jump_written}
use Rattle.linker_elf.specs.declared.elf.RelocationKind.TheVariants as kinds
use Rattle.linker_reading.proofs.Aligned.{cast_below}
use Rattle.linker_reading.proofs.Proper.{some_of_bytes}
use Rattle.linker_reading.proofs.WrittenImmediates.{unrounded, rest_is}
use Rattle.linker_reading.proofs.AArch64Written.{aarch64_read, movk_kept, no_movk_after}
use Rattle.linker_reading.proofs.LoongArchWritten.{loongarch_read, jump_value, low_jump_kept}
use Rattle.linker_reading.proofs.Ppc64Written.{ppc64_read}
use Rattle.linker_reading.proofs.RiscVWritten.{riscv_read}

-- ---- whole bytes

whole_value : (n number : ℕ) (v : ℤ) → FitsSigned w64 v → 0 < n → n < 9
    → pos number ≡ int_rem_euclid v (pos (2 ^ (8 * n)))
    → number % 2 ^ (8 * n) ≡ cast_unsigned w64 v % 2 ^ (8 * n)
whole_value n number v fits some few is =
    let c = cast_unsigned w64 v in
    let same : number ≡ c % 2 ^ (8 * n) =
    ap unsigned_abs (is ∙ sym (rest_is v (8 * n) fits (omega arith) (omega arith))) in
    ap (λ y. y % 2 ^ (8 * n)) same ∙ mod_mod c (8 * n) (8 * n) (omega arith)

low_6 : (n number old : ℕ) (v : ℤ) → FitsSigned w64 v → 0 < n → n < 9
    → pos number ≡ int_rem_euclid (pos (old - old % 64) +ℤ int_rem_euclid v (pos 64))
    (pos (2 ^ (8 * n)))
    → number % 2 ^ 6 ≡ cast_unsigned w64 v % 2 ^ 6
low_6 n number old v fits some few is =
    let c = cast_unsigned w64 v in
    let r = c % 2 ^ 6 in
    let rest : int_rem_euclid v (pos 64) ≡ pos r = sym (rest_is v 6 fits (omega arith) (omega arith)) in
    let whole : int_rem_euclid (pos (old - old % 64) +ℤ int_rem_euclid v (pos 64)) (pos (2 ^ (8 * n)))
    ≡ pos ((old - old % 64 + r) % 2 ^ (8 * n)) =
    ap (λ y. int_rem_euclid (pos (old - old % 64) +ℤ y) (pos (2 ^ (8 * n)))) rest in
    let same : number ≡ (old - old % 64 + r) % 2 ^ (8 * n) = ap unsigned_abs (is ∙ whole) in
    ap (λ y. y % 2 ^ 6) same ∙ mod_mod (old - old % 64 + r) (8 * n) 6 (omega arith) ∙ omega arith

whole_bits : (kind : RelocationKind) (n number old : ℕ) (v : ℤ) → FitsSigned w64 v → 0 < n → n < 9
    → holds_value kind ≡ true
    → pos number ≡ int_rem_euclid (whole_number kind v old) (pos (2 ^ (8 * n)))
    → number % 2 ^ bits_of_bytes kind n ≡ cast_unsigned w64 v % 2 ^ bits_of_bytes kind n
whole_bits kinds.AbsoluteSetWord6 n number old v fits some few holds is =
    low_6 n number old v fits some few is
whole_bits kinds.AbsoluteAddition n number old v fits some few holds is = cc
whole_bits kinds.AbsoluteAdditionWord6 n number old v fits some few holds is = cc
whole_bits kinds.AbsoluteSubtraction n number old v fits some few holds is = cc
whole_bits kinds.AbsoluteSubtractionWord6 n number old v fits some few holds is = cc
whole_bits kind n number old v fits some few holds is = whole_value n number v fits some few is

bytes_value : (n number : ℕ) (v : ℤ) → FitsSigned w64 v → n ≤ 64
    → number % 2 ^ n ≡ cast_unsigned w64 v % 2 ^ n → IsOfValue (bytes_read n number) v
bytes_value n number v fits most same =
    let c = cast_unsigned w64 v in
    let one : c / 2 ^ 0 ≡ c = omega arith in
    unrounded c 0 n (cast_below v fits) ∙ ap (λ y. y % 2 ^ (n - 0)) one
    ∙ ap (λ k. c % 2 ^ k) (let t : n - 0 ≡ n = omega arith in t) ∙ sym same

-- ---- rows

-- Nowhere else a MOVK or a `jirl` stands after a write.
place_kept : (insn : AnyForm) (kind : RelocationKind) (bits : BitRange) (v : ℤ)
    (before after : List ℕ)
    → stays_movk insn bits (window_of (relocation_form insn) before) ≡ false
    → is_low_jump insn kind (window_of (relocation_form insn) before) ≡ false
    → InstructionWritten insn bits v before after
    → (stays_movk insn bits (window_of (relocation_form insn) after) ≡ false)
    × (is_low_jump insn kind (window_of (relocation_form insn) after) ≡ false)
place_kept (AArch64 Movnz) kind bits v before after move jump w = (
  ap (λ is. is && ltb (bits.end - bits.start) 17) (no_movk_after bits v before after w),
  refl,
)
place_kept (AArch64 f) kind bits v before after move jump w = (refl, refl)
place_kept (RiscV f) kind bits v before after move jump w = (refl, refl)
place_kept (Ppc64 f) kind bits v before after move jump w = (refl, refl)
place_kept (LoongArch64 Shift10) kind bits v before after move jump w =
    (refl, low_jump_kept kind bits v before after w ∙ jump)
place_kept (LoongArch64 f) kind bits v before after move jump w = (refl, refl)

plain_field : (insn : AnyForm) (kind : RelocationKind) (bits : BitRange)
    (reached : Bounds) (v : ℤ) (after : List ℕ)
    → stays_movk insn bits (window_of (relocation_form insn) after) ≡ false
    → is_low_jump insn kind (window_of (relocation_form insn) after) ≡ false
    → IsOfValue (bits_read insn bits.start (bits_held insn bits reached)
    (window_of (relocation_form insn) after)) v
    → IsOfValue (field_read kind (BitMasking bits insn) reached after) v
plain_field insn kind bits reached v after move jump is =
    let x = window_of (relocation_form insn) after in
    subst (λ j. IsOfValue (if j then jump_read x
    else bits_read (insn_at insn bits x) bits.start (bits_held (insn_at insn bits x) bits reached)
    (window_of (relocation_form (insn_at insn bits x)) after)) v) (sym jump)
    (subst (λ m. IsOfValue (bits_read (if m then AArch64 Movkz else insn) bits.start
    (bits_held (if m then AArch64 Movkz else insn) bits reached)
    (window_of (relocation_form (if m then AArch64 Movkz else insn)) after)) v) (sym move) is)

-- where MOVK stays
movk_field : (insn : AnyForm) (kind : RelocationKind) (bits : BitRange)
    (reached : Bounds) (v : ℤ) (before after : List ℕ) → FitsSigned w64 v → bits.start < bits.end
    → bits.end ≤ 64 → IsWithin reached v
    → stays_movk insn bits (window_of (relocation_form insn) before) ≡ true
    → IsWritten (BitMasking bits insn) kind v before after
    → IsOfValue (field_read kind (BitMasking bits insn) reached after) v
movk_field (AArch64 Movnz) kind bits reached v before after fits order inside within move w =
    let x = window_of (aarch64_form Movnz) before in
    let y = window_of (aarch64_form Movnz) after in
    let laid = movk_written (AArch64 Movnz) kind bits v before after move w in
    let kept : stays_movk (AArch64 Movnz) bits y ≡ true =
    ap (λ is. is && ltb (bits.end - bits.start) 17) (movk_kept bits v before after laid) ∙ move in
    subst (λ m. IsOfValue (bits_read (if m then AArch64 Movkz else AArch64 Movnz) bits.start
    (bits_held (if m then AArch64 Movkz else AArch64 Movnz) bits reached)
    (window_of (relocation_form (if m then AArch64 Movkz else AArch64 Movnz)) after)) v) (sym kept)
    (aarch64_read Movkz bits reached v before after fits order inside refl within laid)
movk_field (AArch64 f) kind bits reached v before after fits order inside within move w = cc
movk_field (RiscV f) kind bits reached v before after fits order inside within move w = cc
movk_field (Ppc64 f) kind bits reached v before after fits order inside within move w = cc
movk_field (LoongArch64 f) kind bits reached v before after fits order inside within move w = cc

-- where a `jirl` has the low part
jump_field : (insn : AnyForm) (kind : RelocationKind) (bits : BitRange)
    (reached : Bounds) (v : ℤ) (before after : List ℕ) → FitsSigned w64 v
    → is_low_jump insn kind (window_of (relocation_form insn) before) ≡ true
    → IsAligned 4 v → IsWritten (BitMasking bits insn) kind v before after
    → IsOfValue (field_read kind (BitMasking bits insn) reached after) v
jump_field (LoongArch64 Shift10) kind bits reached v before after fits jump aligned w =
    let y = window_of (loongarch_form Shift10) after in
    let laid = jump_written (LoongArch64 Shift10) kind bits v before after jump w in
    let kept : is_low_jump (LoongArch64 Shift10) kind y ≡ true =
    low_jump_kept kind (record { start = 2; end = 18 }) (low_part v) before after laid ∙ jump in
    subst (λ j. IsOfValue (if j then jump_read y
    else bits_read (LoongArch64 Shift10) bits.start (bits_held (LoongArch64 Shift10) bits reached) y) v)
    (sym kept) (jump_value v before after fits aligned laid)
jump_field (LoongArch64 f) kind bits reached v before after fits jump aligned w = cc
jump_field (AArch64 f) kind bits reached v before after fits jump aligned w = cc
jump_field (RiscV f) kind bits reached v before after fits jump aligned w = cc
jump_field (Ppc64 f) kind bits reached v before after fits jump aligned w = cc

pub field_written : (kind : RelocationKind) (size : RowSize) (reached : Bounds) (v : ℤ)
    (before after : List ℕ) → FitsSigned w64 v → holds_field kind size reached ≡ true
    → IsWithin reached v → HoldsBits size v before → IsInUnits size v before
    → IsInWords size kind v before
    → IsWritten size kind v before after → SizeNumber size kind v before after
    → IsOfValue (field_read kind size reached after) v
field_written kind (ByteSize n) reached v before after fits holds within fit units words w number =
    let parts = and_parts (ltb 0 n) (ltb n 9 && holds_value kind) holds in
    let few = and_parts (ltb n 9) (holds_value kind) parts.1 in
    let some = ltb-true 0 n parts.0 in
    let short = ltb-true n 9 few.0 in
    bytes_value (bits_of_bytes kind n) (number_of_bytes n after) v fits
    (some_of_bytes kind n some short).1
    (whole_bits kind n (number_of_bytes n after) (number_of_bytes n before) v fits some short few.1
    number)
field_written kind (BitMasking bits insn) reached v before after fits holds within fit units words w
    number =
    let known = bits_held insn bits reached in
    let a = and_parts (ltb bits.start bits.end)
    (ltb bits.end 65 && (ltb known.start known.end && holds_bits insn bits)) holds in
    let b = and_parts (ltb bits.end 65) (ltb known.start known.end && holds_bits insn bits) a.1 in
    let c = and_parts (ltb known.start known.end) (holds_bits insn bits) b.1 in
    let below = ltb-true bits.end 65 b.0 in
    by_place (stays_movk insn bits (window_of (relocation_form insn) before))
    (is_low_jump insn kind (window_of (relocation_form insn) before)) refl refl
    (ltb-true bits.start bits.end a.0) (omega arith) c.1
  where
    by_insn : (g : AnyForm) (bits : BitRange) → bits.start < bits.end → bits.end ≤ 64
        → holds_bits g bits ≡ true → HoldsBits (BitMasking bits g) v before
        → IsInUnits (BitMasking bits g) v before → InstructionWritten g bits v before after
        → IsOfValue (bits_read g bits.start (bits_held g bits reached)
        (window_of (relocation_form g) after)) v
    by_insn (AArch64 f) bits order inside holds fit units w =
        aarch64_read f bits reached v before after fits order inside holds within w
    by_insn (RiscV f) bits order inside holds fit units w =
        riscv_read f bits reached v before after fits order inside holds w
    by_insn (Ppc64 f) bits order inside holds fit units w =
        ppc64_read f bits reached v before after fits order inside holds units w
    by_insn (LoongArch64 f) bits order inside holds fit units w =
        loongarch_read f bits reached v before after fits order inside holds fit w

    by_place : (move jump : Bool)
        → stays_movk insn bits (window_of (relocation_form insn) before) ≡ move
        → is_low_jump insn kind (window_of (relocation_form insn) before) ≡ jump
        → bits.start < bits.end → bits.end ≤ 64 → holds_bits insn bits ≡ true
        → IsOfValue (field_read kind (BitMasking bits insn) reached after) v
    by_place false false move jump order inside holds =
        let plain = plain_written insn kind bits v before after move jump w in
        let kept = place_kept insn kind bits v before after move jump plain in
        plain_field insn kind bits reached v after kept.0 kept.1
        (by_insn insn bits order inside holds fit units plain)
    by_place true jump move jump_is order inside holds =
        movk_field insn kind bits reached v before after fits order inside within move w
    by_place false true move jump order inside holds =
        jump_field insn kind bits reached v before after fits jump (words jump) w

-- a row that can be written has an alignment
pub some_alignment : (row : RowInfo) → is_supported row ≡ true → 0 < row.alignment
some_alignment row h =
    let parts = and_parts (takes_size row.kind row.size && ltb 0 row.alignment)
    (ltb row.alignment (2 ^ 63)) h in
    ltb-true 0 row.alignment
    (and_parts (takes_size row.kind row.size) (ltb 0 row.alignment) parts.0).1
