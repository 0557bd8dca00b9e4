-- What is read has some bits of 64, and no others.
use Rattle.linker_reading.proofs.Imports.{AArch64, AArch64Instruction, AnyForm, BitMasking, BitRange, Bool, Bounds, ByteSize, FieldValue, IsProper, List, LoongArch64, Movkz, Movnz, None, Ppc64, RelocationKind, RiscV, RowSize, Some, and_from, and_parts, are_signed, arith, bits_held, bits_of_bytes, bits_read, bits_within, bytes_read, cases_lt, cast_unsigned, difference_64, eqb, false, field_read, holds_bits, holds_field, holds_some, holds_value, if◌then◌else◌, immediate_of, inl, inr, insn_at, is_low_jump, jump_read, le-ltb, least_sum, leaves_one, lt-ltb, ltb, ltb-true, mod_below, not, number_held, number_of_bytes, pow_pos, refl, relocation_form, stays_movk, steps_above, subst, sum_64, true, up_to_sign, w64, window_of, with_alignment, with_reach, ℕ, ℤ, ◌%◌, ◌&&◌, ◌*◌, ◌+◌, ◌-◌, ◌/◌, ◌<◌, ◌^◌, ◌≡◌, ◌≤◌}
use Rattle.linker_elf.specs.declared.elf.RelocationKind.TheVariants as kinds
use Rattle.linker_reading.proofs.Ranges.{upper_below, moved_below}

-- ---- instructions

-- bits of 64 that a form holds, at or above the first of the row's range
pub record AreHeld (start : ℕ) (known : BitRange) : Type 0 where
  pub from : start ≤ known.start
  pub some : known.start < known.end
  pub inside : known.end ≤ 64

within_held : (immediate bits : BitRange) → bits.end ≤ 64
    → (bits_within immediate bits).start < (bits_within immediate bits).end
    → AreHeld bits.start (bits_within immediate bits)
within_held immediate bits inside some =
    elim (cases_lt bits.end (bits.start + immediate.end)) [
      | inl short ↦ record {
        from = omega arith;
        some = some;
        inside = rw (lt-ltb bits.end (bits.start + immediate.end) short) inside;
      }
      | inr long ↦ record {
        from = omega arith;
        some = some;
        inside = rw (le-ltb bits.end (bits.start + immediate.end) long) (omega arith);
      }
    ]

held_move : (bits : BitRange) (longer : Bool) → bits.start < bits.end → bits.end ≤ 64
    → (longer ≡ true → bits.end < 64)
    → AreHeld bits.start (if longer
    then record { start = bits.start; end = bits.end + 1 } else bits)
held_move bits false some inside h = record { from = omega arith; some = some; inside = inside }
held_move bits true some inside h =
    let below = h refl in record { from = omega arith; some = omega arith; inside = omega arith }

held_aarch64 : (f : AArch64Instruction) (bits : BitRange) (reached : Bounds)
    → bits.start < bits.end → bits.end ≤ 64
    → (bits_held (AArch64 f) bits reached).start < (bits_held (AArch64 f) bits reached).end
    → AreHeld bits.start (bits_held (AArch64 f) bits reached)
held_aarch64 Movnz bits reached order inside some =
    held_move bits (ltb bits.end 49 && are_signed (bits.end + 1) reached) order inside
    (λ both. let short = ltb-true bits.end 49
    (and_parts (ltb bits.end 49) (are_signed (bits.end + 1) reached) both).0 in omega arith)
held_aarch64 f bits reached order inside some =
    within_held (immediate_of (AArch64 f)) bits inside some

pub bits_are_held : (insn : AnyForm) (bits : BitRange) (reached : Bounds)
    → holds_some insn bits (bits_held insn bits reached) ≡ true
    → AreHeld bits.start (bits_held insn bits reached)
bits_are_held insn bits reached h =
    let known = bits_held insn bits reached in
    let a = and_parts (ltb bits.start bits.end)
    (ltb bits.end 65 && (ltb known.start known.end && holds_bits insn bits)) h in
    let b = and_parts (ltb bits.end 65) (ltb known.start known.end && holds_bits insn bits) a.1 in
    let below = ltb-true bits.end 65 b.0 in
    by_insn insn (ltb-true bits.start bits.end a.0) (omega arith)
    (ltb-true known.start known.end (and_parts (ltb known.start known.end) (holds_bits insn bits) b.1).0)
  where
    by_insn : (g : AnyForm) → bits.start < bits.end → bits.end ≤ 64
        → (bits_held g bits reached).start < (bits_held g bits reached).end
        → AreHeld bits.start (bits_held g bits reached)
    by_insn (AArch64 f) order inside some = held_aarch64 f bits reached order inside some
    by_insn (RiscV f) order inside some =
        within_held (immediate_of (RiscV f)) bits inside some
    by_insn (Ppc64 f) order inside some =
        within_held (immediate_of (Ppc64 f)) bits inside some
    by_insn (LoongArch64 f) order inside some =
        within_held (immediate_of (LoongArch64 f)) bits inside some

proper_bits : (insn : AnyForm) (start : ℕ) (known : BitRange) (x : ℕ)
    → AreHeld start known → IsProper (bits_read insn start known x)
proper_bits insn start known x h =
    let from = h.from in
    let some = h.some in
    let size : known.end - start - (known.start - start) ≡ known.end - known.start = omega arith in
    record {
      some = some;
      inside = h.inside;
      small = subst (λ k. (bits_read insn start known x).bits < 2 ^ k) size
          (mod_below (cast_unsigned w64 (number_held insn x) / 2 ^ (known.start - start))
          (2 ^ (known.end - start - (known.start - start)))
          (pow_pos (known.end - start - (known.start - start))));
    }

-- a MOVK has 16 bits
pub held_at : (insn : AnyForm) (bits : BitRange) (reached : Bounds) (x : ℕ)
    → holds_some insn bits (bits_held insn bits reached) ≡ true
    → holds_some (insn_at insn bits x) bits (bits_held (insn_at insn bits x) bits reached) ≡ true
held_at (AArch64 Movnz) bits reached x h = by_movk (stays_movk (AArch64 Movnz) bits x)
  where
    some_held : (short : Bool) → bits.start < bits.end
        → ltb (bits.start + 0) (if short then bits.end else bits.start + 16) ≡ true
    some_held true some = lt-ltb (bits.start + 0) bits.end (omega arith)
    some_held false some = lt-ltb (bits.start + 0) (bits.start + 16) (omega arith)

    by_movk : (move : Bool)
        → holds_some (if move then AArch64 Movkz else AArch64 Movnz) bits
        (bits_held (if move then AArch64 Movkz else AArch64 Movnz) bits reached) ≡ true
    by_movk true =
        let known = bits_held (AArch64 Movnz) bits reached in
        let a = and_parts (ltb bits.start bits.end)
        (ltb bits.end 65 && (ltb known.start known.end && holds_bits (AArch64 Movnz) bits)) h in
        let b = and_parts (ltb bits.end 65) (ltb known.start known.end && holds_bits (AArch64 Movnz) bits) a.1 in
        and_from (ltb bits.start bits.end) _ a.0
        (and_from (ltb bits.end 65) _ b.0
        (and_from (ltb (bits.start + 0) (if ltb bits.end (bits.start + 16) then bits.end else bits.start + 16))
        true (some_held (ltb bits.end (bits.start + 16)) (ltb-true bits.start bits.end a.0)) refl))
    by_movk false = h
held_at (AArch64 f) bits reached x h = h
held_at (RiscV f) bits reached x h = h
held_at (Ppc64 f) bits reached x h = h
held_at (LoongArch64 f) bits reached x h = h

-- ---- bytes

proper_bytes : (n number : ℕ) → 0 < n → n ≤ 64 → IsProper (bytes_read n number)
proper_bytes n number some inside =
    record {
      some = some;
      inside = inside;
      small = subst (λ k. number % 2 ^ n < 2 ^ k) (let same : n ≡ n - 0 = omega arith in same)
          (mod_below number (2 ^ n) (pow_pos n));
    }

pub some_of_bytes : (kind : RelocationKind) (n : ℕ) → 0 < n → n < 9
    → (0 < bits_of_bytes kind n) × (bits_of_bytes kind n ≤ 64)
some_of_bytes kinds.AbsoluteSetWord6 n some few = (omega arith, omega arith)
some_of_bytes kind n some few = (omega arith, omega arith)

-- ---- fields

pub proper_field : (kind : RelocationKind) (size : RowSize) (reached : Bounds)
    (bytes : List ℕ) → holds_field kind size reached ≡ true
    → IsProper (field_read kind size reached bytes)
proper_field kind (ByteSize n) reached bytes h =
    let parts = and_parts (ltb 0 n) (ltb n 9 && holds_value kind) h in
    let few = and_parts (ltb n 9) (holds_value kind) parts.1 in
    let s = some_of_bytes kind n (ltb-true 0 n parts.0) (ltb-true n 9 few.0) in
    proper_bytes (bits_of_bytes kind n) (number_of_bytes n bytes) s.0 s.1
proper_field kind (BitMasking bits insn) reached bytes h =
    let word = window_of (relocation_form insn) bytes in
    let form = insn_at insn bits word in
    by_jump (is_low_jump insn kind word)
    (bits_read form bits.start (bits_held form bits reached) (window_of (relocation_form form) bytes))
    (proper_bits form bits.start (bits_held form bits reached) (window_of (relocation_form form) bytes)
    (bits_are_held form bits reached (held_at insn bits reached word h)))
  where
    by_jump : (jump : Bool) (f : FieldValue) → IsProper f
        → IsProper (if jump then jump_read (window_of (relocation_form insn) bytes) else f)
    by_jump true f proper =
        let x = window_of (relocation_form insn) bytes in
        record { some = omega arith; inside = omega arith; small = omega arith }
    by_jump false f proper = proper

-- ---- with what the reach adds

to_sign : (b : ℤ × ℤ) (f : FieldValue) → IsProper f → leaves_one b f ≡ true
    → IsProper (up_to_sign b f)
to_sign b f proper h =
    let some = proper.some in
    let short = ltb-true f.known.end 64 (and_parts (ltb f.known.end 64)
    (not (ltb (2 ^ f.known.end) (difference_64 (cast_unsigned w64 b.1) (cast_unsigned w64 b.0)))
    && eqb (least_sum b f % 2 ^ f.known.start) 0) h).0 in
    record {
      some = omega arith;
      inside = omega arith;
      small = upper_below (sum_64 (least_sum b f) (steps_above b f * 2 ^ f.known.start))
          f.known.start
          (mod_below (least_sum b f + steps_above b f * 2 ^ f.known.start) (2 ^ 64) (omega arith))
          (omega arith);
    }

choice : (c : Bool) (f g : FieldValue) → IsProper f → (c ≡ true → IsProper g)
    → IsProper (if c then g else f)
choice true f g a b = b refl
choice false f g a b = a

pub proper_in_reach : (reached : Bounds) (f : FieldValue) → IsProper f
    → IsProper (with_reach reached f)
proper_in_reach None f proper = proper
proper_in_reach (Some b) f proper =
    choice (leaves_one b f) f (up_to_sign b f) proper (to_sign b f proper)

-- ---- with what the alignment adds

from_zero : (f : FieldValue) → IsProper f
    → IsProper (record f {
      known = record { start = 0; end = f.known.end };
      bits = f.bits * 2 ^ f.known.start;
    })
from_zero f proper =
    let some = proper.some in
    record {
      some = omega arith;
      inside = proper.inside;
      small = subst (λ k. f.bits * 2 ^ f.known.start < 2 ^ k)
          (let same : f.known.end ≡ f.known.end - 0 = omega arith in same)
          (moved_below f.bits f.known.start f.known.end proper.small (omega arith));
    }

pub proper_aligned : (alignment : ℕ) (f : FieldValue) → IsProper f
    → IsProper (with_alignment alignment f)
proper_aligned alignment f proper =
    choice (eqb f.rounding 0 && eqb (alignment % 2 ^ f.known.start) 0) f
    (record f {
      known = record { start = 0; end = f.known.end };
      bits = f.bits * 2 ^ f.known.start;
    }) proper (λ zero. from_zero f proper)
