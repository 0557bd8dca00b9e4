-- What the machine reads of an instruction to which a relocation was applied.
use Rattle.linker_laws.proofs.Imports.{AArch64, AArch64Instruction, AgreesInReach, AnyForm, BitMasking, BitRange, BitsWritten, Bool, D, Ds, FitsSigned, InstructionWritten, IsAligned, IsApplied, IsClear, IsInUnits, IsWithin, IsWritten, List, LoongArch64, MachOLow12, Movnz, None, Operands, Option, Ppc64, RelocationKind, RiscV, RowInfo, Shift10, SizeHolds, SizeReads, Some, UiType, Written, aarch64_form, aarch64_layout, always_clear, ap, arith, bits_from, bits_taken, cast_signed, cast_unsigned, clear_after, eqb, eqb-true, false, field, high_of, int_lt, int_rem_euclid, is_low_jump, is_sound_layout, layout_agrees, layout_check, layout_laid, loongarch_form, low_of, of_z-to_z, place_sum, places_cleared, plain_written as rows_written, pos, ppc64_form, ppc64_reads, reach_of, refl, relocation_form, relocation_layout, riscv_form, row_reads_in_reach, signed, stays_movk, subst, sym, taken_below, taken_in_units, taken_is_field, true, unsigned_abs, value_of, w64, window_of, ℕ, ℤ, ◌%◌, ◌-◌, ◌<◌, ◌^◌, ◌∙◌, ◌≡◌, ◌≤◌}
use Rattle.linker_elf.proofs.Halves.{row_holds}
use Rattle.linker_elf.proofs.Placed.{reads_as}
use Rattle.linker_laws.proofs.Sums.{small_cast, cast_low}

abbrev number_or_zero : Option ℤ → ℤ
number_or_zero None = pos 0
number_or_zero (Some v) = v

-- ---- the value, from the number of the formula

module _ (row : RowInfo) (o : Operands) (before after : List ℕ)
    (applied : IsApplied row o before after) (n : ℕ) (below : n < 2 ^ 64)
    (is : cast_signed w64 n ≡ applied.value) where
  pub fits : FitsSigned w64 applied.value
  fits = subst (FitsSigned w64) is (small_cast n below)

  pub holds : SizeHolds row.size applied.value after
  holds = row_holds row applied.value before after fits applied.accepted applied.written

  pub reads : (is_signed : Bool) → AgreesInReach is_signed row
      → SizeReads is_signed row.size row.kind (reach_of row) applied.value before after
  reads is_signed agrees =
      row_reads_in_reach is_signed row applied.value before after fits applied.accepted
      applied.written agrees

-- the value is that of the formula
pub value_is : (row : RowInfo) (o : Operands) (before after : List ℕ)
    (applied : IsApplied row o before after) (v : ℤ) → value_of row o ≡ Some v → v ≡ applied.value
value_is row o before after applied v e = ap number_or_zero (sym e ∙ applied.value_is)

-- ---- fields

-- the bits that are taken of a value are those of the formula's number
pub taken_bits : (bits : BitRange) (n : ℕ) (v : ℤ) → n < 2 ^ 64 → cast_signed w64 n ≡ v
    → bits_taken bits v ≡ field n bits.start bits.end
taken_bits bits n v below is =
    ap (λ z. field (cast_unsigned w64 z) bits.start bits.end) (sym is)
    ∙ ap (λ m. field m bits.start bits.end) (of_z-to_z w64 n below)

-- a value's low bits are those of its number
pub aligned_low : (n k : ℕ) (v : ℤ) → n < 2 ^ 64 → k < 65 → cast_signed w64 n ≡ v
    → IsAligned (2 ^ k) v → n % 2 ^ k ≡ 0
aligned_low n k v below short is aligned =
    ap unsigned_abs (sym (cast_low n k below short)
    ∙ ap (λ z. int_rem_euclid z (pos (2 ^ k))) is ∙ aligned)

-- A form whose layout is sound is neither that for MOVN and MOVZ nor the one for `jirl`.
no_movk : (insn : AnyForm) → is_sound_layout (relocation_layout insn) ≡ true
    → (bits : BitRange) (x : ℕ) → stays_movk insn bits x ≡ false
no_movk (AArch64 Movnz) sound bits x = cc
no_movk (AArch64 f) sound bits x = refl
no_movk (RiscV f) sound bits x = refl
no_movk (Ppc64 f) sound bits x = refl
no_movk (LoongArch64 f) sound bits x = refl

no_low_jump : (insn : AnyForm) → is_sound_layout (relocation_layout insn) ≡ true
    → (kind : RelocationKind) (x : ℕ) → is_low_jump insn kind x ≡ false
no_low_jump (LoongArch64 Shift10) sound kind x = cc
no_low_jump (LoongArch64 f) sound kind x = refl
no_low_jump (AArch64 f) sound kind x = refl
no_low_jump (RiscV f) sound kind x = refl
no_low_jump (Ppc64 f) sound kind x = refl

pub sound_written : (insn : AnyForm) → is_sound_layout (relocation_layout insn) ≡ true
    → (kind : RelocationKind) (bits : BitRange) (v : ℤ) (before after : List ℕ)
    → IsWritten (BitMasking bits insn) kind v before after → InstructionWritten insn bits v before after
sound_written insn sound kind bits v before after w =
    rows_written insn kind bits v before after
    (no_movk insn sound bits (window_of (relocation_form insn) before))
    (no_low_jump insn sound kind (window_of (relocation_form insn) before)) w

-- the places that the form only ORs hold 0 once they are cleared
clear_of : (insn : AnyForm) → is_sound_layout (relocation_layout insn) ≡ true
    → (bits : BitRange) (before clear : ℕ)
    → BitsWritten (places_cleared insn bits before) 0 before clear
    → IsClear ((relocation_form insn).places clear) clear
clear_of (AArch64 MachOLow12) sound bits before clear laid = cc
clear_of (AArch64 f) sound bits before clear laid =
    clear_after ((aarch64_form f).places before) before clear laid.placed
clear_of (RiscV UiType) sound bits before clear laid = cc
clear_of (RiscV f) sound bits before clear laid =
    always_clear ((riscv_form f).places clear) clear refl
clear_of (Ppc64 D) sound bits before clear laid =
    always_clear ((ppc64_form D).places clear) clear refl
clear_of (Ppc64 f) sound bits before clear laid =
    always_clear ((ppc64_form f).places clear) clear refl
clear_of (LoongArch64 Shift10) sound bits before clear laid = cc
clear_of (LoongArch64 f) sound bits before clear laid =
    always_clear ((loongarch_form f).places clear) clear refl

-- what the machine reads of an instruction: a word of DQ-form without its low 4 bits
abbrev pub insn_reads : AnyForm → ℕ → ℤ
insn_reads (Ppc64 f) x = ppc64_reads f x
insn_reads insn x = (relocation_form insn).machine x

-- the instructions of which a write places the bits that it takes
abbrev pub is_plain : AnyForm → Bool
is_plain (Ppc64 Ds) = false
is_plain insn = true

-- a displacement that may be one of DQ-form begins with bit 0
abbrev pub begins : AnyForm → ℕ → Bool
begins (Ppc64 Ds) start = eqb start 0
begins insn start = true

aarch64_plain : (f : AArch64Instruction) → is_sound_layout (aarch64_layout f) ≡ true
    → (bits : BitRange) (v : ℤ) (before after : List ℕ)
    → (w : InstructionWritten (AArch64 f) bits v before after)
    → Written (aarch64_form f) (bits_taken bits v) (int_lt v (pos 0)) w.clear
    (window_of (aarch64_form f) after)
aarch64_plain Movnz sound bits v before after w = cc
aarch64_plain f sound bits v before after w = w.written

plain_written : (insn : AnyForm) → is_sound_layout (relocation_layout insn) ≡ true
    → is_plain insn ≡ true → (bits : BitRange) (v : ℤ) (before after : List ℕ)
    → (w : InstructionWritten insn bits v before after)
    → Written (relocation_form insn) (bits_taken bits v) (int_lt v (pos 0)) w.clear
    (window_of (relocation_form insn) after)
plain_written (AArch64 f) sound plain bits v before after w =
    aarch64_plain f sound bits v before after w
plain_written (RiscV f) sound plain bits v before after w = w.written
plain_written (LoongArch64 f) sound plain bits v before after w = w.written
plain_written (Ppc64 Ds) sound plain bits v before after w = cc
plain_written (Ppc64 f) sound plain bits v before after w = w.written

-- The machine reads what the form reads of a window in which f was written.
record Read (insn : AnyForm) (f : ℕ) (neg : Bool) (after : ℕ) : Type 0 where
  pub old : ℕ
  pub window : ℕ
  pub written : Written (relocation_form insn) f neg old window
  pub clear : IsClear ((relocation_form insn).places old) old
  pub reads : insn_reads insn after ≡ (relocation_form insn).machine window

read_of : (insn : AnyForm) → is_sound_layout (relocation_layout insn) ≡ true
    → (bits : BitRange) (v : ℤ) (before after : List ℕ) → FitsSigned w64 v
    → bits.start < bits.end → bits.end ≤ 64 → begins insn bits.start ≡ true
    → IsInUnits (BitMasking bits insn) v before
    → InstructionWritten insn bits v before after
    → Read insn (bits_taken bits v) (int_lt v (pos 0)) (window_of (relocation_form insn) after)
read_of (Ppc64 Ds) sound bits v before after small some inside from units w =
    let start = eqb-true bits.start 0 from in
    let r = reads_as (bits_taken bits v) (window_of (ppc64_form Ds) before) w.clear
    (window_of (ppc64_form Ds) after) (int_lt v (pos 0)) (taken_below bits v inside)
    (λ is. taken_in_units bits v small start inside some (units is)) w.clears w.written in
    record {
      old = r.old;
      window = r.window;
      written = r.written;
      clear = always_clear ((ppc64_form Ds).places r.old) r.old refl;
      reads = r.reads;
    }
read_of (Ppc64 f) sound bits v before after small some inside from units w =
    record {
      old = w.clear;
      window = window_of (ppc64_form f) after;
      written = w.written;
      clear = clear_of (Ppc64 f) sound bits (window_of (ppc64_form f) before) w.clear w.clears;
      reads = refl;
    }
read_of (AArch64 f) sound bits v before after small some inside from units w =
    record {
      old = w.clear;
      window = window_of (aarch64_form f) after;
      written = aarch64_plain f sound bits v before after w;
      clear = clear_of (AArch64 f) sound bits (window_of (aarch64_form f) before) w.clear w.clears;
      reads = refl;
    }
read_of (RiscV f) sound bits v before after small some inside from units w =
    record {
      old = w.clear;
      window = window_of (riscv_form f) after;
      written = w.written;
      clear = clear_of (RiscV f) sound bits (window_of (riscv_form f) before) w.clear w.clears;
      reads = refl;
    }
read_of (LoongArch64 f) sound bits v before after small some inside from units w =
    record {
      old = w.clear;
      window = window_of (loongarch_form f) after;
      written = w.written;
      clear = clear_of (LoongArch64 f) sound bits (window_of (loongarch_form f) before) w.clear
          w.clears;
      reads = refl;
    }

module _ (insn : AnyForm) (sound : is_sound_layout (relocation_layout insn) ≡ true)
    (bits : BitRange) (v : ℤ) (before after : List ℕ)
    (written : InstructionWritten insn bits v before after) (inside : bits.end ≤ 64) where
  -- what stands at the places
  pub stands : is_plain insn ≡ true → place_sum ((relocation_form insn).places written.clear)
      (window_of (relocation_form insn) after)
      ≡ (bits_taken bits v - bits_taken bits v % 2 ^ low_of (relocation_layout insn))
      % 2 ^ high_of (relocation_layout insn)
  stands plain =
      layout_laid (relocation_layout insn) sound (bits_taken bits v) (int_lt v (pos 0))
      written.clear (window_of (relocation_form insn) after) (taken_below bits v inside)
      (plain_written insn sound plain bits v before after written)
      (clear_of insn sound bits (window_of (relocation_form insn) before) written.clear
      written.clears)

  -- what the machine reads of a value within bounds, whatever checks them
  pub reads_within : (b : ℤ × ℤ) (a : ℕ)
      → layout_check (relocation_layout insn) bits.start bits.end (Some b) a ≡ true
      → FitsSigned w64 v → bits.start < bits.end → IsWithin (Some b) v → IsAligned a v
      → begins insn bits.start ≡ true → IsInUnits (BitMasking bits insn) v before
      → insn_reads insn (window_of (relocation_form insn) after) ≡ bits_from bits.start v
  reads_within b a check small some within aligned from units =
      let r = read_of insn sound bits v before after small some inside from units written in
      r.reads ∙ layout_agrees (relocation_layout insn) sound bits.start bits.end (Some b) a check v
      (bits_taken bits v) r.old r.window within aligned (taken_is_field bits v small some inside)
      r.clear r.written

-- the low 16 bits of a value that the machine reads of DS-form, or of DQ-form, in two's complement
pub ds_stands : (v : ℤ) (before after : List ℕ) → FitsSigned w64 v
    → IsInUnits (BitMasking (record { start = 0; end = 16 }) (Ppc64 Ds)) v before
    → InstructionWritten (Ppc64 Ds) (record { start = 0; end = 16 }) v before after
    → ppc64_reads Ds (window_of (ppc64_form Ds) after)
    ≡ signed 16 ((bits_taken (record { start = 0; end = 16 }) v
    - bits_taken (record { start = 0; end = 16 }) v % 2 ^ 2) % 2 ^ 16)
ds_stands v before after small units w =
    let bits : BitRange = record { start = 0; end = 16 } in
    let r = read_of (Ppc64 Ds) refl bits v before after small (omega arith) (omega arith) refl units
    w in
    r.reads ∙ ap (signed 16) (layout_laid (relocation_layout (Ppc64 Ds)) refl (bits_taken bits v)
    (int_lt v (pos 0)) r.old r.window (taken_below bits v (omega arith)) r.written r.clear)
