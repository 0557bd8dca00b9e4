-- What the machine reads of an instruction into which a relocation's value was written.
use Rattle.linker_elf.proofs.Imports.{AArch64, AArch64Instruction, AgreesBy, AgreesInReach, AnyForm, BitMasking, BitRange, BitsWritten, Bool, Bounds, ByteSize, Call36, CluiType, D, Ds, Fits, FitsSigned, IType, ImmediateBit, InstructionAgrees, InstructionReads, InstructionWritten, IsAccepted, IsAligned, IsClear, IsInUnits, IsInWords, IsSameIn, IsTrue, IsWithin, IsWritten, List, LoongArch64, LoongArch64Instruction, MachOLow12, MoveReads, Movkz, Movnz, None, Ppc64, Ppc64Form, RelocationKind, RiscV, RiscVInstruction, RowInfo, RowSize, SType, Shift10, Signed, SizeAgrees, SizeReads, Some, UType, UiType, aarch64_form, aarch64_reach, aarch64_reads, access_scale, always_clear, and_parts, ap, arith, bit_at, bit_bounds, bits_at, bits_from, bits_taken, cases_lt, cast_unsigned, consecutive_bits_all, eqb-true, false, field, if◌then◌else◌, inl, inr, insn_at, int_lt, int_rem_euclid, int_rem_euclid_is, ints, is_call30, is_clear_at, is_low_jump, is_movk, is_of_halves, is_of_words, is_supported, layout_laid, loongarch_form, loongarch_reach, low_part, lt-ltb, ltb, ltb-true, mod_below, negsuc, not, one_field, ored_cleared, places_cleared, pos, pow_pos, ppc64_form, ppc64_reach, reach_of, reach_of_size, refl, relocation_form, relocation_layout, replaced, riscv_reach, shift10_imm16, shift_of, signed_cases, stays_movk, subst, subst_below, sym, takes_size, true, unsigned_abs, value_at, w64, window_of, with_bit_31_if, ℕ, ℤ, ⊤, ◌%◌, ◌&&◌, ◌*ℤ◌, ◌+◌, ◌-ℤ◌, ◌-◌, ◌/◌, ◌<◌, ◌==◌, ◌^◌, ◌∙◌, ◌≡◌, ◌≤◌, ◌⊎◌}
use Rattle.linker_elf.proofs.Clearing.{same_window, clear_after}
use Rattle.linker_elf.proofs.Agreement.{rem_rem, from_zero, layout_agrees}
use Rattle.linker_elf.proofs.ReadNumbers.{signed_fits}
use Rattle.linker_elf.proofs.Placed.{reads_as}
use Rattle.linker_elf.proofs.Taken.{taken_is_field, taken_below, taken_in_units}

-- ---- what is within reach of one instruction is within the row's range

aarch64_within : (f : AArch64Instruction) (bits : BitRange) (own : Bounds) (v : ℤ)
    → IsWithin (aarch64_reach f bits own) v → IsWithin own v
aarch64_within f bits None v h = tt
aarch64_within Movnz bits (Some b) v h = h
aarch64_within f bits (Some b) v h = h

riscv_within : (f : RiscVInstruction) (own : Bounds) (v : ℤ) → is_of_halves f ≡ false
    → IsWithin (riscv_reach f own) v → IsWithin own v
riscv_within UType own v whole h = cc
riscv_within IType own v whole h = cc
riscv_within SType own v whole h = cc
riscv_within CluiType own v whole h = cc
riscv_within UiType own v whole h = cc
riscv_within f own v whole h = h

ppc64_within : (f : Ppc64Form) (bits : BitRange) (own : Bounds) (v : ℤ)
    → IsWithin (ppc64_reach f bits own) v → IsWithin own v
ppc64_within f bits None v h = tt
ppc64_within D bits (Some b) v h = h
ppc64_within f bits (Some b) v h = h

loongarch_within : (f : LoongArch64Instruction) (own : Bounds) (v : ℤ) → is_of_words f ≡ false
    → IsWithin (loongarch_reach f own) v → IsWithin own v
loongarch_within Call36 own v whole h = cc
loongarch_within f own v whole h = h

-- The value is within bounds, if the instruction's number is that of the value's bits.
abbrev IsInside : AnyForm → Bounds → ℤ → Type 0
IsInside (AArch64 f) b v = IsWithin b v
IsInside (RiscV f) b v = is_of_halves f ≡ false → IsWithin b v
IsInside (Ppc64 f) b v = IsWithin b v
IsInside (LoongArch64 f) b v = is_of_words f ≡ false → IsWithin b v

inside_own : (insn : AnyForm) (kind : RelocationKind) (bits : BitRange) (own : Bounds)
    (v : ℤ) → IsWithin (reach_of_size kind (BitMasking bits insn) own) v → IsInside insn own v
inside_own (AArch64 f) kind bits own v h = aarch64_within f bits own v h
inside_own (RiscV f) kind bits own v h = λ whole. riscv_within f own v whole h
inside_own (Ppc64 f) kind bits own v h = ppc64_within f bits own v h
inside_own (LoongArch64 f) kind bits own v h = λ whole. loongarch_within f own v whole h

inside_reach : (insn : AnyForm) (b : Bounds) (v : ℤ) → IsWithin b v
    → IsInside insn b v
inside_reach (AArch64 f) b v h = h
inside_reach (RiscV f) b v h = λ whole. h
inside_reach (Ppc64 f) b v h = h
inside_reach (LoongArch64 f) b v h = λ whole. h

-- the same of a size
abbrev IsInsideSize : RowSize → Bounds → ℤ → Type 0
IsInsideSize (ByteSize n) b v = ⊤
IsInsideSize (BitMasking bits insn) b v = IsInside insn b v

own_size : (kind : RelocationKind) (size : RowSize) (own : Bounds) (v : ℤ)
    → IsWithin (reach_of_size kind size own) v → IsInsideSize size own v
own_size kind (ByteSize n) own v h = tt
own_size kind (BitMasking bits insn) own v h = inside_own insn kind bits own v h

reached_size : (size : RowSize) (b : Bounds) (v : ℤ) → IsWithin b v → IsInsideSize size b v
reached_size (ByteSize n) b v h = tt
reached_size (BitMasking bits insn) b v h = inside_reach insn b v h

-- ---- the window is ready once it is cleared

aarch64_clear : (f : AArch64Instruction) (before after : ℕ) → BitsWritten (ored_cleared ((aarch64_form f).places before)) 0 before after → IsClear ((aarch64_form f).places after) after
aarch64_clear MachOLow12 before after laid = consecutive_bits_all (λ (p : ImmediateBit). IsTrue (is_clear_at p.mark (bit_at after p.insn_bit))) (access_scale after + 11 + 1 - access_scale after) (access_scale after) 10 0 replaced (λ j l. refl)
aarch64_clear f before after laid = clear_after ((aarch64_form f).places before) before after laid.placed

shift_kept : (f : AArch64Instruction) (s before after : ℕ) → BitsWritten (ored_cleared ((aarch64_form f).places before)) 0 before after → (f ≡ Movnz → shift_of before ≡ s) → f ≡ Movnz → shift_of after ≡ s
shift_kept f s before after laid h e =
    ap shift_of (same_window 0 before after (subst (λ g. BitsWritten (ored_cleared ((aarch64_form g).places before)) 0 before after) e laid)) ∙ h e

loongarch_ready : (f : LoongArch64Instruction) (is_signed : Bool) (bits : BitRange) (before after : ℕ) → BitsWritten (places_cleared (LoongArch64 f) bits before) 0 before after
    → (f ≡ Shift10 → is_signed ≡ true → 12 < bits.end - bits.start) → is_signed ≡ true → IsClear ((loongarch_form f).places after) after
loongarch_ready Shift10 is_signed bits before after laid wide t =
    let l : BitsWritten (ored_cleared ((loongarch_form Shift10).places before)) 0 before after = rw (lt-ltb 12 (bits.end - bits.start) (wide refl t)) at laid in
    clear_after ((loongarch_form Shift10).places before) before after l.placed
loongarch_ready f is_signed bits before after laid wide t = always_clear ((loongarch_form f).places after) after refl

-- ---- what is read

part_of_part : (z : ℤ) (k n : ℕ) → n ≤ k
    → int_rem_euclid (int_rem_euclid z (pos (2 ^ k))) (pos (2 ^ n)) ≡ int_rem_euclid z (pos (2 ^ n))
part_of_part (pos b) k n l = rem_rem (pos b) (b % 2 ^ k) k n l refl
part_of_part (negsuc b) k n l = rem_rem (negsuc b) (2 ^ k - 1 - b % 2 ^ k) k n l refl

-- MOVN and MOVZ of 32 bits: those of 64, of whose number the register keeps 32 bits
kept_bits : (s : ℕ) (n : ℤ) → (s ≡ 0) ⊎ (s ≡ 16)
    → bits_from s (int_rem_euclid n (pos (2 ^ 32)))
    ≡ int_rem_euclid (bits_from s n) (pos (2 ^ (32 - s)))
kept_bits s n (inl e) =
    subst (λ t. bits_from t (int_rem_euclid n (pos (2 ^ 32)))
    ≡ int_rem_euclid (bits_from t n) (pos (2 ^ (32 - t)))) (sym e)
    (from_zero (int_rem_euclid n (pos (2 ^ 32)))
    ∙ ap (λ z. int_rem_euclid z (pos (2 ^ 32))) (sym (from_zero n)))
kept_bits s (pos b) (inr e) =
    subst (λ t. bits_from t (int_rem_euclid (pos b) (pos (2 ^ 32)))
    ≡ int_rem_euclid (bits_from t (pos b)) (pos (2 ^ (32 - t)))) (sym e) (ap pos (omega arith))
kept_bits s (negsuc b) (inr e) =
    subst (λ t. bits_from t (int_rem_euclid (negsuc b) (pos (2 ^ 32)))
    ≡ int_rem_euclid (bits_from t (negsuc b)) (pos (2 ^ (32 - t)))) (sym e) (ap pos (omega arith))

-- a shift below 32 is 0 or 16
short_shift : (word s e : ℕ) → shift_of word ≡ s → s < e → e ≤ 32 → (s ≡ 0) ⊎ (s ≡ 16)
short_shift word s e shift some short =
    elim (cases_lt (field word 21 23) 1) [
      | inl none ↦ inl (omega arith)
      | inr one ↦ inr (omega arith)
    ]

move_reads : (narrow : Bool) (bits : BitRange) (b : Bounds) (v : ℤ) (after : ℕ)
    → (narrow ≡ true → ((bits.start ≡ 0) ⊎ (bits.start ≡ 16)) × (bits.end ≤ 32))
    → IsSameIn b (bits.end - bits.start)
    (aarch64_reads Movnz bits.start (with_bit_31_if narrow after)) (bits_from bits.start v)
    → MoveReads narrow bits b v after
move_reads false bits b v after short same = same
move_reads true bits (Some b) v after short same =
    kept_bits bits.start ((aarch64_form Movnz).machine (after + 2 ^ 31)) (short refl).0
    ∙ ap (λ z. int_rem_euclid z (pos (2 ^ (32 - bits.start)))) same
move_reads true bits None v after short same =
    let n = (aarch64_form Movnz).machine (after + 2 ^ 31) in
    ap (λ z. int_rem_euclid z (pos (2 ^ (bits.end - bits.start))))
    (kept_bits bits.start n (short refl).0)
    ∙ part_of_part (bits_from bits.start n) (32 - bits.start) (bits.end - bits.start)
    (let end = (short refl).1 in omega arith) ∙ same.0

aarch64_instruction_reads : (is_signed : Bool) (f : AArch64Instruction) (bits : BitRange)
    (reached : Bounds) (a : ℕ) (v : ℤ) (before after : List ℕ)
    → FitsSigned w64 v → bits.start < bits.end → bits.end ≤ 64 → IsWithin reached v
    → IsAligned a v
    → InstructionWritten (AArch64 f) bits v before after
    → InstructionAgrees is_signed (AArch64 f) bits reached a
    → InstructionReads is_signed (AArch64 f) bits reached v (window_of (aarch64_form f) before)
    (window_of (aarch64_form f) after)
aarch64_instruction_reads is_signed Movnz bits reached a v before after small some inside within
    aligned w agrees = λ shift short.
    let x = window_of (aarch64_form Movnz) before in
    let y = window_of (aarch64_form Movnz) after in
    move_reads (bit_at x 31 == 0) bits reached v y
    (λ narrow. let end = short (eqb-true (bit_at x 31) 0 narrow) in
    (short_shift x bits.start bits.end shift some end, end))
    (agrees v (bits_taken bits v) w.clear (with_bit_31_if (bit_at x 31 == 0) y) within aligned
    (taken_is_field bits v small some inside) (
      aarch64_clear Movnz x w.clear w.clears,
      shift_kept Movnz bits.start x w.clear w.clears (λ e. shift),
    ) w.written)
aarch64_instruction_reads is_signed f bits reached a v before after small some inside within
    aligned w agrees =
    let x = window_of (aarch64_form f) before in
    agrees v (bits_taken bits v) w.clear (window_of (aarch64_form f) after) within aligned
    (taken_is_field bits v small some inside)
    (aarch64_clear f x w.clear w.clears, λ e. cc) w.written

ppc64_instruction_reads : (is_signed : Bool) (f : Ppc64Form) (bits : BitRange)
    (reached : Bounds) (a : ℕ) (v : ℤ) (before after : List ℕ)
    → FitsSigned w64 v → bits.start < bits.end → bits.end ≤ 64 → IsWithin reached v
    → IsAligned a v → IsInUnits (BitMasking bits (Ppc64 f)) v before
    → InstructionWritten (Ppc64 f) bits v before after
    → InstructionAgrees is_signed (Ppc64 f) bits reached a
    → InstructionReads is_signed (Ppc64 f) bits reached v (window_of (ppc64_form f) before)
    (window_of (ppc64_form f) after)
ppc64_instruction_reads is_signed Ds bits reached a v before after small some inside within aligned
    units w agrees = λ start.
    let r = reads_as (bits_taken bits v) (window_of (ppc64_form Ds) before) w.clear
    (window_of (ppc64_form Ds) after) (int_lt v (pos 0)) (taken_below bits v inside)
    (λ is. taken_in_units bits v small (start is) inside some (units is)) w.clears w.written in
    subst (λ z. IsSameIn reached (bits.end - bits.start) z (bits_from bits.start v)) (sym r.reads)
    (agrees v (bits_taken bits v) r.old r.window within aligned
    (taken_is_field bits v small some inside) tt r.written)
ppc64_instruction_reads is_signed f bits reached a v before after small some inside within aligned
    units w agrees =
    agrees v (bits_taken bits v) w.clear (window_of (ppc64_form f) after) within aligned
    (taken_is_field bits v small some inside) tt w.written

instruction_reads : (is_signed : Bool) (insn : AnyForm) (bits : BitRange)
    (reached : Bounds) (a : ℕ) (v : ℤ) (before after : List ℕ)
    → FitsSigned w64 v → bits.start < bits.end → bits.end ≤ 64 → IsInside insn reached v
    → IsAligned a v → IsInUnits (BitMasking bits insn) v before
    → InstructionWritten insn bits v before after → InstructionAgrees is_signed insn bits reached a
    → InstructionReads is_signed insn bits reached v (window_of (relocation_form insn) before)
    (window_of (relocation_form insn) after)
instruction_reads is_signed (AArch64 f) bits reached a v before after small some inside within
    aligned units w agrees =
    aarch64_instruction_reads is_signed f bits reached a v before after small some inside within
    aligned w agrees
instruction_reads is_signed (RiscV f) bits reached a v before after small some inside within aligned
    units w agrees = λ whole.
    agrees whole v (bits_taken bits v) w.clear
    (window_of (relocation_form (RiscV f)) after) (within whole) aligned
    (taken_is_field bits v small some inside) tt w.written
instruction_reads is_signed (Ppc64 f) bits reached a v before after small some inside within aligned
    units w agrees =
    ppc64_instruction_reads is_signed f bits reached a v before after small some inside within
    aligned units w agrees
instruction_reads is_signed (LoongArch64 f) bits reached a v before after small some inside within
    aligned units w agrees = λ whole wide.
    let x = window_of (loongarch_form f) before in
    agrees whole v (bits_taken bits v) w.clear (window_of (loongarch_form f) after)
    (within whole) aligned
    (taken_is_field bits v small some inside)
    (loongarch_ready f is_signed bits x w.clear w.clears wide) w.written

-- a row that can be written takes some of a value's 64 bits
pub taken_bits_inside : (kind : RelocationKind) (bits : BitRange) (insn : AnyForm)
    → takes_size kind (BitMasking bits insn) ≡ true → (bits.start < bits.end) × (bits.end ≤ 64)
taken_bits_inside kind bits insn takes =
    let t = and_parts (ltb bits.start bits.end && ltb bits.end 65) (not (is_call30 insn)) takes in
    let ends = and_parts (ltb bits.start bits.end) (ltb bits.end 65) t.0 in
    let below = ltb-true bits.end 65 ends.1 in
    (ltb-true bits.start bits.end ends.0, omega arith)

-- ---- MOVK, and `jirl` at a low part

-- a write elsewhere places the row's bits of the value in the row's form
pub plain_written : (insn : AnyForm) (kind : RelocationKind) (bits : BitRange) (v : ℤ)
    (before after : List ℕ)
    → stays_movk insn bits (window_of (relocation_form insn) before) ≡ false
    → is_low_jump insn kind (window_of (relocation_form insn) before) ≡ false
    → IsWritten (BitMasking bits insn) kind v before after → InstructionWritten insn bits v before after
plain_written insn kind bits v before after move jump w =
    subst (λ t. InstructionWritten insn (if t then record { start = 2; end = 18 } else bits)
    (if t then low_part v else v) before after) jump
    (subst (λ t. InstructionWritten (if t then AArch64 Movkz else insn)
    (bits_at insn kind bits (window_of (relocation_form insn) before))
    (value_at insn kind v (window_of (relocation_form insn) before)) before after) move w)

-- at a MOVK it places them in that form
pub movk_written : (insn : AnyForm) (kind : RelocationKind) (bits : BitRange) (v : ℤ)
    (before after : List ℕ)
    → stays_movk insn bits (window_of (relocation_form insn) before) ≡ true
    → IsWritten (BitMasking bits insn) kind v before after
    → InstructionWritten (AArch64 Movkz) bits v before after
movk_written (AArch64 Movnz) kind bits v before after move w =
    subst (λ t. InstructionWritten (if t then AArch64 Movkz else AArch64 Movnz) bits v before after) move w
movk_written (AArch64 f) kind bits v before after move w = cc
movk_written (RiscV f) kind bits v before after move w = cc
movk_written (Ppc64 f) kind bits v before after move w = cc
movk_written (LoongArch64 f) kind bits v before after move w = cc

-- and at a `jirl` bits 2 to 17 of the low part
pub jump_written : (insn : AnyForm) (kind : RelocationKind) (bits : BitRange) (v : ℤ)
    (before after : List ℕ)
    → is_low_jump insn kind (window_of (relocation_form insn) before) ≡ true
    → IsWritten (BitMasking bits insn) kind v before after
    → InstructionWritten (LoongArch64 Shift10) (record { start = 2; end = 18 }) (low_part v) before
    after
jump_written (LoongArch64 Shift10) kind bits v before after jump w =
    subst (λ t. InstructionWritten (LoongArch64 Shift10)
    (if t then record { start = 2; end = 18 } else bits) (if t then low_part v else v) before after)
    jump w
jump_written (LoongArch64 f) kind bits v before after jump w = cc
jump_written (AArch64 f) kind bits v before after jump w = cc
jump_written (RiscV f) kind bits v before after jump w = cc
jump_written (Ppc64 f) kind bits v before after jump w = cc

-- MOVK takes 16 bits at most
pub few_bits : (insn : AnyForm) (bits : BitRange) (x : ℕ)
    → stays_movk insn bits x ≡ true → bits.end - bits.start ≤ 16
few_bits (AArch64 Movnz) bits x move =
    let short = ltb-true (bits.end - bits.start) 17
    (and_parts (is_movk x) (ltb (bits.end - bits.start) 17) move).1 in
    omega arith
few_bits (AArch64 f) bits x move = cc
few_bits (RiscV f) bits x move = cc
few_bits (Ppc64 f) bits x move = cc
few_bits (LoongArch64 f) bits x move = cc

taken_short : (bits : BitRange) (v : ℤ) → bits.end - bits.start ≤ 16 → bits_taken bits v < 2 ^ 16
taken_short bits v short =
    subst_below (bits_taken bits v) (bits.end - bits.start) 16
    (mod_below (cast_unsigned w64 v / 2 ^ bits.start) (2 ^ (bits.end - bits.start))
    (pow_pos (bits.end - bits.start))) short

-- the low part is short
low_within : (v : ℤ) → IsWithin (Some (bit_bounds 18 Signed)) (low_part v)
low_within v =
    let f = bits_taken (record { start = 0; end = 12 }) v in
    let small : f < 2 ^ 12 = omega arith in
    elim (signed_cases 12 f) [
      | inl a ↦ subst (IsWithin (Some (bit_bounds 18 Signed))) (sym a.1)
          (omega (arith, ints), omega (arith, ints))
      | inr a ↦ subst (IsWithin (Some (bit_bounds 18 Signed))) (sym a.1)
          (omega (arith, ints), omega (arith, ints))
    ]

pub low_fits : (v : ℤ) → FitsSigned w64 (low_part v)
low_fits v = signed_fits 12 (bits_taken (record { start = 0; end = 12 }) v) (omega arith) (omega arith) (omega arith)

-- what is written fits the form in which it is
pub fits_at : (insn : AnyForm) (kind : RelocationKind) (bits : BitRange) (v : ℤ)
    (x : ℕ) → Fits (relocation_form insn) (bits_taken bits v) x
    → Fits (relocation_form (insn_at insn bits x))
    (bits_taken (bits_at insn kind bits x) (value_at insn kind v x)) x
fits_at (AArch64 Movnz) kind bits v x fits = by_movk (stays_movk (AArch64 Movnz) bits x) refl
  where
    by_movk : (move : Bool) → stays_movk (AArch64 Movnz) bits x ≡ move
        → Fits (relocation_form (if move then AArch64 Movkz else AArch64 Movnz)) (bits_taken bits v) x
    by_movk true e = taken_short bits v (few_bits (AArch64 Movnz) bits x e)
    by_movk false e = fits
fits_at (LoongArch64 Shift10) kind bits v x fits = by_jump (is_low_jump (LoongArch64 Shift10) kind x)
  where
    by_jump : (jump : Bool) → Fits (loongarch_form Shift10)
        (bits_taken (if jump then record { start = 2; end = 18 } else bits)
        (if jump then low_part v else v)) x
    by_jump true = taken_short (record { start = 2; end = 18 }) (low_part v) (omega arith)
    by_jump false = fits
fits_at (AArch64 f) kind bits v x fits = fits
fits_at (RiscV f) kind bits v x fits = fits
fits_at (Ppc64 f) kind bits v x fits = fits
fits_at (LoongArch64 f) kind bits v x fits = fits

-- the window is that of the row's form
pub window_at : (insn : AnyForm) (bits : BitRange) (x : ℕ)
    → (relocation_form (insn_at insn bits x)).window ≡ (relocation_form insn).window
window_at (AArch64 Movnz) bits x = by_movk (stays_movk (AArch64 Movnz) bits x)
  where
    by_movk : (move : Bool)
        → (relocation_form (if move then AArch64 Movkz else AArch64 Movnz)).window
        ≡ (relocation_form (AArch64 Movnz)).window
    by_movk true = refl
    by_movk false = refl
window_at (AArch64 f) bits x = refl
window_at (RiscV f) bits x = refl
window_at (Ppc64 f) bits x = refl
window_at (LoongArch64 f) bits x = refl

pub value_fits : (insn : AnyForm) (kind : RelocationKind) (v : ℤ) (x : ℕ)
    → FitsSigned w64 v → FitsSigned w64 (value_at insn kind v x)
value_fits insn kind v x small = by_jump (is_low_jump insn kind x)
  where
    by_jump : (jump : Bool) → FitsSigned w64 (if jump then low_part v else v)
    by_jump true = low_fits v
    by_jump false = small

movk_reads : (bits : BitRange) (v : ℤ) (before after : List ℕ) → bits.end ≤ 64
    → bits.end - bits.start ≤ 16 → InstructionWritten (AArch64 Movkz) bits v before after
    → (aarch64_form Movkz).machine (window_of (aarch64_form Movkz) after) ≡ pos (bits_taken bits v)
movk_reads bits v before after inside short w =
    let small = taken_short bits v short in
    let sum = layout_laid (relocation_layout (AArch64 Movkz)) refl (bits_taken bits v)
    (int_lt v (pos 0)) w.clear (window_of (aarch64_form Movkz) after) (taken_below bits v inside)
    w.written (aarch64_clear Movkz (window_of (aarch64_form Movkz) before) w.clear w.clears) in
    ap pos (sum ∙ omega arith)

-- the low part of a multiple of 4 is one
low_aligned : (v : ℤ) → FitsSigned w64 v → IsAligned 4 v → IsAligned 4 (low_part v)
low_aligned v small aligned =
    let bits : BitRange = record { start = 0; end = 12 } in
    let f = bits_taken bits v in
    let is : pos f ≡ int_rem_euclid v (pos (2 ^ 12)) =
    taken_is_field bits v small (omega arith) (omega arith)
    ∙ ap (λ z. int_rem_euclid z (pos (2 ^ 12))) (from_zero v) in
    let rest : f % 4 ≡ 0 =
    ap unsigned_abs (rem_rem v f 12 2 (omega arith) is ∙ aligned) in
    elim (signed_cases 12 f) [
      | inl a ↦ subst (IsAligned 4) (sym a.1) (ap pos rest)
      | inr a ↦ subst (IsAligned 4) (sym a.1) (less f (omega arith) rest)
    ]
  where
    less : (f : ℕ) → f < 2 ^ 12 → f % 4 ≡ 0 → IsAligned 4 (pos f -ℤ pos (2 ^ 12))
    less f short rest =
        int_rem_euclid_is (pos f -ℤ pos (2 ^ 12)) (pos 4) 4 (2 ^ 10 - f / 4) 0 (omega arith) refl
        (omega (arith, ints))

jump_reads : (v : ℤ) (before after : List ℕ) → FitsSigned w64 v → IsAligned 4 v
    → InstructionWritten (LoongArch64 Shift10) (record { start = 2; end = 18 }) (low_part v) before
    after
    → (loongarch_form Shift10).machine (window_of (loongarch_form Shift10) after) *ℤ pos 4
    ≡ low_part v
jump_reads v before after small aligned w =
    let bits : BitRange = record { start = 2; end = 18 } in
    let z = low_part v in
    let x = window_of (loongarch_form Shift10) before in
    let y = window_of (loongarch_form Shift10) after in
    let multiple = low_aligned v small aligned in
    let reads : (loongarch_form Shift10).machine y ≡ bits_from 2 z =
    layout_agrees (one_field shift10_imm16) refl 2 18 (Some (bit_bounds 18 Signed)) 4 refl z
    (bits_taken bits z) w.clear y (low_within v) multiple
    (taken_is_field bits z (low_fits v) (omega arith) (omega arith))
    (loongarch_ready Shift10 true bits x w.clear w.clears (λ e t. omega arith) refl) w.written in
    ap (λ m. m *ℤ pos 4) reads ∙ four_times z multiple
  where
    four_times : (z : ℤ) → IsAligned 4 z → bits_from 2 z *ℤ pos 4 ≡ z
    four_times (pos n) e = let rest : n % 4 ≡ 0 = ap unsigned_abs e in ap pos (omega arith)
    four_times (negsuc n) e = omega (arith, ints)

field_reads : (is_signed : Bool) (insn : AnyForm) (kind : RelocationKind)
    (bits : BitRange) (reached : Bounds) (a : ℕ) (v : ℤ) (before after : List ℕ)
    → FitsSigned w64 v → bits.start < bits.end → bits.end ≤ 64 → IsInside insn reached v
    → IsAligned a v → IsInUnits (BitMasking bits insn) v before
    → IsInWords (BitMasking bits insn) kind v before
    → IsWritten (BitMasking bits insn) kind v before after
    → InstructionAgrees is_signed insn bits reached a
    → SizeReads is_signed (BitMasking bits insn) kind reached v before after
field_reads is_signed insn kind bits reached a v before after small some inside within aligned units
    words w agrees =
    record {
      other = λ move jump.
          instruction_reads is_signed insn bits reached a v before after small some inside within
          aligned units (plain_written insn kind bits v before after move jump w) agrees;
      movk = λ move.
          of_movk insn move
          (movk_reads bits v before after inside (few_bits insn bits (window_of (relocation_form insn) before) move)
          (movk_written insn kind bits v before after move w));
      jump = λ jump.
          of_jump insn jump
          (jump_reads v before after small (words jump) (jump_written insn kind bits v before after jump w));
    }
  where
    of_movk : (insn : AnyForm)
        → stays_movk insn bits (window_of (relocation_form insn) before) ≡ true
        → (aarch64_form Movkz).machine (window_of (aarch64_form Movkz) after) ≡ pos (bits_taken bits v)
        → (aarch64_form Movkz).machine (window_of (relocation_form insn) after) ≡ pos (bits_taken bits v)
    of_movk (AArch64 Movnz) move e = e
    of_movk (AArch64 f) move e = cc
    of_movk (RiscV f) move e = cc
    of_movk (Ppc64 f) move e = cc
    of_movk (LoongArch64 f) move e = cc

    of_jump : (insn : AnyForm)
        → is_low_jump insn kind (window_of (relocation_form insn) before) ≡ true
        → (loongarch_form Shift10).machine (window_of (loongarch_form Shift10) after) *ℤ pos 4 ≡ low_part v
        → (loongarch_form Shift10).machine (window_of (relocation_form insn) after) *ℤ pos 4 ≡ low_part v
    of_jump (LoongArch64 Shift10) jump e = e
    of_jump (LoongArch64 f) jump e = cc
    of_jump (AArch64 f) jump e = cc
    of_jump (RiscV f) jump e = cc
    of_jump (Ppc64 f) jump e = cc

size_reads : (is_signed : Bool) (size : RowSize) (kind : RelocationKind) (reached : Bounds)
    (a : ℕ) (v : ℤ) (before after : List ℕ)
    → FitsSigned w64 v → takes_size kind size ≡ true → IsInsideSize size reached v → IsAligned a v
    → IsInUnits size v before → IsInWords size kind v before
    → IsWritten size kind v before after → SizeAgrees is_signed size reached a
    → SizeReads is_signed size kind reached v before after
size_reads is_signed (ByteSize n) kind reached a v before after small takes within aligned units words
    w agrees = tt
size_reads is_signed (BitMasking bits insn) kind reached a v before after small takes within aligned
    units words w agrees =
    let t = taken_bits_inside kind bits insn takes in
    field_reads is_signed insn kind bits reached a v before after small t.0 t.1 within aligned units
    words w agrees

-- a row that can be written takes bits of its size
pub supported_size : (row : RowInfo) → is_supported row ≡ true
    → takes_size row.kind row.size ≡ true
supported_size row h =
    let parts = and_parts (takes_size row.kind row.size && ltb 0 row.alignment)
    (ltb row.alignment (2 ^ 63)) h in
    (and_parts (takes_size row.kind row.size) (ltb 0 row.alignment) parts.0).0

pub row_reads : (is_signed : Bool) (row : RowInfo) (v : ℤ) (before after : List ℕ)
    → FitsSigned w64 v → IsAccepted row v before → IsWritten row.size row.kind v before after
    → AgreesBy is_signed row → SizeReads is_signed row.size row.kind row.range.bounds v before after
row_reads is_signed row v before after small accepted w agrees =
    size_reads is_signed row.size row.kind row.range.bounds row.alignment v before after small
    (supported_size row accepted.supported)
    (own_size row.kind row.size row.range.bounds v accepted.reached.0)
    accepted.aligned.0 accepted.aligned.1 accepted.aligned.2 w agrees

pub row_reads_in_reach : (is_signed : Bool) (row : RowInfo) (v : ℤ)
    (before after : List ℕ)
    → FitsSigned w64 v → IsAccepted row v before → IsWritten row.size row.kind v before after
    → AgreesInReach is_signed row
    → SizeReads is_signed row.size row.kind (reach_of row) v before after
row_reads_in_reach is_signed row v before after small accepted w agrees =
    size_reads is_signed row.size row.kind (reach_of row) row.alignment v before after small
    (supported_size row accepted.supported)
    (reached_size row.size (reach_of row) v accepted.reached.0)
    accepted.aligned.0 accepted.aligned.1 accepted.aligned.2 w agrees
