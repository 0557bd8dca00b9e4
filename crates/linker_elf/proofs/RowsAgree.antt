-- The rows of the relocation tables agree with the machines: one law a form, and comparisons of
-- each row's numbers.
use Rattle.linker_elf.proofs.Imports.{AArch64, AArch64Instruction, AArch64Relocation, AgreesBy, AgreesInReach, AnyForm, BitMasking, BitRange, Bool, ByteSize, Call30, Call36, CluiType, D, IType, IfSome, InstructionAgrees, IsFieldOf, IsSameIn, IsWithin, LoongArch64, LoongArch64Instruction, LoongArch64Relocation, LoongArchRowAgrees, MachOLow12, Movnz, None, Option, Ppc64, Ppc64Form, Ppc64Relocation, R_AARCH64_NONE, R_LARCH_NONE, R_PPC64_TLS, R_RISCV_NONE, RiscV, RiscVInstruction, RiscVRelocation, RowAgrees, RowInfo, RowSize, SType, Shift10, Shift5, SizeAgrees, Some, UType, UiType, Written, aarch64_layout, aarch64_row, always_clear, and_parts, ap, arith, bits_from, consecutive_bits_sum, eqb, eqb-true, false, field, high_of, imm16_places, int_lt, int_rem_euclid, ints, is_of_halves, is_of_words, layout_laid, le-ltb, le_z, loongarch_form, loongarch_layout, loongarch_row, moved_bits, moved_value, movnz, neg_ℤ, negsuc, one_field, place_sum, pos, ppc64_form, ppc64_layout, ppc64_row, reach_of, reads_signed, refl, replaced, riscv_form, riscv_layout, riscv_relocation, shift10_imm16, shift_of, shl-shr, subst, sym, true, unsigned, unsigned_abs, ℕ, ℤ, ◌%◌, ◌&&◌, ◌+◌, ◌-◌, ◌/◌, ◌<ℤ◌, ◌<◌, ◌^◌, ◌||◌, ◌∙◌, ◌≡◌, ◌≤ℤ◌}
use Rattle.linker_elf.proofs.AArch64Forms.{movnz_machine}
use Rattle.linker_elf.proofs.Agreement.{is_agreeing, layout_check, layout_agrees, sum_agrees, le_yes, quotient_low, quotient_high, rem_below}
use Rattle.linker_elf.proofs.LoongArch.{shift5_places, shift10_low_sum, shift10_low_field}

-- ---- MOVN and MOVZ

-- of 16 bits, from a bound of -2 ^ (16 + s) up, below 2 ^ (16 + s)
abbrev pub is_moved : ℕ → ℕ → Option (ℤ × ℤ) → Bool
is_moved s e None = eqb (e - s) 16
is_moved s e (Some b) = eqb (e - s) 16 && (le_z (neg_ℤ (pos (2 ^ (16 + s)))) b.0 && le_z b.1 (pos (2 ^ (16 + s))))

pub moved_from : (neg : Bool) (x s : ℕ) → bits_from s (moved_value neg x s) ≡ moved_value neg x 0
moved_from true x s = ap negsuc (shl-shr x s ∙ omega arith)
moved_from false x s = ap pos (shl-shr x s ∙ omega arith)

sixteen : (bounds : Option (ℤ × ℤ)) (s e : ℕ) → is_moved s e bounds ≡ true → e - s ≡ 16
sixteen None s e h = eqb-true (e - s) 16 h
sixteen (Some b) s e h = eqb-true (e - s) 16 (and_parts (eqb (e - s) 16) (le_z (neg_ℤ (pos (2 ^ (16 + s)))) b.0 && le_z b.1 (pos (2 ^ (16 + s)))) h).0

moved_same : (q : ℤ) (neg : Bool) (f : ℕ) → neg_ℤ (pos (2 ^ 16)) ≤ℤ q → q <ℤ pos (2 ^ 16) → neg ≡ int_lt q (pos 0) → pos f ≡ int_rem_euclid q (pos (2 ^ 16))
    → moved_value neg (moved_bits neg f) 0 ≡ q
moved_same (pos b) true f low high n e = absurd (omega (arith, ints))
moved_same (pos b) false f low high n e =
    let same : f ≡ b % 2 ^ 16 = ap unsigned_abs e in
    let below : b < 2 ^ 16 = omega (arith, ints) in
    ap pos (omega arith)
moved_same (negsuc b) true f low high n e =
    let same : f ≡ 2 ^ 16 - 1 - b % 2 ^ 16 = ap unsigned_abs e in
    let below : b < 2 ^ 16 = omega (arith, ints) in
    ap negsuc (omega arith)
moved_same (negsuc b) false f low high n e = absurd (omega (arith, ints))

moved_congruent : (neg : Bool) (f : ℕ) → f < 2 ^ 16 → int_rem_euclid (moved_value neg (moved_bits neg f) 0) (pos (2 ^ 16)) ≡ pos f
moved_congruent true f h = ap pos (omega arith)
moved_congruent false f h = ap pos (omega arith)

moved_below : (neg : Bool) (f : ℕ) → f < 2 ^ 16 → moved_value neg (moved_bits neg f) 0 <ℤ pos (2 ^ 16)
moved_below true f h = omega (arith, ints)
moved_below false f h = omega (arith, ints)

pub sign_of_quotient : (v : ℤ) (s : ℕ) → int_lt v (pos 0) ≡ int_lt (bits_from s v) (pos 0)
sign_of_quotient (pos b) s = le-ltb b 0 (omega arith) ∙ sym (le-ltb (b / 2 ^ s) 0 (omega arith))
sign_of_quotient (negsuc b) s = refl

moved_in : (s e : ℕ) (bounds : Option (ℤ × ℤ)) → is_moved s e bounds ≡ true → (v : ℤ) (f : ℕ) → IsWithin bounds v → pos f ≡ int_rem_euclid (bits_from s v) (pos (2 ^ 16))
    → IsSameIn bounds 16 (moved_value (int_lt v (pos 0)) (moved_bits (int_lt v (pos 0)) f) 0) (bits_from s v)
moved_in s e None h v f within is_field =
    let small = rem_below (bits_from s v) f 16 is_field in
    (moved_congruent (int_lt v (pos 0)) f small ∙ is_field, moved_below (int_lt v (pos 0)) f small)
moved_in s e (Some b) h v f within is_field =
    let ends = (and_parts (eqb (e - s) 16) (le_z (neg_ℤ (pos (2 ^ (16 + s)))) b.0 && le_z b.1 (pos (2 ^ (16 + s)))) h).1 in
    let each = and_parts (le_z (neg_ℤ (pos (2 ^ (16 + s)))) b.0) (le_z b.1 (pos (2 ^ (16 + s)))) ends in
    let low = le_yes (neg_ℤ (pos (2 ^ (16 + s)))) b.0 each.0 in
    let high = le_yes b.1 (pos (2 ^ (16 + s))) each.1 in
    let from : neg_ℤ (pos (2 ^ (16 + s))) ≤ℤ v = omega (arith, ints, within.0) in
    let below : v <ℤ pos (2 ^ (16 + s)) = omega (arith, ints, within.1) in
    moved_same (bits_from s v) (int_lt v (pos 0)) f (quotient_low v 16 s from) (quotient_high v 16 s below) (sign_of_quotient v s) is_field

moved_agrees : (s e : ℕ) (bounds : Option (ℤ × ℤ)) → is_moved s e bounds ≡ true → (v : ℤ) (f before after : ℕ) → IsWithin bounds v → IsFieldOf v s e f
    → shift_of before ≡ s → Written movnz f (int_lt v (pos 0)) before after → IsSameIn bounds (e - s) (bits_from s (movnz.machine after)) (bits_from s v)
moved_agrees s e bounds h v f before after within is_field shift laid =
    let neg = int_lt v (pos 0) in
    let width = sixteen bounds s e h in
    let reads : bits_from s (movnz.machine after) ≡ moved_value neg (moved_bits neg f) 0 =
    ap (bits_from s) (movnz_machine neg f before after laid (always_clear imm16_places before refl) ∙ ap (moved_value neg (moved_bits neg f)) shift)
    ∙ moved_from neg (moved_bits neg f) s in
    let here : IsSameIn bounds 16 (moved_value neg (moved_bits neg f) 0) (bits_from s v) =
    moved_in s e bounds h v f within (is_field ∙ ap (λ k. int_rem_euclid (bits_from s v) (pos (2 ^ k))) width) in
    subst (λ k. IsSameIn bounds k (bits_from s (movnz.machine after)) (bits_from s v)) (sym width)
    (subst (λ r. IsSameIn bounds 16 r (bits_from s v)) (sym reads) here)

-- ---- AArch64

abbrev pub aarch64_check : AArch64Instruction → ℕ → ℕ → Option (ℤ × ℤ) → ℕ → Bool
aarch64_check Movnz s e b a = is_moved s e b
aarch64_check f s e b a = layout_check (aarch64_layout f) s e b a

aarch64_agrees : (f : AArch64Instruction) (bits : BitRange) (b : Option (ℤ × ℤ)) (a : ℕ) → aarch64_check f bits.start bits.end b a ≡ true → InstructionAgrees false (AArch64 f) bits b a
aarch64_agrees Movnz bits b a h v f before after within z is_field ready laid = moved_agrees bits.start bits.end b h v f before after within is_field (ready.1 refl) laid
aarch64_agrees MachOLow12 bits b a h v f before after within z is_field ready laid = cc
aarch64_agrees insn bits b a h v f before after within z is_field ready laid =
    layout_agrees (aarch64_layout insn) refl bits.start bits.end b a h v f before after within z is_field ready.0 laid

-- ---- RISC-V

abbrev pub riscv_check : RiscVInstruction → ℕ → ℕ → Option (ℤ × ℤ) → ℕ → Bool
riscv_check insn s e b a = is_of_halves insn || layout_check (riscv_layout insn) s e b a

riscv_agrees : (f : RiscVInstruction) (bits : BitRange) (b : Option (ℤ × ℤ)) (a : ℕ) → riscv_check f bits.start bits.end b a ≡ true → InstructionAgrees false (RiscV f) bits b a
riscv_agrees UType bits b a h whole v f before after within z is_field ready laid = cc
riscv_agrees IType bits b a h whole v f before after within z is_field ready laid = cc
riscv_agrees SType bits b a h whole v f before after within z is_field ready laid = cc
riscv_agrees CluiType bits b a h whole v f before after within z is_field ready laid = cc
riscv_agrees UiType bits b a h whole v f before after within z is_field ready laid = cc
riscv_agrees insn bits b a h whole v f before after within z is_field ready laid =
    layout_agrees (riscv_layout insn) refl bits.start bits.end b a h v f before after within z is_field (always_clear ((riscv_form insn).places before) before refl) laid

-- ---- PowerPC64

abbrev pub ppc64_check : Ppc64Form → ℕ → ℕ → Option (ℤ × ℤ) → ℕ → Bool
ppc64_check f s e b a = layout_check (ppc64_layout f) s e b a

ppc64_agrees : (f : Ppc64Form) (bits : BitRange) (b : Option (ℤ × ℤ)) (a : ℕ) → ppc64_check f bits.start bits.end b a ≡ true → InstructionAgrees false (Ppc64 f) bits b a
ppc64_agrees D bits b a h v f before after within z is_field ready laid =
    layout_agrees (ppc64_layout D) refl bits.start bits.end b a h v f before after within z is_field (always_clear ((ppc64_form D).places before) before refl) laid
ppc64_agrees insn bits b a h v f before after within z is_field ready laid =
    layout_agrees (ppc64_layout insn) refl bits.start bits.end b a h v f before after within z is_field (always_clear ((ppc64_form insn).places before) before refl) laid

-- ---- LoongArch

abbrev pub loongarch_check : LoongArch64Instruction → Bool → ℕ → ℕ → Option (ℤ × ℤ) → ℕ → Bool
loongarch_check Shift5 false s e b a = is_agreeing unsigned (high_of (loongarch_layout Shift5)) 0 s e b a
loongarch_check Shift10 true s e b a = layout_check (one_field shift10_imm16) s e b a
loongarch_check Shift10 false s e b a = is_agreeing unsigned 12 0 s e b a
loongarch_check f is_signed s e b a = is_of_words f || layout_check (loongarch_layout f) s e b a

pub shift5_sum : (x : ℕ) → place_sum shift5_places x ≡ field x 5 25
shift5_sum x = consecutive_bits_sum replaced 20 0 5 0 x refl ∙ omega arith

loongarch_agrees : (f : LoongArch64Instruction) (is_signed : Bool) (bits : BitRange) (b : Option (ℤ × ℤ)) (a : ℕ) → loongarch_check f is_signed bits.start bits.end b a ≡ true
    → InstructionAgrees is_signed (LoongArch64 f) bits b a
loongarch_agrees Shift5 false bits b a h whole v f before after within z is_field ready laid =
    sum_agrees unsigned (high_of (loongarch_layout Shift5)) 0 bits.start bits.end b a h v f (field after 5 25) within z is_field (λ small.
    sym (shift5_sum after) ∙ layout_laid (loongarch_layout Shift5) refl f (int_lt v (pos 0)) before after small laid (always_clear shift5_places before refl))
loongarch_agrees Shift10 true bits b a h whole v f before after within z is_field ready laid =
    layout_agrees (one_field shift10_imm16) refl bits.start bits.end b a h v f before after within z is_field (ready refl) laid
loongarch_agrees Shift10 false bits b a h whole v f before after within z is_field ready laid =
    sum_agrees unsigned 12 0 bits.start bits.end b a h v f (field after 10 22) within z is_field (λ small.
    sym (shift10_low_field after) ∙ shift10_low_sum f before after small laid ∙ omega arith)
loongarch_agrees Call30 is_signed bits b a h whole v f before after within z is_field ready laid = cc
loongarch_agrees Call36 is_signed bits b a h whole v f before after within z is_field ready laid = cc
loongarch_agrees insn is_signed bits b a h whole v f before after within z is_field ready laid =
    layout_agrees (loongarch_layout insn) refl bits.start bits.end b a h v f before after within z is_field (always_clear ((loongarch_form insn).places before) before refl) laid

-- ---- rows

abbrev pub instruction_check : Bool → AnyForm → ℕ → ℕ → Option (ℤ × ℤ) → ℕ → Bool
instruction_check is_signed (AArch64 f) s e b a = aarch64_check f s e b a
instruction_check is_signed (RiscV f) s e b a = riscv_check f s e b a
instruction_check is_signed (Ppc64 f) s e b a = ppc64_check f s e b a
instruction_check is_signed (LoongArch64 f) s e b a = loongarch_check f is_signed s e b a

abbrev pub size_check : Bool → RowSize → Option (ℤ × ℤ) → ℕ → Bool
size_check is_signed (ByteSize n) b a = true
size_check is_signed (BitMasking bits insn) b a = instruction_check is_signed insn bits.start bits.end b a

-- what the laws require of a row, if there is one
abbrev pub row_check : Bool → Option RowInfo → Bool
row_check is_signed None = true
row_check is_signed (Some row) =
    size_check is_signed row.size row.range.bounds row.alignment && size_check is_signed row.size
    (reach_of row) row.alignment

instruction_agrees : (is_signed : Bool) (insn : AnyForm) (bits : BitRange) (b : Option (ℤ × ℤ)) (a : ℕ) → instruction_check is_signed insn bits.start bits.end b a ≡ true
    → InstructionAgrees is_signed insn bits b a
instruction_agrees is_signed (AArch64 f) bits b a h = aarch64_agrees f bits b a h
instruction_agrees is_signed (RiscV f) bits b a h = riscv_agrees f bits b a h
instruction_agrees is_signed (Ppc64 f) bits b a h = ppc64_agrees f bits b a h
instruction_agrees is_signed (LoongArch64 f) bits b a h = loongarch_agrees f is_signed bits b a h

size_agrees : (is_signed : Bool) (size : RowSize) (b : Option (ℤ × ℤ)) (a : ℕ) → size_check is_signed size b a ≡ true → SizeAgrees is_signed size b a
size_agrees is_signed (ByteSize n) b a h = tt
size_agrees is_signed (BitMasking bits insn) b a h = instruction_agrees is_signed insn bits b a h

row_agrees : (is_signed : Bool) (row : Option RowInfo) → row_check is_signed row ≡ true
    → IfSome row (λ r. AgreesBy is_signed r × AgreesInReach is_signed r)
row_agrees is_signed None h = tt
row_agrees is_signed (Some row) h =
    let both = and_parts (size_check is_signed row.size row.range.bounds row.alignment)
    (size_check is_signed row.size (reach_of row) row.alignment) h in (
      size_agrees is_signed row.size row.range.bounds row.alignment both.0,
      size_agrees is_signed
          row.size (reach_of row) row.alignment both.1,
    )

-- ---- tables

aarch64_checked : (name : AArch64Relocation) → row_check false (aarch64_row name) ≡ true
aarch64_checked R_AARCH64_NONE = refl
aarch64_checked name = refl

riscv_checked : (name : RiscVRelocation) → row_check false (riscv_relocation name).row ≡ true
riscv_checked R_RISCV_NONE = refl
riscv_checked name = refl

ppc64_checked : (name : Ppc64Relocation) → row_check false (ppc64_row name) ≡ true
ppc64_checked R_PPC64_TLS = refl
ppc64_checked name = refl

loongarch_checked : (name : LoongArch64Relocation) → row_check (reads_signed name) (loongarch_row name) ≡ true
loongarch_checked R_LARCH_NONE = refl
loongarch_checked name = refl

pub aarch64_rows : (name : AArch64Relocation) → IfSome (aarch64_row name) RowAgrees
aarch64_rows name = row_agrees false (aarch64_row name) (aarch64_checked name)

pub riscv_rows : (name : RiscVRelocation) → IfSome (riscv_relocation name).row RowAgrees
riscv_rows name = row_agrees false (riscv_relocation name).row (riscv_checked name)

pub ppc64_rows : (name : Ppc64Relocation) → IfSome (ppc64_row name) RowAgrees
ppc64_rows name = row_agrees false (ppc64_row name) (ppc64_checked name)

pub loongarch_rows : (name : LoongArch64Relocation) → IfSome (loongarch_row name) (LoongArchRowAgrees name)
loongarch_rows name = row_agrees (reads_signed name) (loongarch_row name) (loongarch_checked name)
