-- The plan of a row writes into an instruction what the row says.
use Rattle.linker_elf.proofs.Imports.{AArch64, AArch64Instruction, Adr, AnyForm, BType, BitMasking, BitRange, BitsWritten, Bool, ByteSize, CbType, CjType, CluiType, Ds, IsSound, IsWritten, JType, List, LoongArch64, LoongArch64Instruction, MachOLow12, Movnz, None, Option, Ppc64, Ppc64Form, RelocationKind, RiscV, RiscVInstruction, RowSize, Shift5, SizeFits, Some, Step, TableRow, UType, Written, [], and_assoc, and_le_l, and_le_r, and_parts, ap, arith, bit_and, bit_or, bits_of, bits_taken, byte_len, cast_unsigned, cleared_by, code_of, drop, false, from_le_bytes, has_16_bits, has_plan, high_mask_keeps, if◌then◌else◌, info_of, int_lt, is_32_bit_move, is_plain, is_word, laid, loongarch_form, ltb, ltb-true, moved, none-some, number_placed, or_lt, ored_cleared, places_cleared, plan_for, plan_of, plan_window, pos, refl, relocation_form, steps_fit, subst, sym, takes_all, true, w64, width_of, writes, ℕ, ℤ, ◌&&◌, ◌-◌, ◌/◌, ◌<◌, ◌^◌, ◌∙◌, ◌∷◌, ◌≡◌, ◌≤◌}
use Rattle.linker_elf.specs.declared.elf.engine.WritePlan.{WritePlan}
use Rattle.linker_elf.specs.declared.elf.engine.Window.{Window}
use Rattle.linker_elf.specs.Inner.Runs.{is_plain as is_plain_form}
use Rattle.linker_elf.proofs.Codes.{aarch64_cleared, coded, one_word}
use Rattle.linker_elf.proofs.PlainRows.{takes, written}
use Rattle.linker_elf.proofs.Steps.{written_by}

-- ---- steps

laid_fits : (n : ℕ) (ss : List Step) (v y : ℕ) → steps_fit n ss ≡ true → y < 2 ^ n → laid ss v y < 2 ^ n
laid_fits n [] v y fit small = small
laid_fits n (s ∷ ss) v y fit small =
    let fits = and_parts (ltb s.up 64 && ltb s.mask (2 ^ n)) (steps_fit n ss) fit in
    let mask = ltb-true s.mask (2 ^ n) (and_parts (ltb s.up 64) (ltb s.mask (2 ^ n)) fits.0).1 in
    let less : moved s v ≤ s.mask = and_le_r _ s.mask in
    laid_fits n ss v (bit_or y (moved s v)) fits.1 (or_lt n y (moved s v) small (omega arith))

abbrev pub steps_of : WritePlan → List Step
steps_of plan = plan.first ∷ plan.second ∷ []

abbrev bits_in : AnyForm → ℕ
bits_in f = bits_of (code_of f).0.window

-- ---- forms

abbrev WritesAll : AnyForm → BitRange → Type 0
WritesAll f bits =
    writes (bits_in f) (code_of f).0.replaced (steps_of (plan_for f bits)) ((relocation_form f).places 0) ≡ true

aarch64_steps : (f : AArch64Instruction) (bits : BitRange) → is_plain_form (AArch64 f) ≡ true → WritesAll (AArch64 f) bits
aarch64_steps Movnz bits p = cc
aarch64_steps MachOLow12 bits p = cc
aarch64_steps f bits p = refl

riscv_steps : (f : RiscVInstruction) (bits : BitRange) → has_plan (RiscV f) ≡ true → WritesAll (RiscV f) bits
riscv_steps BType bits h = cc
riscv_steps JType bits h = cc
riscv_steps CbType bits h = cc
riscv_steps CjType bits h = cc
riscv_steps CluiType bits h = cc
riscv_steps f bits h = refl

ppc64_steps : (f : Ppc64Form) (bits : BitRange) → WritesAll (Ppc64 f) bits
ppc64_steps Ds bits = refl
ppc64_steps f bits = refl

loongarch_steps : (f : LoongArch64Instruction) (bits : BitRange) → WritesAll (LoongArch64 f) bits
loongarch_steps Shift5 bits = refl
loongarch_steps f bits = refl

writes_all : (f : AnyForm) (bits : BitRange) → has_plan f ≡ true → is_plain_form f ≡ true → WritesAll f bits
writes_all (AArch64 f) bits h p = aarch64_steps f bits p
writes_all (RiscV f) bits h p = riscv_steps f bits h
writes_all (Ppc64 f) bits h p = ppc64_steps f bits
writes_all (LoongArch64 f) bits h p = loongarch_steps f bits

-- the bits that stay are those that neither the clearing nor the write changes
abbrev Keeps : ℕ → ℕ → Type 0
Keeps clear replaced =
    bit_and (2 ^ 64 - 1 - clear) (2 ^ 64 - 1 - replaced) ≡ 2 ^ 64 - 1 - bit_or replaced clear

aarch64_keep : (f : AArch64Instruction) → Keeps (code_of (AArch64 f)).0.ored (code_of (AArch64 f)).0.replaced
aarch64_keep Adr = refl
aarch64_keep f = refl

riscv_keep : (f : RiscVInstruction) → Keeps (code_of (RiscV f)).0.ored (code_of (RiscV f)).0.replaced
riscv_keep UType = refl
riscv_keep f = refl

ppc64_keep : (f : Ppc64Form) → Keeps (code_of (Ppc64 f)).0.ored (code_of (Ppc64 f)).0.replaced
ppc64_keep Ds = refl
ppc64_keep f = refl

loongarch_keep : (f : LoongArch64Instruction) (b : Bool)
    → Keeps (if b then (code_of (LoongArch64 f)).0.ored else 0) (code_of (LoongArch64 f)).0.replaced
loongarch_keep Shift5 true = refl
loongarch_keep f true = refl
loongarch_keep Shift5 false = refl
loongarch_keep f false = refl

keep : (f : AnyForm) (bits : BitRange) → Keeps (cleared_by f bits) (code_of f).0.replaced
keep (AArch64 f) bits = aarch64_keep f
keep (RiscV f) bits = riscv_keep f
keep (Ppc64 f) bits = ppc64_keep f
keep (LoongArch64 f) bits = loongarch_keep f (has_16_bits bits)

-- the bits that are only ORed are cleared first
riscv_clears : (f : RiscVInstruction) (x : ℕ) → x < 2 ^ bits_in (RiscV f)
    → BitsWritten [] 0 x (bit_and x (2 ^ 64 - 1 - (code_of (RiscV f)).0.ored))
riscv_clears UType x small = written_by 32 0 [] [] 0 x refl small
riscv_clears f x small = written_by (bits_in (RiscV f)) 0 [] [] 0 x refl small

ppc64_clears : (f : Ppc64Form) (x : ℕ) → x < 2 ^ bits_in (Ppc64 f)
    → BitsWritten [] 0 x (bit_and x (2 ^ 64 - 1 - (code_of (Ppc64 f)).0.ored))
ppc64_clears Ds x small = written_by 32 0 [] [] 0 x refl small
ppc64_clears f x small = written_by (bits_in (Ppc64 f)) 0 [] [] 0 x refl small

loongarch_clears : (f : LoongArch64Instruction) (b : Bool) (x : ℕ) → x < 2 ^ bits_in (LoongArch64 f)
    → BitsWritten (if b then ored_cleared ((loongarch_form f).places x) else []) 0 x
    (bit_and x (2 ^ 64 - 1 - (if b then (code_of (LoongArch64 f)).0.ored else 0)))
loongarch_clears Shift5 true x small = written_by 32 0 [] [] 0 x refl small
loongarch_clears f true x small =
    written_by (bits_in (LoongArch64 f)) (code_of (LoongArch64 f)).0.ored [] (ored_cleared ((loongarch_form f).places x)) 0 x refl small
loongarch_clears Shift5 false x small = written_by 32 0 [] [] 0 x refl small
loongarch_clears f false x small = written_by (bits_in (LoongArch64 f)) 0 [] [] 0 x refl small

clears : (f : AnyForm) (bits : BitRange) (x : ℕ) → x < 2 ^ bits_in f
    → BitsWritten (places_cleared f bits x) 0 x (bit_and x (2 ^ 64 - 1 - cleared_by f bits))
clears (AArch64 f) bits x small = aarch64_cleared f x (subst (λ n. x < 2 ^ n) (one_word f) small)
clears (RiscV f) bits x small = riscv_clears f x small
clears (Ppc64 f) bits x small = ppc64_clears f x small
clears (LoongArch64 f) bits x small = loongarch_clears f (has_16_bits bits) x small

-- the window has 4 or 8 bytes
riscv_window : (f : RiscVInstruction) → has_plan (RiscV f) ≡ true → (code_of (RiscV f)).0.window ≡ plan_window (is_word (code_of (RiscV f)).0.window)
riscv_window BType h = cc
riscv_window JType h = cc
riscv_window CbType h = cc
riscv_window CjType h = cc
riscv_window CluiType h = cc
riscv_window f h = refl

aarch64_window : (f : AArch64Instruction) → (code_of (AArch64 f)).0.window ≡ plan_window (is_word (code_of (AArch64 f)).0.window)
aarch64_window Adr = refl
aarch64_window f = refl

ppc64_window : (f : Ppc64Form) → (code_of (Ppc64 f)).0.window ≡ plan_window (is_word (code_of (Ppc64 f)).0.window)
ppc64_window Ds = refl
ppc64_window f = refl

loongarch_window : (f : LoongArch64Instruction) → (code_of (LoongArch64 f)).0.window ≡ plan_window (is_word (code_of (LoongArch64 f)).0.window)
loongarch_window Shift5 = refl
loongarch_window f = refl

window_is : (f : AnyForm) → has_plan f ≡ true → (code_of f).0.window ≡ plan_window (is_word (code_of f).0.window)
window_is (AArch64 f) h = aarch64_window f
window_is (RiscV f) h = riscv_window f h
window_is (Ppc64 f) h = ppc64_window f
window_is (LoongArch64 f) h = loongarch_window f

-- ---- rows that take all

plain_form : (bits : BitRange) (insn : AnyForm) (kind : RelocationKind)
    → is_plain (BitMasking bits insn) kind ≡ true → is_plain_form insn ≡ true
plain_form bits (AArch64 Movnz) kind plain = cc
plain_form bits (AArch64 MachOLow12) kind plain = cc
plain_form bits (AArch64 f) kind plain = refl
plain_form bits (RiscV f) kind plain = refl
plain_form bits (Ppc64 f) kind plain = refl
plain_form bits (LoongArch64 f) kind plain = refl

same_number : (bits : BitRange) (insn : AnyForm) (kind : RelocationKind) (x n : ℕ)
    → is_plain (BitMasking bits insn) kind ≡ true → number_placed insn x n ≡ n
same_number bits (Ppc64 Ds) kind x n plain = cc
same_number bits (Ppc64 f) kind x n plain = refl
same_number bits (AArch64 f) kind x n plain = refl
same_number bits (RiscV f) kind x n plain = refl
same_number bits (LoongArch64 f) kind x n plain = refl

no_move : (bits : BitRange) (insn : AnyForm) (kind : RelocationKind) (x : ℕ)
    → is_plain (BitMasking bits insn) kind ≡ true → is_32_bit_move insn x ≡ false
no_move bits (AArch64 Movnz) kind x plain = cc
no_move bits (AArch64 f) kind x plain = refl
no_move bits (Ppc64 f) kind x plain = refl
no_move bits (RiscV f) kind x plain = refl
no_move bits (LoongArch64 f) kind x plain = refl

-- what a plan makes of a window
abbrev pub window_after : WritePlan → ℕ → ℕ → ℕ
window_after plan n x = laid (steps_of plan) n (bit_and x (2 ^ 64 - 1 - plan.replaced))

after_fits : (bits : BitRange) (insn : AnyForm) (n x : ℕ) → has_plan insn ≡ true → is_plain_form insn ≡ true
    → x < 2 ^ bits_in insn → window_after (plan_for insn bits) n x < 2 ^ bits_in insn
after_fits bits insn n x h p small =
    let width = bits_in insn in
    let plan = plan_for insn bits in
    let a = and_parts (ltb width 65) _ (writes_all insn bits h p) in
    let b = and_parts (ltb (code_of insn).0.replaced (2 ^ width)) _ a.1 in
    let c = and_parts (steps_fit width (steps_of plan)) _ b.1 in
    let kept : bit_and x (2 ^ 64 - 1 - plan.replaced) ≤ x = and_le_l x _ in
    laid_fits width (steps_of plan) n (bit_and x (2 ^ 64 - 1 - plan.replaced)) c.0 (omega arith)

after_written : (bits : BitRange) (insn : AnyForm) (kind : RelocationKind) (v : ℤ) (n x : ℕ) (before after : List ℕ)
    → has_plan insn ≡ true → is_plain (BitMasking bits insn) kind ≡ true → bits.start < bits.end → bits.end ≤ 64
    → n ≡ bit_and (cast_unsigned w64 v / 2 ^ bits.start) (plan_for insn bits).taken
    → x ≡ from_le_bytes (width_of (code_of insn).0.window) before → x < 2 ^ bits_in insn
    → from_le_bytes (width_of (code_of insn).0.window) after ≡ window_after (plan_for insn bits) n x
    → drop (byte_len (width_of (code_of insn).0.window)) after ≡ drop (byte_len (width_of (code_of insn).0.window)) before
    → IsWritten (BitMasking bits insn) kind v before after
after_written bits insn kind v n x before after h plain some inside is loaded small stored rest =
    let p = plain_form bits insn kind plain in
    let k = coded insn p in
    let taken = bits_taken bits v in
    let clear = bit_and x (2 ^ 64 - 1 - cleared_by insn bits) in
    let r = (code_of insn).0.replaced in
    let places = (relocation_form insn).places 0 in
    let steps = steps_of (plan_for insn bits) in
    let number : n ≡ taken = is ∙ high_mask_keeps (cast_unsigned w64 v / 2 ^ bits.start) (bits.end - bits.start) (omega arith) (omega arith) in
    let base : bit_and x (2 ^ 64 - 1 - bit_or r (cleared_by insn bits)) ≡ bit_and clear (2 ^ 64 - 1 - r) =
    sym (and_assoc (2 ^ 64 - 1 - r) x (2 ^ 64 - 1 - cleared_by insn bits) ∙ ap (bit_and x) (keep insn bits)) in
    let less : clear ≤ x = and_le_l x _ in
    let there : BitsWritten places taken clear (laid steps taken (bit_and clear (2 ^ 64 - 1 - r))) =
    written_by (bits_in insn) r steps places taken clear (writes_all insn bits h p) (omega arith) in
    let same : from_le_bytes (width_of (code_of insn).0.window) after ≡ laid steps taken (bit_and clear (2 ^ 64 - 1 - r)) =
    stored ∙ ap (λ m. laid steps m (bit_and x (2 ^ 64 - 1 - bit_or r (cleared_by insn bits)))) number ∙ ap (laid steps taken) base in
    let in_form : Written (relocation_form insn) taken (int_lt v (pos 0)) clear (from_le_bytes (width_of (code_of insn).0.window) after) =
    k.written taken (int_lt v (pos 0)) clear (from_le_bytes (width_of (code_of insn).0.window) after)
    (subst (BitsWritten places taken clear) (sym same) there) in
    written bits insn kind v before after plain
    (record {
      clear = clear;
      clears = rw (k.width, sym loaded) (clears insn bits x small);
      written = rw (k.width, sym loaded, same_number bits insn kind x taken plain, no_move bits insn kind x plain) in_form;
      rest = rw k.width rest;
    })

-- ---- entries

pub record IsPlanned (size : RowSize) (plan : WritePlan) : Type 0 where
  pub bits : BitRange
  pub insn : AnyForm
  pub size_is : size ≡ BitMasking bits insn
  pub has : has_plan insn ≡ true
  pub plan_is : plan ≡ plan_for insn bits

abbrev plan_or : WritePlan → Option WritePlan → WritePlan
plan_or other None = other
plan_or other (Some plan) = plan

some_plan : (bits : BitRange) (insn : AnyForm) (plan : WritePlan) (b : Bool) → has_plan insn ≡ b
    → (if b then Some (plan_for insn bits) else None) ≡ Some plan → IsPlanned (BitMasking bits insn) plan
some_plan bits insn plan true h is =
    record { bits = bits; insn = insn; size_is = refl; has = h; plan_is = sym (ap (plan_or plan) is) }
some_plan bits insn plan false h is = absurd (none-some plan is)

from_size : (size : RowSize) (plan : WritePlan) → plan_of size ≡ Some plan → IsPlanned size plan
from_size (ByteSize n) plan is = absurd (none-some plan is)
from_size (BitMasking bits insn) plan is = some_plan bits insn plan (has_plan insn) refl is

pub planned : (entry : TableRow) (plan : WritePlan) → IsSound entry → entry.plan ≡ Some plan → IsPlanned entry.size plan
planned entry plan sound is = from_size entry.size plan (sym (ap (λ e. e.plan) sound.is) ∙ is)

module _ (entry : TableRow) (plan : WritePlan) (window : Window) (sound : IsSound entry) (all : takes_all (info_of entry) ≡ true) (is : entry.plan ≡ Some plan) (wide : window ≡ plan_window plan.is_word) where
  of_row : IsPlanned entry.size plan
  of_row = planned entry plan sound is

  same_window : window ≡ (code_of of_row.insn).0.window
  same_window = wide ∙ ap (λ p. plan_window p.is_word) of_row.plan_is ∙ sym (window_is of_row.insn of_row.has)

  plain_row : is_plain (BitMasking of_row.bits of_row.insn) entry.kind ≡ true
  plain_row = subst (λ s. is_plain s entry.kind ≡ true) of_row.size_is (takes (info_of entry) all).plain

  pub fits_by : (n x y : ℕ) → x < 2 ^ bits_of window → y ≡ window_after plan n x → y < 2 ^ bits_of window
  fits_by n x y small made =
      let there = after_fits of_row.bits of_row.insn n x of_row.has (plain_form of_row.bits of_row.insn entry.kind plain_row)
      (subst (λ w. x < 2 ^ bits_of w) same_window small) in
      subst (λ w. y < 2 ^ bits_of w) (sym same_window)
      (subst (λ t. t < 2 ^ bits_in of_row.insn) (sym (made ∙ ap (λ p. window_after p n x) of_row.plan_is)) there)

  pub writes_by : (v : ℤ) (n x y : ℕ) (before after : List ℕ) → n ≡ bit_and (cast_unsigned w64 v / 2 ^ plan.start) plan.taken
      → x ≡ from_le_bytes (width_of window) before → x < 2 ^ bits_of window → y ≡ window_after plan n x
      → from_le_bytes (width_of window) after ≡ y
      → drop (byte_len (width_of window)) after ≡ drop (byte_len (width_of window)) before
      → IsWritten entry.size entry.kind v before after
  writes_by v n x y before after number loaded small made stored rest =
      let bits_fit = subst SizeFits of_row.size_is sound.fits.size in
      subst (λ s. IsWritten s entry.kind v before after) (sym of_row.size_is)
      (after_written of_row.bits of_row.insn entry.kind v n x before after of_row.has plain_row bits_fit.some bits_fit.inside
      (number ∙ ap (λ p. bit_and (cast_unsigned w64 v / 2 ^ p.start) p.taken) of_row.plan_is)
      (loaded ∙ ap (λ w. from_le_bytes (width_of w) before) same_window)
      (subst (λ w. x < 2 ^ bits_of w) same_window small)
      (sym (ap (λ w. from_le_bytes (width_of w) after) same_window) ∙ stored ∙ made ∙ ap (λ p. window_after p n x) of_row.plan_is)
      (subst (λ w. drop (byte_len (width_of w)) after ≡ drop (byte_len (width_of w)) before) same_window rest))
