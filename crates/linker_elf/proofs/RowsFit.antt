-- The bits that each row names fit its form: by comparisons of the row's numbers with the form's
-- least width.
use Rattle.linker_elf.proofs.Imports.{AArch64, AArch64Instruction, AArch64Relocation, AnyForm, BitMasking, BitRange, Bool, ByteSize, Call36, D, IfSome, LoongArch64, LoongArch64Instruction, LoongArch64Relocation, MachOLow12, None, Option, Ppc64, Ppc64Form, Ppc64Relocation, R_AARCH64_NONE, R_LARCH_NONE, R_PPC64_TLS, R_RISCV_NONE, R_X86_64_NONE, RiscV, RiscVInstruction, RiscVRelocation, RowFits, RowInfo, RowSize, SizeFits, Some, TakesBits, UiType, X86_64Relocation, aarch64_form, aarch64_row, and_parts, arith, field, leb, leb-true, loongarch_form, loongarch_row, ltb, ltb-true, mod_below, pow_pos, ppc64_form, ppc64_row, refl, relocation_form, riscv_form, riscv_relocation, subst_below, true, x86_64_row, ℕ, ◌&&◌, ◌-◌, ◌/◌, ◌^◌, ◌≡◌, ◌≤◌}

-- ---- the width of a form is least where the window is 0

no_less : (n : ℕ) → n ≤ n
no_less n = omega arith

aarch64_least : (f : AArch64Instruction) (x : ℕ) → (aarch64_form f).width 0 ≤ (aarch64_form f).width x
aarch64_least MachOLow12 x = omega arith
aarch64_least f x = no_less ((aarch64_form f).width 0)

riscv_least : (f : RiscVInstruction) (x : ℕ) → (riscv_form f).width 0 ≤ (riscv_form f).width x
riscv_least UiType x = no_less ((riscv_form UiType).width 0)
riscv_least f x = no_less ((riscv_form f).width 0)

ppc64_least : (f : Ppc64Form) (x : ℕ) → (ppc64_form f).width 0 ≤ (ppc64_form f).width x
ppc64_least D x = no_less ((ppc64_form D).width 0)
ppc64_least f x = no_less ((ppc64_form f).width 0)

loongarch_least : (f : LoongArch64Instruction) (x : ℕ) → (loongarch_form f).width 0 ≤ (loongarch_form f).width x
loongarch_least Call36 x = no_less ((loongarch_form Call36).width 0)
loongarch_least f x = no_less ((loongarch_form f).width 0)

least : (insn : AnyForm) (x : ℕ) → (relocation_form insn).width 0 ≤ (relocation_form insn).width x
least (AArch64 f) x = aarch64_least f x
least (RiscV f) x = riscv_least f x
least (Ppc64 f) x = ppc64_least f x
least (LoongArch64 f) x = loongarch_least f x

-- ---- rows

abbrev pub size_fits_check : RowSize → Bool
size_fits_check (ByteSize n) = true
size_fits_check (BitMasking bits insn) =
    ltb bits.start bits.end && (leb bits.end 64 && leb (bits.end - bits.start) ((relocation_form insn).width 0))

abbrev pub row_fits_check : Option RowInfo → Bool
row_fits_check None = true
row_fits_check (Some row) = size_fits_check row.size && ltb 0 row.alignment

bits_fit : (bits : BitRange) (insn : AnyForm) → size_fits_check (BitMasking bits insn) ≡ true → TakesBits (relocation_form insn) bits
bits_fit bits insn h =
    let a = and_parts (ltb bits.start bits.end) (leb bits.end 64 && leb (bits.end - bits.start) ((relocation_form insn).width 0)) h in
    let b = and_parts (leb bits.end 64) (leb (bits.end - bits.start) ((relocation_form insn).width 0)) a.1 in
    let short : bits.end - bits.start ≤ (relocation_form insn).width 0 = leb-true (bits.end - bits.start) ((relocation_form insn).width 0) b.1 in
    let narrow : (x : ℕ) → bits.end - bits.start ≤ (relocation_form insn).width x = λ x. let wide = least insn x in omega arith in
    record {
      some = ltb-true bits.start bits.end a.0;
      inside = leb-true bits.end 64 b.0;
      narrow = narrow;
      fits = λ v x. subst_below (field v bits.start bits.end) (bits.end - bits.start) ((relocation_form insn).width x)
          (mod_below (v / 2 ^ bits.start) (2 ^ (bits.end - bits.start)) (pow_pos (bits.end - bits.start))) (narrow x);
    }

size_fits : (size : RowSize) → size_fits_check size ≡ true → SizeFits size
size_fits (ByteSize n) h = tt
size_fits (BitMasking bits insn) h = bits_fit bits insn h

row_fits : (row : Option RowInfo) → row_fits_check row ≡ true → IfSome row RowFits
row_fits None h = tt
row_fits (Some row) h =
    let both = and_parts (size_fits_check row.size) (ltb 0 row.alignment) h in
    record { size = size_fits row.size both.0; aligned = ltb-true 0 row.alignment both.1 }

-- ---- tables

aarch64_checked : (name : AArch64Relocation) → row_fits_check (aarch64_row name) ≡ true
aarch64_checked R_AARCH64_NONE = refl
aarch64_checked name = refl

riscv_checked : (name : RiscVRelocation) → row_fits_check (riscv_relocation name).row ≡ true
riscv_checked R_RISCV_NONE = refl
riscv_checked name = refl

ppc64_checked : (name : Ppc64Relocation) → row_fits_check (ppc64_row name) ≡ true
ppc64_checked R_PPC64_TLS = refl
ppc64_checked name = refl

loongarch_checked : (name : LoongArch64Relocation) → row_fits_check (loongarch_row name) ≡ true
loongarch_checked R_LARCH_NONE = refl
loongarch_checked name = refl

pub aarch64_fits : (name : AArch64Relocation) → IfSome (aarch64_row name) RowFits
aarch64_fits name = row_fits (aarch64_row name) (aarch64_checked name)

pub riscv_fits : (name : RiscVRelocation) → IfSome (riscv_relocation name).row RowFits
riscv_fits name = row_fits (riscv_relocation name).row (riscv_checked name)

pub ppc64_fits : (name : Ppc64Relocation) → IfSome (ppc64_row name) RowFits
ppc64_fits name = row_fits (ppc64_row name) (ppc64_checked name)

pub loongarch_fits : (name : LoongArch64Relocation) → IfSome (loongarch_row name) RowFits
loongarch_fits name = row_fits (loongarch_row name) (loongarch_checked name)

x86_64_checked : (name : X86_64Relocation) → row_fits_check (x86_64_row name) ≡ true
x86_64_checked R_X86_64_NONE = refl
x86_64_checked name = refl

pub x86_64_fits : (name : X86_64Relocation) → IfSome (x86_64_row name) RowFits
x86_64_fits name = row_fits (x86_64_row name) (x86_64_checked name)
