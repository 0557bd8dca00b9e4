-- The vocabulary of relocations: machines, the ranges of values, and the forms of all
-- architectures.
use Rattle.linker_elf.specs.Imports.{AArch64, AnyForm, Form, Layout, LoongArch64, Ppc64, RiscV}
use Rattle.linker_elf.specs.Imports.{Signed, Unsigned, form_of}
use Rattle.std.specs.Prelude.{None, Option, Some, neg_ℤ, pos, ℕ, ℤ, ⊤, ◌-◌, ◌^◌, ◌≤ℤ◌, ◌<ℤ◌}
use Rattle.linker_elf.specs.declared.elf.Sign.{Sign}
use Rattle.linker_elf.specs.declared.elf.AllowedRange.{AllowedRange}
use Rattle.linker_elf.specs.Ppc64.{ppc64_layout}
use Rattle.linker_elf.specs.AArch64.{aarch64_layout}
use Rattle.linker_elf.specs.RiscV.{riscv_layout}
use Rattle.linker_elf.specs.LoongArch.{loongarch_layout}

-- e_machine in the ELF header of an architecture's files
abbrev pub em_aarch64 : ℕ
em_aarch64 = 183

abbrev pub em_riscv : ℕ
em_riscv = 243

abbrev pub em_loongarch : ℕ
em_loongarch = 258

abbrev pub em_ppc64 : ℕ
em_ppc64 = 21

abbrev pub em_x86_64 : ℕ
em_x86_64 = 62

-- the least number of n bits, and the first above them
abbrev pub bit_bounds : ℕ → Sign → ℤ × ℤ
bit_bounds n Signed = (neg_ℤ (pos (2 ^ (n - 1))), pos (2 ^ (n - 1)))
bit_bounds n Unsigned = (pos 0, pos (2 ^ n))

-- the numbers of n bits, signed or unsigned
abbrev pub signed_or_unsigned : ℕ → ℤ × ℤ
signed_or_unsigned n = ((bit_bounds n Signed).0, (bit_bounds n Unsigned).1)

abbrev pub IsWithin : Option (ℤ × ℤ) → ℤ → Type 0
IsWithin None v = ⊤
IsWithin (Some b) v = (b.0 ≤ℤ v) × (v <ℤ b.1)

abbrev pub IsAllowed : AllowedRange → ℤ → Type 0
IsAllowed range v = IsWithin range.bounds v

-- the layout and the form of an instruction of any architecture
abbrev pub relocation_layout : AnyForm → Layout
relocation_layout (AArch64 f) = aarch64_layout f
relocation_layout (RiscV f) = riscv_layout f
relocation_layout (Ppc64 f) = ppc64_layout f
relocation_layout (LoongArch64 f) = loongarch_layout f

abbrev pub relocation_form : AnyForm → Form
relocation_form f = form_of (relocation_layout f)
