-- What an architecture's `r_type`s and numbers name.
use Rattle.linker_elf.specs.Imports.{AnyForm, Uleb128Role}
use Rattle.linker_elf.specs.declared.elf.architecture.Architecture.{Architecture}
use Rattle.std.specs.Prelude.{None, Option, Some, slice_get, ℕ, ◌≡◌}
use Rattle.linker_elf.specs.AArch64.{aarch64_forms}
use Rattle.linker_elf.specs.AArch64Relocations.{aarch64_name, aarch64_row}
use Rattle.linker_elf.specs.ElfNames.{ElfName, IsNameOf}
use Rattle.linker_elf.specs.LoongArch.{loongarch64_forms}
use Rattle.linker_elf.specs.LoongArchRelocations.{loongarch_name, loongarch_row}
use Rattle.linker_elf.specs.LoongArchRelocations.{loongarch_uleb128_role}
use Rattle.linker_elf.specs.Ppc64.{ppc64_forms}
use Rattle.linker_elf.specs.Ppc64Relocations.{ppc64_name, ppc64_row}
use Rattle.linker_elf.specs.RiscV.{riscv_forms}
use Rattle.linker_elf.specs.RiscVRelocations.{riscv_relocation, riscv_name, riscv_uleb128_role}
use Rattle.linker_elf.specs.X86Relocations.{x86_64_name, x86_64_row}
use Rattle.linker_elf.specs.declared.elf.architecture.Architecture.TheVariants.{AArch64, RiscV}
use Rattle.linker_elf.specs.declared.elf.architecture.Architecture.TheVariants.{LoongArch64}
use Rattle.linker_elf.specs.declared.elf.architecture.Architecture.TheVariants.{Ppc64, X86_64}
use Rattle.linker_elf.specs.declared.elf.AnyForm.TheVariants as insns
use Rattle.linker_elf.specs.declared.elf.RowInfo.{RowInfo}

-- ---- relocations, by `r_type`

-- a value, as the row or the `r_type` and text, of the name that an `r_type` has among names
pub record IsNamedValue {Name A : Type 0} (elf : Name → ElfName) (value_of : Name → A) (r_type : ℕ)
    (value : A) : Type 0 where
  pub name : Name
  pub is_name : IsNameOf elf r_type name
  pub value_is : value ≡ value_of name

-- what the relocation with an `r_type` means
abbrev pub IsRow : Architecture → ℕ → Option RowInfo → Type 0
IsRow AArch64 = IsNamedValue aarch64_name aarch64_row
IsRow RiscV = IsNamedValue riscv_name (λ name. (riscv_relocation name).row)
IsRow LoongArch64 = IsNamedValue loongarch_name loongarch_row
IsRow Ppc64 = IsNamedValue ppc64_name ppc64_row
IsRow X86_64 = IsNamedValue x86_64_name x86_64_row

-- how ELF names it
abbrev pub IsElfName : Architecture → ℕ → ElfName → Type 0
IsElfName AArch64 = IsNamedValue aarch64_name aarch64_name
IsElfName RiscV = IsNamedValue riscv_name riscv_name
IsElfName LoongArch64 = IsNamedValue loongarch_name loongarch_name
IsElfName Ppc64 = IsNamedValue ppc64_name ppc64_name
IsElfName X86_64 = IsNamedValue x86_64_name x86_64_name

-- what it does with a ULEB128 number
abbrev pub IsRole : Architecture → ℕ → Option Uleb128Role → Type 0
IsRole RiscV = IsNamedValue riscv_name riscv_uleb128_role
IsRole LoongArch64 = IsNamedValue loongarch_name loongarch_uleb128_role
IsRole architecture = λ r_type role. role ≡ None

-- ---- forms, by their numbers

abbrev pub of_some : {A B : Type 0} → (A → B) → Option A → Option B
of_some of None = None
of_some of (Some x) = Some (of x)

-- the form with a number
abbrev pub form_of_number : Architecture → ℕ → Option AnyForm
form_of_number AArch64 n = of_some insns.AArch64 (slice_get aarch64_forms n)
form_of_number RiscV n = of_some insns.RiscV (slice_get riscv_forms n)
form_of_number LoongArch64 n = of_some insns.LoongArch64 (slice_get loongarch64_forms n)
form_of_number Ppc64 n = of_some insns.Ppc64 (slice_get ppc64_forms n)
form_of_number X86_64 n = None
