-- The types of relocations with a row are below the unit of handles, and a handle names them.
use Rattle.linker_elf.proofs.Imports.{AArch64Relocation, IfSome, IsRow, LoongArch64Relocation, Ppc64Relocation, RiscVRelocation, RowInfo, Some, X86_64Relocation, aarch64_name, aarch64_row, arith, lit≤, loongarch_name, loongarch_row, ppc64_name, ppc64_row, r_type_of, riscv_name, riscv_relocation, subst, sym, x86_64_name, x86_64_row, ℕ, ◌%◌, ◌+◌, ◌≡◌, ◌≤◌}
use Rattle.linker_elf.specs.declared.aarch64.relocations.AArch64Relocation.TheVariants as aarch64_names
use Rattle.linker_elf.specs.declared.riscv64.relocations.RiscVRelocation.TheVariants as riscv64_names
use Rattle.linker_elf.specs.declared.loongarch64.relocations.LoongArch64Relocation.TheVariants as loongarch64_names
use Rattle.linker_elf.specs.declared.ppc64.relocations.Ppc64Relocation.TheVariants as ppc64_names
use Rattle.linker_elf.specs.declared.x86_64.relocations.X86_64Relocation.TheVariants as x86_64_names
use Rattle.linker_elf.specs.Handles.{IsFound, architecture_in, first_handle, handle_unit}
use Rattle.linker_elf.specs.declared.elf.architecture.Architecture.{Architecture}
use Rattle.linker_elf.specs.declared.elf.architecture.Architecture.TheVariants.{AArch64, RiscV, LoongArch64, Ppc64, X86_64}

aarch64_below : (name : AArch64Relocation) → IfSome (aarch64_row name) (λ row. r_type_of (aarch64_name name) ≤ 0xffff)
aarch64_below (aarch64_names.Other r_type) = tt
aarch64_below _ = lit≤ tt

riscv_below : (name : RiscVRelocation) → IfSome ((riscv_relocation name).row) (λ row. r_type_of (riscv_name name) ≤ 0xffff)
riscv_below (riscv64_names.Other r_type) = tt
riscv_below _ = lit≤ tt

loongarch_below : (name : LoongArch64Relocation) → IfSome (loongarch_row name) (λ row. r_type_of (loongarch_name name) ≤ 0xffff)
loongarch_below (loongarch64_names.Other r_type) = tt
loongarch_below _ = lit≤ tt

ppc64_below : (name : Ppc64Relocation) → IfSome (ppc64_row name) (λ row. r_type_of (ppc64_name name) ≤ 0xffff)
ppc64_below (ppc64_names.Other r_type) = tt
ppc64_below _ = lit≤ tt

x86_64_below : (name : X86_64Relocation) → IfSome (x86_64_row name) (λ row. r_type_of (x86_64_name name) ≤ 0xffff)
x86_64_below (x86_64_names.Other r_type) = tt
x86_64_below _ = lit≤ tt

below : (architecture : Architecture) (r_type : ℕ) (row : RowInfo) → IsRow architecture r_type (Some row) → r_type ≤ 0xffff
below AArch64 r_type row is =
    subst (λ c. c ≤ 0xffff) is.is_name.r_type_is
    (subst (λ r. IfSome r (λ row. r_type_of (aarch64_name is.name) ≤ 0xffff)) (sym is.value_is) (aarch64_below is.name))
below RiscV r_type row is =
    subst (λ c. c ≤ 0xffff) is.is_name.r_type_is
    (subst (λ r. IfSome r (λ row. r_type_of (riscv_name is.name) ≤ 0xffff)) (sym is.value_is) (riscv_below is.name))
below LoongArch64 r_type row is =
    subst (λ c. c ≤ 0xffff) is.is_name.r_type_is
    (subst (λ r. IfSome r (λ row. r_type_of (loongarch_name is.name) ≤ 0xffff)) (sym is.value_is) (loongarch_below is.name))
below Ppc64 r_type row is =
    subst (λ c. c ≤ 0xffff) is.is_name.r_type_is
    (subst (λ r. IfSome r (λ row. r_type_of (ppc64_name is.name) ≤ 0xffff)) (sym is.value_is) (ppc64_below is.name))
below X86_64 r_type row is =
    subst (λ c. c ≤ 0xffff) is.is_name.r_type_is
    (subst (λ r. IfSome r (λ row. r_type_of (x86_64_name is.name) ≤ 0xffff)) (sym is.value_is) (x86_64_below is.name))

within : (architecture : Architecture) (r_type : ℕ) → r_type ≤ 0xffff → architecture_in (first_handle architecture + r_type) ≡ Some architecture
within AArch64 r_type low = grind arith
within RiscV r_type low = grind arith
within LoongArch64 r_type low = grind arith
within Ppc64 r_type low = grind arith
within X86_64 r_type low = grind arith

rest : (architecture : Architecture) (r_type : ℕ) → r_type ≤ 0xffff → (first_handle architecture + r_type) % handle_unit ≡ r_type
rest AArch64 r_type low = omega arith
rest RiscV r_type low = omega arith
rest LoongArch64 r_type low = omega arith
rest Ppc64 r_type low = omega arith
rest X86_64 r_type low = omega arith

-- the handle of an `r_type` with a row
pub found : (architecture : Architecture) (r_type : ℕ) (row : RowInfo) → IsRow architecture r_type (Some row)
    → IsFound architecture r_type (Some row) (first_handle architecture + r_type % handle_unit)
found architecture r_type row is =
    let low : r_type ≤ 0xffff = below architecture r_type row is in
    let same : r_type % handle_unit ≡ r_type = omega arith in
    subst (λ c. IsFound architecture r_type (Some row) (first_handle architecture + c)) (sym same)
    (within architecture r_type low, rest architecture r_type low)
