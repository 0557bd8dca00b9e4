-- The rows that the crate `linker-utils` has are of forms that it has, by computation.
use Rattle.linker_utils.proofs.Imports.{AArch64Relocation, Bool, IfSome, IsUpstream, LoongArch64Relocation, None, Option, Ppc64Relocation, RiscVRelocation, RowInfo, Some, X86_64Relocation, aarch64_row, ap, is_some, is_upstream, loongarch_raw_row, refl, riscv_row, row_of, subst, sym, true, true≢false, x86_64_relocation, ◌∙◌, ◌≡◌}
use Rattle.std.specs.Option.{option_map}
use Rattle.linker_elf.specs.Ppc64Relocations.{ppc64_relocation}
use Rattle.linker_elf.specs.Rows.{raw_row}
use Rattle.linker_elf.specs.declared.aarch64.relocations.AArch64Relocation.TheVariants.{R_AARCH64_NONE}
use Rattle.linker_elf.specs.declared.loongarch64.relocations.LoongArch64Relocation.TheVariants.{R_LARCH_NONE}
use Rattle.linker_elf.specs.declared.ppc64.relocations.Ppc64Relocation.TheVariants.{R_PPC64_TLS}
use Rattle.linker_elf.specs.declared.riscv64.relocations.RiscVRelocation.TheVariants.{R_RISCV_NONE}
use Rattle.linker_elf.specs.declared.x86_64.relocations.X86_64Relocation.TheVariants.{R_X86_64_NONE}
use Rattle.linker_utils.specs.declared.elf.RelocationKindInfo.{RelocationKindInfo}

-- what holds of a row holds of what that crate says of it
pub upstream_has : (P : RowInfo → Type 0) (result : Option RelocationKindInfo) (row : Option RowInfo)
    → option_map row_of result ≡ row → IfSome row P → IfSome result (λ info. P (row_of info))
upstream_has P None row is holds = tt
upstream_has P (Some info) row is holds = subst (λ row. IfSome row P) (sym is) holds

pub upstream_is : (result : Option RelocationKindInfo) (row : RowInfo) → IfSome result (λ info. row_of info ≡ row)
    → is_some result ≡ is_upstream row.size → IsUpstream row → option_map row_of result ≡ Some row
upstream_is None row is known has = absurd (true≢false (sym (known ∙ has)))
upstream_is (Some info) row is known has = ap Some is

abbrev pub upstream_check : Option RowInfo → Bool
upstream_check None = true
upstream_check (Some row) = is_upstream row.size

pub upstream_form : (row : Option RowInfo) → upstream_check row ≡ true → IfSome row IsUpstream
upstream_form None h = tt
upstream_form (Some row) h = h

pub aarch64_upstream : (name : AArch64Relocation) → upstream_check (aarch64_row name) ≡ true
aarch64_upstream R_AARCH64_NONE = refl
aarch64_upstream name = refl

pub riscv_upstream : (name : RiscVRelocation) → upstream_check (riscv_row name) ≡ true
riscv_upstream R_RISCV_NONE = refl
riscv_upstream name = refl

pub loongarch_upstream : (name : LoongArch64Relocation) → upstream_check (loongarch_raw_row name) ≡ true
loongarch_upstream R_LARCH_NONE = refl
loongarch_upstream name = refl

pub ppc64_upstream : (name : Ppc64Relocation) → upstream_check (raw_row (ppc64_relocation name)) ≡ true
ppc64_upstream R_PPC64_TLS = refl
ppc64_upstream name = refl

pub x86_64_upstream : (name : X86_64Relocation) → upstream_check (raw_row (x86_64_relocation name)) ≡ true
x86_64_upstream R_X86_64_NONE = refl
x86_64_upstream name = refl
