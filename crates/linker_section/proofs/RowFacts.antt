-- The facts of each row say what it requires, and what its way requires of it: by computation, name
-- by name.
use Rattle.linker_section.proofs.Imports.{AArch64Relocation, Architecture, ElfName, IsNamedValue, IsRow, LoongArch64Relocation, None, Option, Ppc64Relocation, RiscVRelocation, RowInfo, SaysNeeds, SaysWay, Some, X86_64Relocation, aarch64_name, aarch64_row, facts_of, false, loongarch_name, loongarch_row, needs_of, ppc64_name, ppc64_row, refl, requirements_by, riscv_name, riscv_relocation, subst, sym, true, true≢false, x86_64_name, x86_64_row, ℕ, ℤ, ◌≡◌}
use Rattle.linker_elf.specs.declared.elf.architecture.Architecture.TheVariants.{AArch64, X86_64, RiscV, LoongArch64, Ppc64}
use Rattle.linker_elf.specs.declared.aarch64.relocations.AArch64Relocation.TheVariants as aarch64
use Rattle.linker_elf.specs.declared.loongarch64.relocations.LoongArch64Relocation.TheVariants as loongarch64
use Rattle.linker_elf.specs.declared.ppc64.relocations.Ppc64Relocation.TheVariants as ppc64
use Rattle.linker_elf.specs.declared.riscv64.relocations.RiscVRelocation.TheVariants as riscv64
use Rattle.linker_elf.specs.declared.x86_64.relocations.X86_64Relocation.TheVariants as x86_64

-- ---- names

-- the facts of a row say what it requires, and its way
abbrev IsSaid : Architecture → Option RowInfo → Type 0
IsSaid architecture None = Unit
IsSaid architecture (Some row) =
    ((addend : ℤ) → requirements_by (facts_of row) addend true ≡ needs_of row addend true)
    × ((addend : ℤ) → requirements_by (facts_of row) addend false ≡ needs_of row addend false)
    × SaysWay architecture row

aarch64_said : (name : AArch64Relocation) → IsSaid AArch64 (aarch64_row name)
aarch64_said (aarch64.Other r_type) = tt
aarch64_said name = (
  (λ addend. refl),
  (λ addend. refl),
  record {
    has_value = refl;
    single = refl;
    some = refl;
    narrow = refl;
    shown = λ none there. refl;
    unthreaded = refl;
    offset = refl;
    unlabelled = refl;
    loads_none = refl;
    branch = refl;
    origin = λ addresses. refl;
    high = refl;
    high_value = λ o. refl;
    labelled = refl;
    low_value = λ o. refl;
  },
)

riscv64_said : (name : RiscVRelocation) → IsSaid RiscV ((riscv_relocation name).row)
riscv64_said (riscv64.Other r_type) = tt
riscv64_said name = (
  (λ addend. refl),
  (λ addend. refl),
  record {
    has_value = refl;
    single = refl;
    some = refl;
    narrow = refl;
    shown = λ none there. absurd (true≢false none);
    unthreaded = refl;
    offset = refl;
    unlabelled = refl;
    loads_none = refl;
    branch = refl;
    origin = λ addresses. refl;
    high = refl;
    high_value = λ o. refl;
    labelled = refl;
    low_value = λ o. refl;
  },
)

loongarch64_said : (name : LoongArch64Relocation) → IsSaid LoongArch64 (loongarch_row name)
loongarch64_said (loongarch64.Other r_type) = tt
loongarch64_said name = (
  (λ addend. refl),
  (λ addend. refl),
  record {
    has_value = refl;
    single = refl;
    some = refl;
    narrow = refl;
    shown = λ none there. refl;
    unthreaded = refl;
    offset = refl;
    unlabelled = refl;
    loads_none = refl;
    branch = refl;
    origin = λ addresses. refl;
    high = refl;
    high_value = λ o. refl;
    labelled = refl;
    low_value = λ o. refl;
  },
)

ppc64_said : (name : Ppc64Relocation) → IsSaid Ppc64 (ppc64_row name)
ppc64_said (ppc64.Other r_type) = tt
ppc64_said name = (
  (λ addend. refl),
  (λ addend. refl),
  record {
    has_value = refl;
    single = refl;
    some = refl;
    narrow = refl;
    shown = λ none there. absurd (true≢false none);
    unthreaded = refl;
    offset = refl;
    unlabelled = refl;
    loads_none = refl;
    branch = refl;
    origin = λ addresses. refl;
    high = refl;
    high_value = λ o. refl;
    labelled = refl;
    low_value = λ o. refl;
  },
)

x86_64_said : (name : X86_64Relocation) → IsSaid X86_64 (x86_64_row name)
x86_64_said (x86_64.Other r_type) = tt
x86_64_said name = (
  (λ addend. refl),
  (λ addend. refl),
  record {
    has_value = refl;
    single = refl;
    some = refl;
    narrow = refl;
    shown = λ none there. refl;
    unthreaded = refl;
    offset = refl;
    unlabelled = refl;
    loads_none = refl;
    branch = refl;
    origin = λ addresses. refl;
    high = refl;
    high_value = λ o. refl;
    labelled = refl;
    low_value = λ o. refl;
  },
)

-- ---- rows

by_names : {Name : Type 0} (architecture : Architecture) (elf : Name → ElfName)
    (row_of : Name → Option RowInfo) → ((name : Name) → IsSaid architecture (row_of name))
    → (r_type : ℕ) (row : RowInfo) → IsNamedValue elf row_of r_type (Some row)
    → IsSaid architecture (Some row)
by_names architecture elf row_of said r_type row of =
    subst (IsSaid architecture) (sym of.value_is) (said of.name)

said : (architecture : Architecture) (r_type : ℕ) (row : RowInfo)
    → IsRow architecture r_type (Some row) → IsSaid architecture (Some row)
said AArch64 = by_names AArch64 aarch64_name aarch64_row aarch64_said
said RiscV = by_names RiscV riscv_name (λ name. (riscv_relocation name).row) riscv64_said
said LoongArch64 = by_names LoongArch64 loongarch_name loongarch_row loongarch64_said
said Ppc64 = by_names Ppc64 ppc64_name ppc64_row ppc64_said
said X86_64 = by_names X86_64 x86_64_name x86_64_row x86_64_said

by_tls : (row : RowInfo)
    → ((addend : ℤ) → requirements_by (facts_of row) addend true ≡ needs_of row addend true)
    → ((addend : ℤ) → requirements_by (facts_of row) addend false ≡ needs_of row addend false)
    → SaysNeeds row
by_tls row is isnt addend true = is addend
by_tls row is isnt addend false = isnt addend

pub says : (architecture : Architecture) (r_type : ℕ) (row : RowInfo)
    → IsRow architecture r_type (Some row) → SaysNeeds row
says architecture r_type row is_row =
    let is = said architecture r_type row is_row in by_tls row is.0 is.1

pub says_way : (architecture : Architecture) (r_type : ℕ) (row : RowInfo)
    → IsRow architecture r_type (Some row) → SaysWay architecture row
says_way architecture r_type row is_row = (said architecture r_type row is_row).2
