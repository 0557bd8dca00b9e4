-- The rewrites of all architectures, and what is chosen.
use Rattle.linker_utils.specs.Imports.{AArch64, AArch64Relocation, Bool, Choice, DeletedBytes}
use Rattle.linker_utils.specs.Imports.{IsTrue, LinkFacts, List, LoongArch64, None, Option}
use Rattle.linker_utils.specs.Imports.{OtherRelocation, Ppc64, Relaxation, RelocationModifier}
use Rattle.linker_utils.specs.Imports.{Rewrite, RiscV, X86_64, false, loongarch_name, ppc64_name}
use Rattle.linker_utils.specs.Imports.{riscv_name, slice_get, with_group, x86_64_name, ℕ}
use Rattle.std.specs.Prelude.{◌≡◌, ◌↔◌}
use Rattle.linker_utils.specs.AArch64Rewrites.{aarch64_rewrite, aarch64_modifier, aarch64_other}
use Rattle.linker_utils.specs.AArch64Rewrites.{aarch64_rewrites}
use Rattle.linker_utils.specs.AArch64Rewrites.{IsAArch64Choice}
use Rattle.linker_utils.specs.AArch64Rewrites.{aarch64_matches}
use Rattle.linker_elf.specs.AArch64Relocations.{aarch64_name}
use Rattle.linker_elf.specs.Architectures.{IsNamedValue, of_some}
use Rattle.linker_elf.specs.ElfNames.{ElfName, IsNameOf, r_type_of}
use Rattle.linker_utils.specs.LoongArchRewrites.{IsLoongArchChoice}
use Rattle.linker_utils.specs.LoongArchRewrites.{loongarch_matches}
use Rattle.linker_utils.specs.LoongArchRewrites.{loongarch_rewrite, loongarch_modifier}
use Rattle.linker_utils.specs.LoongArchRewrites.{loongarch_deleted, loongarch64_rewrites}
use Rattle.linker_utils.specs.Ppc64Rewrites.{IsPpc64Choice}
use Rattle.linker_utils.specs.Ppc64Rewrites.{ppc64_matches}
use Rattle.linker_utils.specs.Ppc64Rewrites.{ppc64_skipped, ppc64_may_be_skipped}
use Rattle.linker_utils.specs.Ppc64Rewrites.{ppc64_rewrites, ppc64_rewrite, ppc64_modifier}
use Rattle.linker_utils.specs.RiscVRewrites.{riscv_rewrites, riscv_rewrite, riscv_modifier}
use Rattle.linker_utils.specs.RiscVRewrites.{riscv_deleted}
use Rattle.linker_utils.specs.RiscVRewrites.{IsRiscVChoice}
use Rattle.linker_utils.specs.RiscVRewrites.{riscv_matches}
use Rattle.linker_utils.specs.RiscVRewrites.{riscv_skipped, riscv_may_be_skipped}
use Rattle.linker_utils.specs.X86Rewrites.{x86_64_rewrites, x86_64_rewrite, x86_64_modifier}
use Rattle.linker_utils.specs.X86Rewrites.{IsX86Choice}
use Rattle.linker_utils.specs.X86Rewrites.{x86_64_matches}
use Rattle.linker_utils.specs.X86Rewrites.{x86_64_skipped, x86_64_may_be_skipped}
use Rattle.linker_utils.specs.declared.aarch64.rewrites.RewriteKind.TheVariants as aarch64
use Rattle.linker_utils.specs.declared.loongarch64.rewrites.RewriteKind.TheVariants as loongarch64
use Rattle.linker_utils.specs.declared.ppc64.rewrites.RewriteKind.TheVariants as ppc64
use Rattle.linker_utils.specs.declared.riscv64.rewrites.RewriteKind.TheVariants as riscv64
use Rattle.linker_utils.specs.declared.x86_64.rewrites.RewriteKind.TheVariants as x86_64
use Rattle.linker_utils.specs.declared.architecture.Relaxation.TheVariants as relaxations
use Rattle.linker_elf.specs.declared.elf.architecture.Architecture.{Architecture}

-- the rewrite with a number, and with a count of bytes before the field
abbrev pub rewrite_of_number : Architecture → ℕ → ℕ → Option Relaxation
rewrite_of_number AArch64 number n = of_some relaxations.AArch64 (slice_get aarch64_rewrites number)
rewrite_of_number RiscV number n = of_some relaxations.RiscV (slice_get riscv_rewrites number)
rewrite_of_number LoongArch64 number n =
    of_some relaxations.LoongArch64 (slice_get loongarch64_rewrites number)
rewrite_of_number Ppc64 number n = of_some relaxations.Ppc64 (slice_get ppc64_rewrites number)
rewrite_of_number X86_64 number n =
    of_some relaxations.X86_64 (slice_get (x86_64_rewrites n) number)

abbrev pub relaxation_architecture : Relaxation → Architecture
relaxation_architecture (relaxations.AArch64 kind) = AArch64
relaxation_architecture (relaxations.RiscV kind) = RiscV
relaxation_architecture (relaxations.LoongArch64 kind) = LoongArch64
relaxation_architecture (relaxations.Ppc64 kind) = Ppc64
relaxation_architecture (relaxations.X86_64 kind) = X86_64

-- what a rewrite of any architecture does
abbrev pub relaxation_rewrite : Relaxation → Option Rewrite
relaxation_rewrite (relaxations.AArch64 kind) = aarch64_rewrite kind
relaxation_rewrite (relaxations.RiscV kind) = riscv_rewrite kind
relaxation_rewrite (relaxations.LoongArch64 kind) = loongarch_rewrite kind
relaxation_rewrite (relaxations.Ppc64 kind) = ppc64_rewrite kind
relaxation_rewrite (relaxations.X86_64 kind) = x86_64_rewrite kind

-- what becomes of the relocation after it
abbrev pub relaxation_modifier : Relaxation → RelocationModifier
relaxation_modifier (relaxations.AArch64 kind) = aarch64_modifier kind
relaxation_modifier (relaxations.RiscV kind) = riscv_modifier kind
relaxation_modifier (relaxations.LoongArch64 kind) = loongarch_modifier kind
relaxation_modifier (relaxations.Ppc64 kind) = ppc64_modifier kind
relaxation_modifier (relaxations.X86_64 kind) = x86_64_modifier kind

-- where the relocation is that is skipped, from the offset on
abbrev pub relaxation_skipped : Relaxation → Option ℕ
relaxation_skipped (relaxations.RiscV kind) = riscv_skipped kind
relaxation_skipped (relaxations.Ppc64 kind) = ppc64_skipped kind
relaxation_skipped (relaxations.X86_64 kind) = x86_64_skipped kind
relaxation_skipped kind = None

-- it leaves the instruction as it is
abbrev pub relaxation_no_op : Relaxation → Type 0
relaxation_no_op (relaxations.AArch64 kind) = kind ≡ aarch64.NoOp
relaxation_no_op (relaxations.RiscV kind) = kind ≡ riscv64.NoOp
relaxation_no_op (relaxations.LoongArch64 kind) = kind ≡ loongarch64.NoOp
relaxation_no_op (relaxations.Ppc64 kind) = kind ≡ ppc64.NoOp
relaxation_no_op (relaxations.X86_64 kind) = kind ≡ x86_64.NoOp

-- whether what is at an offset of a section is something that it is meant for
abbrev pub relaxation_matches : Relaxation → List ℕ → ℕ → Type 0
relaxation_matches (relaxations.AArch64 kind) = aarch64_matches kind
relaxation_matches (relaxations.RiscV kind) = riscv_matches kind
relaxation_matches (relaxations.LoongArch64 kind) = loongarch_matches kind
relaxation_matches (relaxations.Ppc64 kind) = ppc64_matches kind
relaxation_matches (relaxations.X86_64 kind) = x86_64_matches kind

-- what is deleted after it
abbrev pub relaxation_deleted : Relaxation → Option DeletedBytes
relaxation_deleted (relaxations.RiscV kind) = riscv_deleted kind
relaxation_deleted (relaxations.LoongArch64 kind) = loongarch_deleted kind
relaxation_deleted kind = None

-- a relocation of AArch64 by its `r_type`
abbrev pub by_type : OtherRelocation AArch64Relocation → OtherRelocation ℕ
by_type other =
    record { offset = other.offset; relocation = r_type_of (aarch64_name other.relocation) }

-- the relocation of another instruction that it changes too
abbrev pub relaxation_other : Relaxation → Option (OtherRelocation ℕ)
relaxation_other (relaxations.AArch64 kind) = of_some by_type (aarch64_other kind)
relaxation_other kind = None

-- ---- choices

-- a rewrite, and the `r_type` of the relocation after it: the choice for the name of an `r_type`
pub record IsChosenBy {Kind Name : Type 0} (elf : Name → ElfName) (relaxation : Kind → Relaxation)
    (IsChoice : Name → Choice Kind Name → Type 0) (r_type : ℕ) (chosen : Choice Relaxation ℕ)
    : Type 0 where
  pub name : Name
  pub named : Choice Kind Name
  pub is_name : IsNameOf elf r_type name
  pub is_choice : IsChoice name named
  pub kind_is : chosen.kind ≡ relaxation named.kind
  pub r_type_is : chosen.relocation ≡ r_type_of (elf named.relocation)

-- a choice leaves a relocation and its instruction as they are
abbrev pub IsUnchanged : ℕ → Choice Relaxation ℕ → Type 0
IsUnchanged r_type chosen = relaxation_no_op chosen.kind × (chosen.relocation ≡ r_type)

-- of an architecture
abbrev pub IsArchitectureChoice : Architecture → ℕ → List ℕ → ℕ → LinkFacts → Choice Relaxation ℕ
    → Type 0
IsArchitectureChoice AArch64 r_type section o facts =
    IsChosenBy aarch64_name relaxations.AArch64 (λ name. IsAArch64Choice name section o facts)
    r_type
IsArchitectureChoice RiscV r_type section o facts =
    IsChosenBy riscv_name relaxations.RiscV (λ name. IsRiscVChoice name section o facts) r_type
IsArchitectureChoice LoongArch64 r_type section o facts =
    IsChosenBy loongarch_name relaxations.LoongArch64
    (λ name. IsLoongArchChoice name section o facts) r_type
IsArchitectureChoice Ppc64 r_type section o facts =
    IsChosenBy ppc64_name relaxations.Ppc64 (λ name. IsPpc64Choice name section o facts) r_type
IsArchitectureChoice X86_64 r_type section o facts =
    IsChosenBy x86_64_name relaxations.X86_64 (λ name. IsX86Choice name section o facts) r_type

-- whether a relocation can be rewritten, if each other one of its sequence can
abbrev pub IsFit : Architecture → ℕ → List ℕ → ℕ → LinkFacts → Bool → Type 0
IsFit architecture r_type section o facts fits =
    (chosen : Choice Relaxation ℕ)
    × IsArchitectureChoice architecture r_type section o (with_group facts) chosen
    × (IsTrue fits ↔ ¬ IsUnchanged r_type chosen)

-- whether it may be skipped after a rewrite
abbrev pub IsSkippable : Architecture → ℕ → Bool → Type 0
IsSkippable RiscV = IsNamedValue riscv_name riscv_may_be_skipped
IsSkippable Ppc64 = IsNamedValue ppc64_name ppc64_may_be_skipped
IsSkippable X86_64 = IsNamedValue x86_64_name x86_64_may_be_skipped
IsSkippable architecture = λ r_type answer. answer ≡ false
