-- Calls that stay as they are before addresses are known, by what is known of their symbol.
use Rattle.std.specs.Prelude.{◌≡◌, ℕ, ◌==◌, ◌||◌, ◌&&◌, ◌⊎◌, not, Bool, true, false, Option, Some}
use Rattle.std.specs.Prelude.{None, List, slice_get}
use Rattle.linker_rewriting.specs.Imports.{AArch64, Architecture, NotRelaxable, Phase, Ppc64}
use Rattle.linker_rewriting.specs.Imports.{PreLayout, Rela, Scope, SymbolFacts, aarch64_name}
use Rattle.linker_rewriting.specs.Imports.{ppc64_name, r_type_of}
use Rattle.linker_elf.specs.declared.aarch64.relocations.AArch64Relocation.TheVariants as aarch64
use Rattle.linker_elf.specs.declared.ppc64.relocations.Ppc64Relocation.TheVariants as ppc64
use Rattle.linker_rewriting.specs.Facts.{may_change_toc}
use Rattle.linker_rewriting.specs.Groups.{IsScopeIn}

abbrev pub is_weak_zero : Option SymbolFacts → Bool
is_weak_zero None = false
is_weak_zero (Some symbol) = symbol.is_undefined_weak

abbrev pub changes_toc : Option SymbolFacts → Bool
changes_toc None = false
changes_toc (Some symbol) = may_change_toc symbol

-- of AArch64 a branch to what isn't undefined and weak
abbrev pub aarch64_keeps : Option SymbolFacts → ℕ → Bool
aarch64_keeps symbol r_type =
    (r_type == r_type_of (aarch64_name aarch64.R_AARCH64_CALL26)
    || r_type == r_type_of (aarch64_name aarch64.R_AARCH64_JUMP26)) && not (is_weak_zero symbol)

-- of PowerPC64 a call that returns with the same TOC pointer
abbrev pub ppc64_keeps : Option SymbolFacts → ℕ → Bool
ppc64_keeps symbol r_type =
    r_type == r_type_of (ppc64_name ppc64.R_PPC64_REL24) && not (changes_toc symbol)

abbrev pub keeps_call : Phase → Architecture → Option SymbolFacts → ℕ → Bool
keeps_call PreLayout AArch64 = aarch64_keeps
keeps_call PreLayout Ppc64 = ppc64_keeps
keeps_call phase architecture = λ symbol r_type. false

-- a relocation stays as it is by its `r_type`, or as such a call
abbrev pub IsLeft : Architecture → Phase → List SymbolFacts → Rela → Type 0
IsLeft architecture phase symbols r =
    (scope : Scope) × IsScopeIn architecture phase r.r_type scope
    × ((scope ≡ NotRelaxable)
    ⊎ (keeps_call phase architecture (slice_get symbols r.symbol) r.r_type ≡ true))
