-- Which relocations a rewrite is made at, in which phase, and which are a group, whose instructions
-- are rewritten all or not at all (ELF Handling For Thread-Local Storage; the psABIs' sections on
-- relaxation, "TOC Optimizations" and "TLS Linkage Optimizations" of the 64-Bit ELF V2 ABI).
use Rattle.std.specs.Prelude.{◌≡◌, ℕ, Bool, true, false, ◌||◌, List, Option, Some, None, slice_get}
use Rattle.linker_rewriting.specs.Imports.{AArch64, Architecture, Descriptor, FirstOfPair}
use Rattle.linker_rewriting.specs.Imports.{GeneralDynamic, GotLoad, GotToPcRel, Group, Grouped}
use Rattle.linker_rewriting.specs.Imports.{IfGroupMatches, Independent, InitialExec, Labelled}
use Rattle.linker_rewriting.specs.Imports.{LocalDynamic, LoongArch64, NotRelaxable, Phase, Ppc64}
use Rattle.linker_rewriting.specs.Imports.{PreLayout, RiscV, Scope, ShortPcRel, TlsLocalExec}
use Rattle.linker_rewriting.specs.Imports.{UnrelaxableGroups, X86_64, aarch64_name, ppc64_name}
use Rattle.linker_rewriting.specs.Imports.{riscv_name}
use Rattle.linker_elf.specs.declared.aarch64.relocations.AArch64Relocation.{AArch64Relocation}
use Rattle.linker_elf.specs.LoongArchRelocations.{loongarch_name}
use Rattle.linker_elf.specs.X86Relocations.{x86_64_name}
use Rattle.linker_elf.specs.declared.aarch64.relocations.AArch64Relocation.TheVariants as aarch64
use Rattle.linker_elf.specs.declared.loongarch64.relocations.LoongArch64Relocation.{LoongArch64Relocation}
use Rattle.linker_elf.specs.declared.loongarch64.relocations.LoongArch64Relocation.TheVariants as loongarch64
use Rattle.linker_elf.specs.declared.ppc64.relocations.Ppc64Relocation.{Ppc64Relocation}
use Rattle.linker_elf.specs.declared.ppc64.relocations.Ppc64Relocation.TheVariants as ppc64
use Rattle.linker_elf.specs.declared.riscv64.relocations.RiscVRelocation.{RiscVRelocation}
use Rattle.linker_elf.specs.declared.riscv64.relocations.RiscVRelocation.TheVariants as riscv64
use Rattle.linker_elf.specs.declared.x86_64.relocations.X86_64Relocation.{X86_64Relocation}
use Rattle.linker_elf.specs.declared.x86_64.relocations.X86_64Relocation.TheVariants as x86_64
use Rattle.linker_elf.specs.Architectures.{IsNamedValue}

-- ---- scopes

abbrev pub aarch64_scope_in : Phase → AArch64Relocation → Scope
aarch64_scope_in PreLayout aarch64.R_AARCH64_CALL26 = Independent
aarch64_scope_in PreLayout aarch64.R_AARCH64_JUMP26 = Independent
aarch64_scope_in PreLayout aarch64.R_AARCH64_TLSIE_ADR_GOTTPREL_PAGE21 = Grouped InitialExec
aarch64_scope_in PreLayout aarch64.R_AARCH64_TLSIE_LD64_GOTTPREL_LO12_NC = Grouped InitialExec
aarch64_scope_in PreLayout aarch64.R_AARCH64_TLSDESC_ADR_PAGE21 = Grouped Descriptor
aarch64_scope_in PreLayout aarch64.R_AARCH64_TLSDESC_LD64_LO12 = Grouped Descriptor
aarch64_scope_in PreLayout aarch64.R_AARCH64_TLSDESC_ADD_LO12 = Grouped Descriptor
aarch64_scope_in PreLayout aarch64.R_AARCH64_TLSDESC_CALL = Grouped Descriptor
aarch64_scope_in GotToPcRel aarch64.R_AARCH64_ADR_GOT_PAGE = Grouped GotLoad
aarch64_scope_in GotToPcRel aarch64.R_AARCH64_LD64_GOT_LO12_NC = Grouped GotLoad
aarch64_scope_in ShortPcRel aarch64.R_AARCH64_ADR_PREL_PG_HI21 = FirstOfPair
aarch64_scope_in ShortPcRel aarch64.R_AARCH64_ADD_ABS_LO12_NC = Independent
aarch64_scope_in phase name = NotRelaxable

-- All of RISC-V's wait for addresses.
abbrev pub riscv_scope_in : Phase → RiscVRelocation → Scope
riscv_scope_in TlsLocalExec riscv64.R_RISCV_TPREL_HI20 = Grouped InitialExec
riscv_scope_in TlsLocalExec riscv64.R_RISCV_TPREL_ADD = Grouped InitialExec
riscv_scope_in TlsLocalExec riscv64.R_RISCV_TPREL_LO12_I = Grouped InitialExec
riscv_scope_in TlsLocalExec riscv64.R_RISCV_TPREL_LO12_S = Grouped InitialExec
riscv_scope_in TlsLocalExec riscv64.R_RISCV_TLSDESC_HI20 = Labelled
riscv_scope_in TlsLocalExec riscv64.R_RISCV_TLSDESC_LOAD_LO12 = Labelled
riscv_scope_in TlsLocalExec riscv64.R_RISCV_TLSDESC_ADD_LO12 = Labelled
riscv_scope_in TlsLocalExec riscv64.R_RISCV_TLSDESC_CALL = Labelled
riscv_scope_in GotToPcRel riscv64.R_RISCV_GOT_HI20 = Labelled
riscv_scope_in GotToPcRel riscv64.R_RISCV_PCREL_LO12_I = Labelled
riscv_scope_in GotToPcRel riscv64.R_RISCV_PCREL_LO12_S = Labelled
riscv_scope_in phase name = NotRelaxable

abbrev pub loongarch_scope_in : Phase → LoongArch64Relocation → Scope
-- each where all of its pair is next to it (`IsWhole`), so that the pair is the group
loongarch_scope_in PreLayout loongarch64.R_LARCH_GOT_PC_HI20 = Independent
loongarch_scope_in PreLayout loongarch64.R_LARCH_GOT_PC_LO12 = Independent
loongarch_scope_in PreLayout loongarch64.R_LARCH_TLS_IE_PC_HI20 = Grouped InitialExec
loongarch_scope_in PreLayout loongarch64.R_LARCH_TLS_IE_PC_LO12 = Grouped InitialExec
loongarch_scope_in PreLayout loongarch64.R_LARCH_TLS_IE64_PC_LO20 = Grouped InitialExec
loongarch_scope_in PreLayout loongarch64.R_LARCH_TLS_IE64_PC_HI12 = Grouped InitialExec
loongarch_scope_in PreLayout loongarch64.R_LARCH_TLS_DESC_PC_HI20 = Grouped Descriptor
loongarch_scope_in PreLayout loongarch64.R_LARCH_TLS_DESC_PC_LO12 = Grouped Descriptor
loongarch_scope_in PreLayout loongarch64.R_LARCH_TLS_DESC64_PC_LO20 = Grouped Descriptor
loongarch_scope_in PreLayout loongarch64.R_LARCH_TLS_DESC64_PC_HI12 = Grouped Descriptor
loongarch_scope_in PreLayout loongarch64.R_LARCH_TLS_DESC_LD = Grouped Descriptor
loongarch_scope_in PreLayout loongarch64.R_LARCH_TLS_DESC_CALL = Grouped Descriptor
loongarch_scope_in TlsLocalExec loongarch64.R_LARCH_TLS_LE_HI20_R = Grouped InitialExec
loongarch_scope_in TlsLocalExec loongarch64.R_LARCH_TLS_LE_ADD_R = Grouped InitialExec
loongarch_scope_in TlsLocalExec loongarch64.R_LARCH_TLS_LE_LO12_R = Grouped InitialExec
loongarch_scope_in phase name = NotRelaxable

abbrev pub ppc64_scope_in : Phase → Ppc64Relocation → Scope
ppc64_scope_in PreLayout ppc64.R_PPC64_REL24 = Independent
ppc64_scope_in PreLayout ppc64.R_PPC64_GOT_PCREL34 = Independent
ppc64_scope_in PreLayout ppc64.R_PPC64_GOT16 = Grouped GotLoad
ppc64_scope_in PreLayout ppc64.R_PPC64_GOT16_DS = Grouped GotLoad
ppc64_scope_in PreLayout ppc64.R_PPC64_GOT16_LO = Grouped GotLoad
ppc64_scope_in PreLayout ppc64.R_PPC64_GOT16_LO_DS = Grouped GotLoad
ppc64_scope_in PreLayout ppc64.R_PPC64_GOT16_HI = Grouped GotLoad
ppc64_scope_in PreLayout ppc64.R_PPC64_GOT16_HA = Grouped GotLoad
ppc64_scope_in PreLayout ppc64.R_PPC64_GOT_TPREL16_DS = Grouped InitialExec
ppc64_scope_in PreLayout ppc64.R_PPC64_GOT_TPREL16_LO_DS = Grouped InitialExec
ppc64_scope_in PreLayout ppc64.R_PPC64_GOT_TPREL16_HI = Grouped InitialExec
ppc64_scope_in PreLayout ppc64.R_PPC64_GOT_TPREL16_HA = Grouped InitialExec
ppc64_scope_in PreLayout ppc64.R_PPC64_GOT_TPREL_PCREL34 = Grouped InitialExec
ppc64_scope_in PreLayout ppc64.R_PPC64_TLS = Grouped InitialExec
ppc64_scope_in PreLayout ppc64.R_PPC64_GOT_TLSGD16 = Grouped GeneralDynamic
ppc64_scope_in PreLayout ppc64.R_PPC64_GOT_TLSGD16_LO = Grouped GeneralDynamic
ppc64_scope_in PreLayout ppc64.R_PPC64_GOT_TLSGD16_HI = Grouped GeneralDynamic
ppc64_scope_in PreLayout ppc64.R_PPC64_GOT_TLSGD16_HA = Grouped GeneralDynamic
ppc64_scope_in PreLayout ppc64.R_PPC64_GOT_TLSGD_PCREL34 = Grouped GeneralDynamic
ppc64_scope_in PreLayout ppc64.R_PPC64_TLSGD = Grouped GeneralDynamic
ppc64_scope_in PreLayout ppc64.R_PPC64_GOT_TLSLD16 = Grouped LocalDynamic
ppc64_scope_in PreLayout ppc64.R_PPC64_GOT_TLSLD16_LO = Grouped LocalDynamic
ppc64_scope_in PreLayout ppc64.R_PPC64_GOT_TLSLD16_HI = Grouped LocalDynamic
ppc64_scope_in PreLayout ppc64.R_PPC64_GOT_TLSLD16_HA = Grouped LocalDynamic
ppc64_scope_in PreLayout ppc64.R_PPC64_GOT_TLSLD_PCREL34 = Grouped LocalDynamic
ppc64_scope_in PreLayout ppc64.R_PPC64_TLSLD = Grouped LocalDynamic
ppc64_scope_in TlsLocalExec ppc64.R_PPC64_TPREL16_HA = Grouped InitialExec
ppc64_scope_in TlsLocalExec ppc64.R_PPC64_TPREL16_LO = Grouped InitialExec
ppc64_scope_in TlsLocalExec ppc64.R_PPC64_TPREL16_LO_DS = Grouped InitialExec
ppc64_scope_in ShortPcRel ppc64.R_PPC64_TOC16_HA = IfGroupMatches GotLoad
ppc64_scope_in ShortPcRel ppc64.R_PPC64_TOC16_LO = IfGroupMatches GotLoad
ppc64_scope_in ShortPcRel ppc64.R_PPC64_TOC16_LO_DS = IfGroupMatches GotLoad
ppc64_scope_in phase name = NotRelaxable

abbrev pub x86_64_scope_in : Phase → X86_64Relocation → Scope
x86_64_scope_in PreLayout x86_64.R_X86_64_GOTPCREL = Independent
x86_64_scope_in PreLayout x86_64.R_X86_64_GOTPCRELX = Independent
x86_64_scope_in PreLayout x86_64.R_X86_64_REX_GOTPCRELX = Independent
x86_64_scope_in PreLayout x86_64.R_X86_64_CODE_4_GOTPCRELX = Independent
x86_64_scope_in PreLayout x86_64.R_X86_64_CODE_6_GOTPCRELX = Independent
x86_64_scope_in PreLayout x86_64.R_X86_64_GOTTPOFF = Independent
x86_64_scope_in PreLayout x86_64.R_X86_64_CODE_4_GOTTPOFF = Independent
x86_64_scope_in PreLayout x86_64.R_X86_64_CODE_6_GOTTPOFF = Independent
x86_64_scope_in PreLayout x86_64.R_X86_64_TLSGD = Independent
x86_64_scope_in PreLayout x86_64.R_X86_64_TLSLD = Grouped LocalDynamic
x86_64_scope_in PreLayout x86_64.R_X86_64_DTPOFF32 = Grouped LocalDynamic
x86_64_scope_in PreLayout x86_64.R_X86_64_DTPOFF64 = Grouped LocalDynamic
x86_64_scope_in PreLayout x86_64.R_X86_64_GOTPC32_TLSDESC = Grouped Descriptor
x86_64_scope_in PreLayout x86_64.R_X86_64_CODE_4_GOTPC32_TLSDESC = Grouped Descriptor
-- No `lea` has n bytes before its field. One that claims to keeps the descriptors of its
-- symbol.
x86_64_scope_in PreLayout x86_64.R_X86_64_CODE_5_GOTPC32_TLSDESC = Grouped Descriptor
x86_64_scope_in PreLayout x86_64.R_X86_64_CODE_6_GOTPC32_TLSDESC = Grouped Descriptor
x86_64_scope_in PreLayout x86_64.R_X86_64_TLSDESC_CALL = Grouped Descriptor
x86_64_scope_in phase name = NotRelaxable

-- that of an `r_type`
abbrev pub IsScopeIn : Architecture → Phase → ℕ → Scope → Type 0
IsScopeIn AArch64 phase = IsNamedValue aarch64_name (aarch64_scope_in phase)
IsScopeIn RiscV phase = IsNamedValue riscv_name (riscv_scope_in phase)
IsScopeIn LoongArch64 phase = IsNamedValue loongarch_name (loongarch_scope_in phase)
IsScopeIn Ppc64 phase = IsNamedValue ppc64_name (ppc64_scope_in phase)
IsScopeIn X86_64 phase = IsNamedValue x86_64_name (x86_64_scope_in phase)

-- a phase has rewrites
abbrev pub has_rewrites : Architecture → Phase → Bool
has_rewrites AArch64 TlsLocalExec = false
has_rewrites AArch64 phase = true
has_rewrites RiscV TlsLocalExec = true
has_rewrites RiscV GotToPcRel = true
has_rewrites RiscV phase = false
has_rewrites LoongArch64 PreLayout = true
has_rewrites LoongArch64 TlsLocalExec = true
has_rewrites LoongArch64 phase = false
has_rewrites Ppc64 GotToPcRel = false
has_rewrites Ppc64 phase = true
has_rewrites X86_64 PreLayout = true
has_rewrites X86_64 phase = false

-- in one without them no relocation has a scope
abbrev pub IsNotRelaxableUnless : Architecture → Phase → Bool → Type 0
IsNotRelaxableUnless architecture phase true = Unit {0}
IsNotRelaxableUnless architecture phase false =
    (r_type : ℕ) (scope : Scope) → IsScopeIn architecture phase r_type scope → scope ≡ NotRelaxable

abbrev pub IsScope : Architecture → ℕ → Scope → Type 0
IsScope architecture = IsScopeIn architecture PreLayout

-- an `r_type` is of a group's kind
abbrev pub IsInGroupIn : Architecture → Phase → ℕ → Group → Type 0
IsInGroupIn architecture phase r_type group = IsScopeIn architecture phase r_type (Grouped group)

-- the index of the symbol whose groups it is one of: 0 of what is one group in the whole object
abbrev pub symbol_of_group : Group → ℕ → ℕ
symbol_of_group LocalDynamic symbol = 0
symbol_of_group group symbol = symbol

-- ---- groups that stay

abbrev pub keeps : Group → UnrelaxableGroups → Bool
keeps InitialExec kept = kept.initial_exec
keeps GeneralDynamic kept = kept.general_dynamic
keeps LocalDynamic kept = kept.local_dynamic
keeps Descriptor kept = kept.descriptor
keeps GotLoad kept = kept.got_load

abbrev pub with_kept : Group → UnrelaxableGroups → UnrelaxableGroups
with_kept InitialExec kept = record kept { initial_exec = true }
with_kept GeneralDynamic kept = record kept { general_dynamic = true }
with_kept LocalDynamic kept = record kept { local_dynamic = true }
with_kept Descriptor kept = record kept { descriptor = true }
with_kept GotLoad kept = record kept { got_load = true }

abbrev pub kept_by : Group → Option UnrelaxableGroups → Bool
kept_by group None = true
kept_by group (Some kept) = keeps group kept

-- by a table; all stay where it has no entry
abbrev pub stays_at : List UnrelaxableGroups → Group → ℕ → Bool
stays_at table group symbol = kept_by group (slice_get table symbol)

-- of a symbol, or all of its kind in the object
abbrev pub group_stays : List UnrelaxableGroups → Group → ℕ → Bool
group_stays table group symbol =
    stays_at table group 0 || stays_at table group (symbol_of_group group symbol)
