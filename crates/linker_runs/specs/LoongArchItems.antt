-- The items that LoongArch's relocations make (LoongArch ELF psABI, "Relocations", `R_LARCH_ALIGN`,
-- `R_LARCH_RELAX`, and linker relaxation).
use Rattle.linker_runs.specs.Imports.{Aligned, Alignment, Bool, IsNextPowerOfTwo, Item, List, None}
use Rattle.linker_runs.specs.Imports.{Option, Relocation, Site, Some, false, field, length}
use Rattle.linker_runs.specs.Imports.{loongarch_name, nat_lt, pos, r_type_of, true, ℕ}
use Rattle.std.specs.Prelude.{if◌then◌else◌, ◌≡◌, ◌+◌, ◌/◌, ◌^◌, ◌<◌, ◌≤◌, ◌⊎◌, ◌&&◌, ◌%◌}
use Rattle.linker_elf.specs.declared.loongarch64.relocations.LoongArch64Relocation.{LoongArch64Relocation}
use Rattle.linker_elf.specs.declared.loongarch64.relocations.LoongArch64Relocation.TheVariants as r
use Rattle.linker_utils.specs.LoongArchRewrites.{IsAddi, IsCall, IsPair}
use Rattle.linker_runs.specs.declared.shapes.loongarch64.TheConstants.{CALL36, PCALA}
use Rattle.linker_runs.specs.declared.relaxation.Site.{Site as site}
use Rattle.linker_runs.specs.Relocations.{relocation_at, IsMarked}

-- the relocation has the name
abbrev pub HasLoongArchName : LoongArch64Relocation → Relocation → Type 0
HasLoongArchName name relocation = relocation.r_type ≡ r_type_of (loongarch_name name)

-- ---- alignments

-- How many bytes of nops an `R_LARCH_ALIGN` with an addend stands for, and what they align to. With
-- a symbol the addend's lowest 8 bits are the exponent of two of what they align to, and the nops
-- are one instruction fewer. Without one the addend is the nops, and they align to the next power
-- of two above it.
abbrev pub AreStated : Bool → ℕ → ℕ → ℕ → Type 0
AreStated true addend nops power = (power ≡ 2 ^ field addend 0 8) × (nops + 4 ≡ power)
AreStated false addend nops power = (nops ≡ addend) × IsNextPowerOfTwo (nops + 1) power

-- How many bytes may be skipped at most: with a symbol the addend's other bits, if they aren't 0.
-- As many as all nops, or more, are no limit, since all instructions have four bytes.
abbrev pub stated_limit : Bool → ℕ → ℕ → Option ℕ
stated_limit has_symbol addend nops =
    if has_symbol && nat_lt 0 (addend / 2 ^ 8) && nat_lt (addend / 2 ^ 8) nops
    then Some (addend / 2 ^ 8)
    else None

-- The nops of an `R_LARCH_ALIGN` are instructions, and lie in the section.
pub record AreLoongArchNops (section : List ℕ) (relocation : Relocation) (addend nops power : ℕ)
    : Type 0 where
  pub addend_is : relocation.addend ≡ pos addend
  pub stated : AreStated relocation.has_symbol addend nops power
  pub whole : nops % 4 ≡ 0
  pub inside : relocation.offset + nops ≤ length section
  pub small : nops < 2 ^ 32

pub record IsLoongArchAlignment (section : List ℕ) (base : ℕ) (relocation : Relocation)
    (alignment : Alignment) : Type 0 where
  pub name : HasLoongArchName r.R_LARCH_ALIGN relocation
  pub addend : ℕ
  pub place : alignment.offset ≡ base + relocation.offset
  pub some : 0 < alignment.nops
  pub nops : AreLoongArchNops section relocation addend alignment.nops alignment.alignment
  pub limit : alignment.max_skip ≡ stated_limit relocation.has_symbol addend alignment.nops

-- ---- sites

-- an instruction with the relocation may be relaxed
abbrev pub IsRelaxable : LoongArch64Relocation → List Relocation → ℕ → Type 0
IsRelaxable name relocations i = HasLoongArchName name (relocation_at relocations i)
    × IsMarked (r_type_of (loongarch_name r.R_LARCH_RELAX)) relocations i

-- `pcaddu18i`, and a `jirl` from its register that links `ra` or none
pub record IsCall36 (section : List ℕ) (relocations : List Relocation) (i : ℕ) : Type 0 where
  pub relaxable : IsRelaxable r.R_LARCH_CALL36 relocations i
  pub call : IsCall 1 section (relocation_at relocations i).offset
      ⊎ IsCall 0 section (relocation_at relocations i).offset

-- `pcalau12i` and `addi.d` of one register, next to each other and for one target, whose
-- relocations are next to each other too
pub record IsPcala (section : List ℕ) (relocations : List Relocation) (i : ℕ) : Type 0 where
  pub high : IsRelaxable r.R_LARCH_PCALA_HI20 relocations i
  pub low : IsRelaxable r.R_LARCH_PCALA_LO12 relocations (i + 2)
  pub next : (relocation_at relocations (i + 2)).offset ≡ (relocation_at relocations i).offset + 4
  pub same_target : (relocation_at relocations (i + 2)).target
      ≡ (relocation_at relocations i).target
  pub pair : IsPair IsAddi section (relocation_at relocations i).offset

-- the site of eight bytes at a relocation
pub record IsSiteOf (base : ℕ) (relocation : Relocation) (here : site) : Type 0 where
  pub place : here.offset ≡ base + relocation.offset
  pub len : here.len ≡ 8
  pub target : relocation.target ≡ Some here.target

abbrev pub IsLoongArchSite : List ℕ → ℕ → List Relocation → ℕ → site → Type 0
IsLoongArchSite section base relocations i here = IsSiteOf base (relocation_at relocations i) here
    × ((IsCall36 section relocations i × (here.shapes ≡ CALL36))
    ⊎ (IsPcala section relocations i × (here.shapes ≡ PCALA)))

-- ---- what a relocation makes

-- the item that the relocation at an index makes, where the section begins at an input offset
abbrev pub LoongArchMakes : List ℕ → ℕ → List Relocation → ℕ → Item → Type 0
LoongArchMakes section base relocations i (Site here) =
    IsLoongArchSite section base relocations i here
LoongArchMakes section base relocations i (Aligned alignment) =
    IsLoongArchAlignment section base (relocation_at relocations i) alignment

-- A relocation is in the section, the eight bytes of a call are, and an `R_LARCH_ALIGN` has nops.
pub record IsLoongArchFormed (section : List ℕ) (relocation : Relocation) : Type 0 where
  pub inside : relocation.offset ≤ length section
  pub call : HasLoongArchName r.R_LARCH_CALL36 relocation
      → relocation.offset + 8 ≤ length section
  pub alignment : HasLoongArchName r.R_LARCH_ALIGN relocation
      → (addend : ℕ) × (nops : ℕ) × (power : ℕ)
      × AreLoongArchNops section relocation addend nops power
