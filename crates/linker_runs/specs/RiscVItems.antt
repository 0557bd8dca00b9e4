-- The items that RISC-V's relocations make (RISC-V ELF psABI, "Linker Relaxation": "Alignment
-- Relaxation", "Function Call Relaxation" and "Compressed Tail Call Relaxation").
use Rattle.linker_runs.specs.Imports.{Aligned, Alignment, Bool, IsNextPowerOfTwo, Item, List}
use Rattle.linker_runs.specs.Imports.{Machine, None, OfJalr, Relocation, Shapes, Site, Some}
use Rattle.linker_runs.specs.Imports.{field, length, pos, r_type_of, riscv_name, true, ℕ}
use Rattle.linker_riscv64.specs.RiscVCalls.{IsCallPair, link_register, word_at}
use Rattle.std.specs.Prelude.{◌≡◌, ◌≢◌, ◌+◌, ◌%◌, ◌^◌, ◌<◌, ◌≤◌, ◌⊎◌, ◌-◌}
use Rattle.linker_elf.specs.declared.riscv64.relocations.RiscVRelocation.{RiscVRelocation}
use Rattle.linker_elf.specs.declared.riscv64.relocations.RiscVRelocation.TheVariants as r
use Rattle.linker_runs.specs.declared.shapes.riscv64.TheConstants.{CALL, TAIL_C}
use Rattle.linker_runs.specs.declared.relaxation.Site.{Site as site}
use Rattle.linker_runs.specs.Relocations.{relocation_at, IsMarked}
use Rattle.linker_runs.specs.RiscV32.{links_short}

-- the relocation has the name
abbrev pub HasRiscVName : RiscVRelocation → Relocation → Type 0
HasRiscVName name relocation = relocation.r_type ≡ r_type_of (riscv_name name)

-- it is that of a call
abbrev pub IsOfCall : Relocation → Type 0
IsOfCall relocation =
    HasRiscVName r.R_RISCV_CALL relocation ⊎ HasRiscVName r.R_RISCV_CALL_PLT relocation

-- ---- alignments

-- N bytes of nops are those of an `R_RISCV_ALIGN`: its addend. They are whole nops, of which
-- the C extension's have 2 bytes, and lie in the section.
pub record AreRiscVNops (section : List ℕ) (relocation : Relocation) (nops : ℕ) : Type 0 where
  pub addend : relocation.addend ≡ pos nops
  pub whole : nops % 2 ≡ 0
  pub inside : relocation.offset + nops ≤ length section
  pub small : nops < 2 ^ 32

-- An `R_RISCV_ALIGN` aligns what follows its nops to the next power of two above their count.
pub record IsRiscVAlignment (section : List ℕ) (base : ℕ) (relocation : Relocation)
    (alignment : Alignment) : Type 0 where
  pub name : HasRiscVName r.R_RISCV_ALIGN relocation
  pub place : alignment.offset ≡ base + relocation.offset
  pub some : 0 < alignment.nops
  pub nops : AreRiscVNops section relocation alignment.nops
  pub power : IsNextPowerOfTwo (alignment.nops + 1) alignment.alignment
  pub no_limit : alignment.max_skip ≡ None

-- an `R_RISCV_ALIGN` that has nops
abbrev pub Aligns : Relocation → Type 0
Aligns relocation = HasRiscVName r.R_RISCV_ALIGN relocation × (relocation.addend ≢ pos 0)

-- The next alignment after the relocation at an index, or the end of the relocations.
pub record IsNextAlignment (relocations : List Relocation) (i j : ℕ) : Type 0 where
  pub following : i < j
  pub within : j ≤ length relocations
  pub aligns : j < length relocations → Aligns (relocation_at relocations j)
  pub first : (k : ℕ) → i < k → k < j → ¬ Aligns (relocation_at relocations k)

-- The nops of an alignment are enough wherever w divides the address of the first one: w is the
-- least power of two that leaves no more to fill than there are nops.
pub record AreEnoughAt (nops w : ℕ) : Type 0 where
  pub power : ℕ
  pub aligned : IsNextPowerOfTwo (nops + 1) power
  pub least : IsNextPowerOfTwo (power - nops) w

-- The relocation at an index may free n bytes, and the next alignment has its nops wherever
-- it had them: w divides them.
abbrev pub MayFree : ℕ → List Relocation → ℕ → Type 0
MayFree freed relocations i = (j nops w : ℕ) → IsNextAlignment relocations i j
    → j < length relocations → (relocation_at relocations j).addend ≡ pos nops
    → AreEnoughAt nops w → freed % w ≡ 0

-- ---- calls

-- `auipc` of a register other than x0, which is always 0, and a `jalr` from that register
pub record IsCallAt (section : List ℕ) (o : ℕ) : Type 0 where
  pub pair : IsCallPair (word_at section o) (word_at section (o + 4))
  pub not_zero : field (word_at section o) 7 12 ≢ 0

-- a jump of two bytes links the register that the call at an offset links
abbrev pub has_short_jump : Machine → List ℕ → ℕ → Bool
has_short_jump machine section o = links_short machine (link_register OfJalr section o)

-- Only such a jump is short enough for two bytes. It needs the C extension and frees six bytes.
pub record MayBeShort (machine : Machine) (section : List ℕ) (relocations : List Relocation) (i : ℕ)
    : Type 0 where
  pub c_extension : (relocation_at relocations i).may_compress ≡ true
  pub links : has_short_jump machine section (relocation_at relocations i).offset ≡ true
  pub frees : MayFree 6 relocations i

-- what a call can become
abbrev pub IsShapesOf : Machine → List ℕ → List Relocation → ℕ → Shapes → Type 0
IsShapesOf machine section relocations i shapes =
    (MayBeShort machine section relocations i × (shapes ≡ TAIL_C))
    ⊎ (¬ MayBeShort machine section relocations i × (shapes ≡ CALL))

-- `jal` frees four bytes
pub record IsRiscVSite (machine : Machine) (section : List ℕ) (base : ℕ)
    (relocations : List Relocation) (i : ℕ) (call : site) : Type 0 where
  pub name : IsOfCall (relocation_at relocations i)
  pub marked : IsMarked (r_type_of (riscv_name r.R_RISCV_RELAX)) relocations i
  pub frees : MayFree 4 relocations i
  pub place : call.offset ≡ base + (relocation_at relocations i).offset
  pub is_call : IsCallAt section (relocation_at relocations i).offset
  pub len : call.len ≡ 8
  pub target : (relocation_at relocations i).target ≡ Some call.target
  pub shapes : IsShapesOf machine section relocations i call.shapes

-- ---- what a relocation makes

-- the item that the relocation at an index makes, where the section begins at an input offset
abbrev pub RiscVMakes : Machine → List ℕ → ℕ → List Relocation → ℕ → Item → Type 0
RiscVMakes machine section base relocations i (Site call) =
    IsRiscVSite machine section base relocations i call
RiscVMakes machine section base relocations i (Aligned alignment) =
    IsRiscVAlignment section base (relocation_at relocations i) alignment

-- A relocation is in the section, the eight bytes of a call are, and an `R_RISCV_ALIGN` has nops.
pub record IsRiscVFormed (section : List ℕ) (relocation : Relocation) : Type 0 where
  pub inside : relocation.offset ≤ length section
  pub call : IsOfCall relocation → relocation.offset + 8 ≤ length section
  pub alignment : HasRiscVName r.R_RISCV_ALIGN relocation
      → (nops : ℕ) × AreRiscVNops section relocation nops
