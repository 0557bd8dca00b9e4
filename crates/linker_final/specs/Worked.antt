-- Programs that the calls link: words of which every premise of the laws of runs holds.
use Rattle.std.specs.Prelude.{◌≡◌, ℕ, zero, suc, ◌+◌, ◌/◌, List, [], ◌∷◌, length, false, replicate}
use Rattle.linker_final.specs.Imports.{Addresses, Architecture, AreMoved, AreWritten, Decision}
use Rattle.linker_final.specs.Imports.{IsPackedRun, IsRelaxation, Item, Kinds, RelaxContext, RiscV}
use Rattle.linker_final.specs.Imports.{RiscV64, State, Symbol, UnrelaxableGroups, deletions_of_run}
use Rattle.linker_final.specs.Imports.{half, put, same, section_of, with_register}
use Rattle.linker_final.specs.Final.{AreCalled, AreLinked, HasRewritten, IsPhase, Linked, Rewriting}
use Rattle.linker_final.specs.Final.{RewritingPhase, Section, rewriting_phase}
use Rattle.linker_rewriting.specs.GlobalPointer.{AreBased, AreRelocationsBy, section_based}
use Rattle.linker_rewriting.specs.declared.phases.Phase.{Phase}
use Rattle.linker_rewriting.specs.declared.phases.Phase.TheVariants.{PreLayout}
use Rattle.linker_final.specs.AArch64Section as aarch64
use Rattle.linker_laws.specs.AArch64Groups as aarch64_groups
use Rattle.linker_laws.specs.AArch64GroupsWorked as aarch64_worked

-- n bytes of code from an address on
abbrev pub code_at : (ℕ → ℕ) → ℕ → ℕ → List ℕ
code_at code address zero = []
code_at code address (suc n) = code address ∷ code_at code (address + 1) n

-- ---- two phases

-- no group of a symbol stays
abbrev pub none_stays : UnrelaxableGroups
none_stays =
    record {
      initial_exec = false;
      general_dynamic = false;
      local_dynamic = false;
      descriptor = false;
      got_load = false;
    }

pub record IsPhaseOf (architecture : Architecture) (phase : Phase) (p : RewritingPhase) : Type 0
  where
    pub architecture_is : p.context.architecture ≡ architecture
    pub phase_is : p.context.phase ≡ phase
    pub kept_are : p.kept ≡ replicate 12 none_stays

-- The calls returned OK for an object's section, and left bytes.
pub record IsLinkedAs (architecture : Architecture) (phase : Phase) (addresses : Addresses)
    (symbols : List Symbol) (relocations section final : List ℕ) : Type 0 where
  pub first : RewritingPhase
  pub second : RewritingPhase
  pub relocations_last : List ℕ
  pub last : List ℕ
  pub linked : AreLinked (first ∷ second ∷ []) relocations section relocations_last last addresses
      symbols final
  pub first_is : IsPhaseOf architecture PreLayout first
  pub second_is : IsPhaseOf architecture phase second

-- All calls returned OK for an object's bytes and relocations. Old's bytes are the object's with
-- the values of its relocations, and new's those that the calls left.
pub record IsOfCalls (r : Rewriting) (object relocations : List ℕ) (old new : ℕ → ℕ) : Type 0 where
  pub section : Section
  pub is_object : section.section ≡ object
  pub are_relocations : section.relocations ≡ relocations
  pub called : AreCalled r section
  pub old_is : AreWritten r.architecture section.addresses section.relocations section.symbols
      section.section (code_at old section.addresses.section (length section.section))
  pub new_is : section.final ≡ code_at new section.addresses.section (length section.final)

-- ---- groups of AArch64

-- Old comes to instructions that a phase rewrote together, and the premises of their law hold.
abbrev pub IsGroupOf : (r : Rewriting) → Section → r.Code → ℕ → Kinds → State → Kinds → State
    → Type 0
IsGroupOf r x c n k s k' s' =
    (l : Linked) × IsPhase x l × (g : r.Rewrites l) × r.Begins x l c k s g n k' s'

abbrev pub halves : aarch64_groups.Code
halves = aarch64_worked.code aarch64_worked.old_halves aarch64_worked.new_halves

-- The load, the high half, and after the copy of its register the low half are groups.
abbrev pub HasGroups : Section → Type 0
HasGroups x =
    let k1 = with_register 0 same aarch64_worked.known
    in let k2 = with_register 1 (half 0) k1
    in let k3 = with_register 2 (half 0) k2
    in let s0 = aarch64_worked.starting 0x420120
    in let s1 = put 0 0x420120 0x400008 s0
    in let s2 = put 1 0x411000 0x40000c s1
    in let s3 = put 2 0x411000 0x400010 s2
    in IsGroupOf aarch64.rewriting x halves 2 aarch64_worked.known s0 k1 s1
    × IsGroupOf aarch64.rewriting x halves 1 k1 s1 k2 s2
    × IsGroupOf aarch64.rewriting x halves 1 k3 s3 (with_register 2 same k3)
    (put 2 0x12344 0x400014 s3)

-- ---- RISC-V, whose code gets shorter

-- A phase succeeded for relocations and bytes, and left others.
pub record IsRewrittenAs (architecture : Architecture)
    (relocations section relocations_after rewritten : List ℕ) : Type 0 where
  pub context : RelaxContext
  pub kept : List UnrelaxableGroups
  pub decisions : List Decision
  pub rewritten_by : HasRewritten
      (rewriting_phase context kept relocations section decisions relocations_after rewritten)
  pub of_one : context.architecture ≡ architecture

-- The calls returned OK, in turn: a phase rewrote the object's bytes, the global pointer changed
-- relocations, the section was packed with what `relax` chose for its items, bases were written and
-- then values, with the addresses of shorter code. Old's bytes are the object's with the values of
-- its relocations, and new's those that the calls left.
pub record IsOfShorterCalls (section relocations : List ℕ) (old new : ℕ → ℕ) : Type 0 where
  pub addresses : Addresses
  pub symbols : List Symbol
  pub old_is : AreWritten RiscV addresses relocations symbols section
      (code_at old addresses.section (length section))
  -- the phase
  pub relocations_after : List ℕ
  pub rewritten : List ℕ
  pub is_rewritten : IsRewrittenAs RiscV relocations section relocations_after rewritten
  -- the global pointer
  pub decisions : List Decision
  pub without_base : List ℕ
  pub by_pointer : AreRelocationsBy decisions relocations_after without_base
      (length relocations_after / 24)
  -- shorter code
  pub items : List Item
  pub shapes : List ℕ
  pub kept : List ℕ
  pub freed : List ℕ
  pub relaxed : IsRelaxation addresses.section items shapes kept freed
  pub moved : List ℕ
  pub packed : List ℕ
  pub is_packed : IsPackedRun RiscV64
      (section_of rewritten 0 (deletions_of_run items kept) addresses.section) items packed
  pub are_moved : AreMoved RiscV64
      (section_of rewritten 0 (deletions_of_run items kept) addresses.section) items without_base
      moved
  -- bases and values
  pub symbols_then : List Symbol
  pub gp : ℕ
  pub based : List ℕ
  pub are_based : AreBased addresses symbols_then gp moved based (length moved / 24)
  pub final : List ℕ
  pub written : AreWritten RiscV addresses based symbols_then
      (section_based addresses symbols_then gp moved packed (length moved / 24)) final
  pub new_is : final ≡ code_at new addresses.section (length final)
