-- RISC-V: what the rewrites of a section are, and where they begin in a run of old: old has the
-- object's instructions, with the values of their relocations, and new what became of them (RISC-V
-- ELF psABI, "PC-Relative Symbol Addresses", "Local-Exec TLS Relaxation", "TLS Descriptors -> Local
-- Exec Relaxation").
use Rattle.linker_final.specs.Imports.{Action, Addresses, Agree, AreBefore, AreDeleted, CallBecomes}
use Rattle.linker_final.specs.Imports.{Choice, Decision, Group, Grouped, IsLeftOut, IsLoadFromGot}
use Rattle.linker_final.specs.Imports.{IsLow12, IsLowOffset, IsNameOf, Kept, Kinds, LoadBecomes}
use Rattle.linker_final.specs.Imports.{LowPartBy, NotRelaxable, OffsetBecomes, Operands, Rela}
use Rattle.linker_final.specs.Imports.{Relaxation, Relocated, Rewritten, RewrittenWithSymbol, RiscV}
use Rattle.linker_final.specs.Imports.{RiscV64, RiscVRelocation, RowInfo, Site as site, State}
use Rattle.linker_final.specs.Imports.{Symbol, UiType, ZeroLuiGoes, action_at, after_rewrite}
use Rattle.linker_final.specs.Imports.{decision_at, deleted_of, difference_64, even, low_row, moved}
use Rattle.linker_final.specs.Imports.{of_link, offset_at, offset_row, operands_with, pair_row, put}
use Rattle.linker_final.specs.Imports.{r_type_of, register, relocation_in, riscv_name, riscv_row}
use Rattle.linker_final.specs.Imports.{riscv_scope_in, same, seen, stores, stores_float, sum_64}
use Rattle.linker_final.specs.Imports.{upper, upper_from, uses, value_of, word_of}
use Rattle.linker_laws.specs.Schemes.{AreAddresses, plt_address, symbol_address, thread_offset}
use Rattle.linker_riscv64.specs.RiscVFields.{rd_of, rs1_of}
use Rattle.std.specs.Prelude.{IsSomeAnd, List, Option, Some, drop, length, slice_get, take, true, ℕ}
use Rattle.std.specs.Prelude.{◌≡◌, ◌≢◌, ◌+◌, ◌*◌, ◌<◌, ◌^◌, ◌≤◌, ◌⊎◌, ◌-◌, ◌%◌, ◌==◌, if◌then◌else◌}
use Rattle.linker_laws.specs.RiscVGroups.{Code, Has, Stands, SumGoes, link}
use Rattle.linker_base.specs.Rewrite.{rewritten}
use Rattle.linker_elf.specs.Originals.{HasWord}
use Rattle.linker_elf.specs.declared.elf.RelocationKind.TheVariants.{PltRelative}
use Rattle.linker_final.specs.Final.{AreRewritten, IsBesideAll, IsLinked, IsRewrittenByNoOther}
use Rattle.linker_final.specs.Final.{IsWrittenByNoOther, Linked, Rewriting, Section}
use Rattle.linker_final.specs.Final.{UntouchedInstruction, count, instruction_at, offset_of}
use Rattle.linker_final.specs.Packed.{IsBefore, IsKeptInstruction, IsPacked, IsRewrittenAndPacked}
use Rattle.linker_final.specs.Packed.{IsSiteOf, IsUnwritten, Packed, StayTogether, architecture_of}
use Rattle.linker_final.specs.Packed.{final_instruction, place_of, site_bytes, site_len}
use Rattle.linker_final.specs.Packed.{site_offset, site_place, site_target}
use Rattle.linker_rewriting.specs.GlobalPointer.{address_of, base_for, based_relocation}
use Rattle.linker_rewriting.specs.GlobalPointer.{is_low_word, low_r_type}
use Rattle.linker_rewriting.specs.RiscVPcrelGroups.{IsHighIn}
use Rattle.linker_rewriting.specs.declared.decisions.Subject.{Subject}
use Rattle.linker_rewriting.specs.declared.groups.Scope.{Scope}
use Rattle.linker_riscv64.specs.RiscVCalls.{word_at}
use Rattle.linker_runs.specs.RiscVItems.{IsCallAt}
use Rattle.linker_runs.specs.Sites.{operands_of}
use Rattle.linker_utils.specs.RiscVRewrites.{IsAddTp, IsAuipc, IsLui, deleted_from, lo12}
use Rattle.linker_utils.specs.RiscVRewrites.{rewrites_word, riscv_matches, tp, with_rs1}
use Rattle.linker_utils.specs.declared.riscv64.rewrites.RewriteKind.{RewriteKind}
use Rattle.linker_elf.specs.declared.riscv64.relocations.RiscVRelocation.TheVariants as names
use Rattle.linker_utils.specs.declared.riscv64.rewrites.RewriteKind.TheVariants as kinds
use Rattle.linker_utils.specs.declared.architecture.Relaxation.TheVariants as relaxations
use Rattle.linker_final.specs.Packed as shorter

-- the object's instruction of the relocation at an index
abbrev pub object : Linked → ℕ → List ℕ
object l i = instruction_at l.section (offset_of l i)

-- the relocation at an index has a name, and its instruction is rewritten
pub record IsRewrittenOf (l : Linked) (name : RiscVRelocation) (i : ℕ) : Type 0 where
  pub below : i < count l
  pub is_name : IsNameOf riscv_name (relocation_in l.relocations i).r_type name
  pub chosen : Choice Relaxation ℕ
  pub decided : decision_at l.decisions i ≡ Rewritten chosen

-- ---- loads of addresses from the GOT

-- The relocations at two indexes are those of an `auipc` and of the `ld` after it, and both are
-- rewritten to those of the distance.
pub record AreOfPair (l : Linked) (i j : ℕ) : Type 0 where
  pub first : IsRewrittenOf l names.R_RISCV_GOT_HI20 i
  pub second : IsRewrittenOf l names.R_RISCV_PCREL_LO12_I j
  pub next : (relocation_in l.relocations j).offset ≡ (relocation_in l.relocations i).offset + 4
  pub high_becomes : first.chosen.relocation ≡ r_type_of (riscv_name names.R_RISCV_PCREL_HI20)
  pub low_becomes : second.chosen.relocation ≡ r_type_of (riscv_name names.R_RISCV_PCREL_LO12_I)

-- ---- what is deleted before them

-- the four bytes of an instruction
abbrev pub IsDeleted : Linked → ℕ → Type 0
IsDeleted l i = deleted_of (decision_at l.decisions i) ≡ deleted_from 0 4

-- ---- TLS descriptors

-- The relocation at an index has a name, and is n bytes after the high part of a TLS descriptor or
-- of a load from the GOT, that at another index, which its symbol labels. It is rewritten by a
-- kind, and gets the symbol of the high part.
pub record IsOfDescriptor (l : Linked) (high : ℕ) (name : RiscVRelocation) (distance : ℕ)
    (kind : RewriteKind) (n : ℕ) : Type 0 where
  pub below : n < count l
  pub name_is : IsNameOf riscv_name (relocation_in l.relocations n).r_type name
  pub following : (relocation_in l.relocations n).offset
      ≡ (relocation_in l.relocations high).offset + distance
  pub labels : IsHighIn l.context l.relocations (relocation_in l.relocations n) (Some high)
  pub chosen : Choice Relaxation ℕ
  pub subject : Subject
  pub decided : decision_at l.decisions n ≡ RewrittenWithSymbol chosen subject
  pub kind_is : chosen.kind ≡ relaxations.RiscV kind

-- The object's sequence, whose high part is at an index, becomes some nops and m instructions.
abbrev pub OffsetIsAlike : Linked → ℕ → ℕ → (Operands → Type 0) → (Operands → Code → ℕ → Type 0)
    → Type 0
OffsetIsAlike l high m Said NewHas =
    let at = λ (n : ℕ). instruction_at l.section (offset_of l high + n) in
    OffsetBecomes m Said NewHas (object l high) (at 4) (at 8) (at 12)

-- The bytes of an instruction that became a nop of four bytes are one.
abbrev pub IsNop : List ℕ → List ℕ → Type 0
IsNop before nop =
    riscv_matches kinds.ReplaceWithLongNop before 0
    × (nop ≡ after_rewrite kinds.ReplaceWithLongNop before 0)

-- what a relocation becomes that gets a name, and the symbol and the addend of another
abbrev pub named_as : RiscVRelocation → Rela → Rela → Rela
named_as name r subject =
    record {
      offset = r.offset;
      r_type = r_type_of (riscv_name name);
      symbol = subject.symbol;
      addend = subject.addend;
    }

-- ---- loads of fixed addresses from the GOT

-- The relocation at an index is that of an `auipc`, which became a `lui`.
pub record IsLuiOfLoad (l : Linked) (high : ℕ) : Type 0 where
  pub of : IsRewrittenOf l names.R_RISCV_GOT_HI20 high
  pub open of use *
  pub kind_is : of.chosen.kind ≡ relaxations.RiscV kinds.AuipcToLui

-- The one at another index is that of the `ld` after it, which became an `addi` of the address.
pub record IsAddiOfLoad (l : Linked) (high low : ℕ) : Type 0 where
  pub rewritten : IsOfDescriptor l high names.R_RISCV_PCREL_LO12_I 4 kinds.LdToAddi low
  pub becomes : rewritten.chosen.relocation ≡ r_type_of (riscv_name names.R_RISCV_LO12_I)

-- The object's pair, of which something is known, becomes n instructions.
abbrev pub LoadIsAlike : Linked → ℕ → ℕ → (ℕ → ℕ → Type 0) → (Operands → Type 0)
    → (Operands → Code → Type 0) → Type 0
LoadIsAlike l high n IsKnown Said NewHas =
    let ld = instruction_at l.section (offset_of l high + 4) in
    IsKnown (word_of (object l high)) (word_of ld)
    → LoadBecomes n Said NewHas (object l high) ld

-- the `ld` is over the register of the `auipc`, which isn't x0
abbrev pub IsOver : ℕ → ℕ → Type 0
IsOver auipc ld = (rs1_of ld ≡ rd_of auipc) × (rd_of auipc ≢ 0)

-- ---- of what is left by the call that rewrites

-- In the context by which rewrites were chosen, the offset of a thread-local symbol is a number of
-- 12 bits, of every instruction of such an offset: the choice tested it.
abbrev pub OffsetsAreLowOf : RiscVRelocation → Type 0
OffsetsAreLowOf name =
    (l : Linked) → AreRewritten l → l.context.architecture ≡ RiscV
    → (i : ℕ) (chosen : Choice Relaxation ℕ) → i < count l
    → IsNameOf riscv_name (relocation_in l.relocations i).r_type name
    → decision_at l.decisions i ≡ Rewritten chosen
    → IsSomeAnd (riscv_row names.R_RISCV_TPREL_LO12_I) (λ row.
    let r = relocation_in l.relocations i in
    (symbol : Symbol) → slice_get l.context.values r.symbol ≡ Some symbol
    → symbol.is_thread_local ≡ true
    → IsLowOffset (operands_with RiscV l.context.addresses row symbol r 0))

abbrev pub OffsetsAreLow : Type 0
OffsetsAreLow =
    OffsetsAreLowOf names.R_RISCV_TPREL_HI20 × OffsetsAreLowOf names.R_RISCV_TPREL_LO12_I
    × OffsetsAreLowOf names.R_RISCV_TPREL_LO12_S

-- No instruction of a TLS descriptor becomes one of initial-exec, whose entry of the GOT is out of
-- reach when rewrites are chosen.
abbrev pub IsNotRewrittenBy : RiscVRelocation → RewriteKind → Type 0
IsNotRewrittenBy name kind =
    (l : Linked) → AreRewritten l → l.context.architecture ≡ RiscV
    → (i : ℕ) (chosen : Choice Relaxation ℕ) (subject : Subject) → i < count l
    → IsNameOf riscv_name (relocation_in l.relocations i).r_type name
    → decision_at l.decisions i ≡ RewrittenWithSymbol chosen subject
    → chosen.kind ≢ relaxations.RiscV kind

abbrev pub NoneIsInitialExec : Type 0
NoneIsInitialExec =
    IsNotRewrittenBy names.R_RISCV_TLSDESC_ADD_LO12 kinds.AddiToAuipc
    × IsNotRewrittenBy names.R_RISCV_TLSDESC_CALL kinds.CallToLd

-- ---- what is rewritten

-- what becomes of an instruction by the scope of its name
abbrev pub Changes : Scope → Decision → Type 0
Changes NotRelaxable decision = ⊥
Changes (Grouped group) decision = (chosen : Choice Relaxation ℕ) × (decision ≡ Rewritten chosen)
Changes scope decision = decision ≢ Kept

-- The instruction of the relocation at an index, which doesn't stay. It is of one of the names that
-- a phase rewrites (`riscv_scope_in`): by itself, or with all of its label.
pub record Rewrites (l : Linked) : Type 0 where
  pub i : ℕ
  pub below : i < count l
  pub name : RiscVRelocation
  pub is_name : IsNameOf riscv_name (relocation_in l.relocations i).r_type name
  pub changes : Changes (riscv_scope_in l.context.phase name) (decision_at l.decisions i)

-- Instructions that have a law, the first of which is at the relocation with an index: loads from
-- the GOT that became sums of the place and the distance, or fixed addresses by two instructions or
-- by one; sequences of TLS descriptors that became two instructions of local-exec, or one, after
-- some nops; low parts that are over the thread pointer, and what is deleted before them. The other
-- indexes are of their further relocations. Loads and descriptors that stand apart have no law.
pub data Lawful (l : Linked) (i : ℕ) : Type 0 where
  load : (j : ℕ) → AreOfPair l i j → IsRewrittenByNoOther l i (offset_of l i) → Lawful l i
  fixed : (j : ℕ) → IsLuiOfLoad l i → IsAddiOfLoad l i j → Lawful l i
  low_address : (j : ℕ) → IsDeleted l i
      → IsOfDescriptor l i names.R_RISCV_PCREL_LO12_I 4 kinds.LdToAddiZero j → Lawful l i
  descriptor : (add call : ℕ)
      → IsOfDescriptor l i names.R_RISCV_TLSDESC_ADD_LO12 8 kinds.AddiToLui add
      → IsOfDescriptor l i names.R_RISCV_TLSDESC_CALL 12 kinds.CallToAddi call → Lawful l i
  short_descriptor : (call : ℕ)
      → IsOfDescriptor l i names.R_RISCV_TLSDESC_CALL 12 kinds.CallToAddiZero call → Lawful l i
  low_part : IsRewrittenOf l names.R_RISCV_TPREL_LO12_I i → Lawful l i
  low_store : IsRewrittenOf l names.R_RISCV_TPREL_LO12_S i → Lawful l i
  high_part : IsRewrittenOf l names.R_RISCV_TPREL_HI20 i → Lawful l i
  sum : IsRewrittenOf l names.R_RISCV_TPREL_ADD i → Lawful l i

-- ---- what a rewrite leaves

-- of the relocation at an index: one with a name, and the symbol and the addend of that at another
abbrev pub IsNamedAs : Linked → ℕ → RiscVRelocation → ℕ → Type 0
IsNamedAs l i name subject =
    relocation_in l.relocations_after i
    ≡ named_as name (relocation_in l.relocations i) (relocation_in l.relocations subject)

abbrev pub Leaves : (l : Linked) (i : ℕ) → Lawful l i → Type 0
Leaves l i (load j of alone) =
    IsNamedAs l i names.R_RISCV_PCREL_HI20 i × IsNamedAs l j names.R_RISCV_PCREL_LO12_I j
Leaves l i (fixed j high low) =
    IsNamedAs l i names.R_RISCV_HI20 i × IsNamedAs l j names.R_RISCV_LO12_I i
Leaves l i (low_address j high low) = IsNamedAs l j names.R_RISCV_LO12_I i
Leaves l i (descriptor add call of_add of_call) =
    IsNamedAs l add names.R_RISCV_TPREL_HI20 i × IsNamedAs l call names.R_RISCV_TPREL_LO12_I i
Leaves l i (short_descriptor call of) = IsNamedAs l call names.R_RISCV_TPREL_LO12_I i
Leaves l i (low_part of) = IsNamedAs l i names.R_RISCV_TPREL_LO12_I i
Leaves l i (low_store of) = IsNamedAs l i names.R_RISCV_TPREL_LO12_S i
Leaves l i (high_part of) = IsDeleted l i
Leaves l i (sum of) = IsDeleted l i

abbrev pub RelocationsAreLeft : Type 0
RelocationsAreLeft =
    (l : Linked) → AreRewritten l → l.context.architecture ≡ RiscV → (i : ℕ) (g : Lawful l i)
    → Leaves l i g

-- ---- what new has

-- New has what became of them with the values of their relocations, wherever that is. Or it has the
-- section's final bytes, or those of the section once it is packed.
pub data New (l : Linked) : Type 0 where
  anywhere : New l
  final : IsLinked l → New l
  packed : (p : Packed) → IsRewrittenAndPacked l p → architecture_of p.machine ≡ RiscV → New l

-- At an address is what the rewrite left of the instruction of the relocation at an index, with the
-- value of operands by a row. Final bytes are that, if later phases leave it alone, packing keeps
-- it, and the relocation is said to have that value. This is said of what values are made of.
abbrev pub HasPart : (l : Linked) → New l → Option RowInfo → ℕ
    → (Addresses → List Symbol → List ℕ → Type 0) → Operands → (ℕ → ℕ) → ℕ → Type 0
HasPart l anywhere row n IsSaid y code at =
    Has 4 code at row y (instruction_at l.rewritten (offset_of l n))
HasPart l (final linked) row n IsSaid y code at =
    UntouchedInstruction l n × IsSaid l.addresses l.symbols l.relocations_last
    × Stands 4 code at (instruction_at l.final (offset_of l n))
HasPart l (packed p joined riscv) row n IsSaid y code at =
    IsKeptInstruction p n × UntouchedInstruction l n
    × IsSaid p.addresses p.symbols p.relocations_after
    × Stands 4 code at (final_instruction p (offset_of l n))

-- The relocation has the row of a name, and the value of operands is that of its own symbol.
abbrev pub HasValue : RiscVRelocation → Option RowInfo → ℕ → Operands → Addresses
    → List Symbol → List ℕ → Type 0
HasValue name row n y addresses symbols relocations =
    let r = relocation_in relocations n in
    (symbol : Symbol) × (slice_get symbols r.symbol ≡ Some symbol) × (row ≡ riscv_row name)
    × IsSomeAnd row (λ row.
    value_of row y ≡ value_of row (operands_with RiscV addresses row symbol r 0))

abbrev pub HasOwn : (l : Linked) → New l → RiscVRelocation → Option RowInfo → ℕ
    → Operands → (ℕ → ℕ) → ℕ → Type 0
HasOwn l new name row n y = HasPart l new row n (HasValue name row n y) y

abbrev pub HasNamed : (l : Linked) → New l → RiscVRelocation → ℕ → Operands → (ℕ → ℕ) → ℕ → Type 0
HasNamed l new name = HasOwn l new name (riscv_row name)

-- Its symbol labels the relocation at another index, whose value it has.
abbrev pub HasLow : (l : Linked) → New l → ℕ → ℕ → Operands → (ℕ → ℕ) → ℕ → Type 0
HasLow l new i j =
    HasPart l new (riscv_row names.R_RISCV_PCREL_LO12_I) j (λ addresses symbols relocations.
    (label : Symbol) × (slice_get symbols (relocation_in relocations j).symbol ≡ Some label)
    × (difference_64 label.address addresses.section ≡ (relocation_in relocations i).offset))

-- ---- their laws

-- of an instruction that adds the low part of an offset to a register with the thread pointer's
-- number: a store has the relocation of stores
abbrev pub low_law : RiscVRelocation → (l : Linked) → ℕ → New l → Action → Type 0
low_law name l i new action =
    LowPartBy offset_row thread_offset (λ s. s.registers tp) (λ k. k.registers tp ≡ same)
    (λ y c. HasOwn l new name (offset_row action) i y c.new y.place)
    (object l i) action

abbrev pub law : (l : Linked) (i : ℕ) → Lawful l i → New l → Type 0
law l i (load j of alone) new =
    LoadIsAlike l i 2 IsOver AreAddresses (λ y c.
    HasNamed l new names.R_RISCV_PCREL_HI20 i y c.new y.place
    × HasLow l new i j y c.new (sum_64 y.place 4))
law l i (fixed j high low) new =
    LoadIsAlike l i 2 IsLoadFromGot AreAddresses (λ y c.
    HasNamed l new names.R_RISCV_HI20 i y c.new y.place
    × HasNamed l new names.R_RISCV_LO12_I j y c.new (sum_64 y.place 4))
law l i (low_address j high low) new =
    LoadIsAlike l i 1 IsLoadFromGot IsLow12 (λ y c.
    HasNamed l new names.R_RISCV_LO12_I j y c.new y.place)
law l i (descriptor add call of_add of_call) new =
    OffsetIsAlike l i 2 AreAddresses (λ y c at.
    HasNamed l new names.R_RISCV_TPREL_HI20 add y c.new at
    × HasNamed l new names.R_RISCV_TPREL_LO12_I call y c.new (sum_64 at 4))
law l i (short_descriptor call of) new =
    OffsetIsAlike l i 1 IsLowOffset (λ y c at.
    HasNamed l new names.R_RISCV_TPREL_LO12_I call y c.new at)
law l i (low_part of) new =
    IsSomeAnd (action_at l.section (offset_of l i)) (low_law names.R_RISCV_TPREL_LO12_I l i new)
law l i (low_store of) new =
    IsSomeAnd (action_at l.section (offset_of l i)) (low_law names.R_RISCV_TPREL_LO12_S l i new)
law l i (high_part of) new =
    ZeroLuiGoes names.R_RISCV_TPREL_HI20 IsLowOffset (λ c. AreDeleted c 4) (object l i)
law l i (sum of) new = SumGoes (λ c. AreDeleted c 4) (object l i)

-- ---- nops

-- The bytes of an instruction that became a nop of four bytes are one. No other relocation has a
-- field in the final ones.
abbrev pub BecomesNop : (l : Linked) → New l → ℕ → Type 0
BecomesNop l anywhere i =
    IsNop (object l i) (instruction_at l.rewritten (offset_of l i))
BecomesNop l (final linked) i =
    UntouchedInstruction l i → IsWrittenByNoOther l i (offset_of l i)
    → IsNop (object l i) (instruction_at l.final (offset_of l i))
BecomesNop l (packed p joined riscv) i =
    UntouchedInstruction l i → StayTogether p (offset_of l i) 4
    → IsUnwritten p (place_of p (offset_of l i)) 4
    → IsNop (object l i) (final_instruction p (offset_of l i))

-- of every instruction of a descriptor that became one
abbrev pub NopsOf : RiscVRelocation → Type 0
NopsOf name =
    (l : Linked) → AreRewritten l → l.context.architecture ≡ RiscV → (new : New l)
    (i : ℕ) (chosen : Choice Relaxation ℕ) (subject : Subject) → i < count l
    → IsNameOf riscv_name (relocation_in l.relocations i).r_type name
    → decision_at l.decisions i ≡ RewrittenWithSymbol chosen subject
    → chosen.kind ≡ relaxations.RiscV kinds.ReplaceWithLongNop → BecomesNop l new i

abbrev pub Nops : Type 0
Nops =
    NopsOf names.R_RISCV_TLSDESC_HI20 × NopsOf names.R_RISCV_TLSDESC_LOAD_LO12
    × NopsOf names.R_RISCV_TLSDESC_ADD_LO12

-- ---- where old comes to it

-- Old comes to the first of instructions that have a law, and new has what became of them. What the
-- law requires holds, as that old has the object's, with the values of their relocations. So by it
-- new executes n, and they leave kinds and a state.
pub record Begins (x : Section) (l : Linked) (c : Code) (k : Kinds) (s : State) (g : Rewrites l)
    (n : ℕ) (k' : Kinds) (s' : State) : Type 0 where
  pub lawful : Lawful l g.i
  pub new : New l
  pub by_law : law l g.i lawful new → Group (of_link (link c)) n k s k' s'

-- The calls succeeded, whatever becomes of the section after the phases.
abbrev pub rewriting : Rewriting
rewriting =
    record {
      architecture = RiscV;
      Code = Code;
      link = link;
      Ensured = AreRewritten;
      Stays = IsBesideAll;
      Rewrites = Rewrites;
      span = λ l g. (offset_of l g.i, offset_of l g.i + 4);
      Begins = Begins;
    }

-- ---- low parts over x3 or x0, and their high parts (psABI, "Global-pointer Relaxation")

-- A register has what the high part of an address leaves: with the low part of its value it is the
-- address.
abbrev pub HasHighPart : State → ℕ → ℕ → ℕ → Type 0
HasHighPart s r value address = moved (register (seen s) r) (lo12 value) ≡ address

-- the relocation of a low part whose high part is an `auipc`: stores have their own
abbrev pub labelled_row : Action → Option RowInfo
labelled_row (stores f) = riscv_row names.R_RISCV_PCREL_LO12_S
labelled_row (stores_float f) = riscv_row names.R_RISCV_PCREL_LO12_S
labelled_row action = riscv_row names.R_RISCV_PCREL_LO12_I

-- its value: S + A, less the place of the `auipc`
abbrev pub distance : Operands → ℕ
distance x = difference_64 (symbol_address x) x.place

-- the section with another base register in the instruction at an offset
abbrev pub after_base : ℕ → List ℕ → ℕ → List ℕ
after_base register section o = rewritten (Some (rewrites_word (with_rs1 register))) section o

-- A low part is a group. Old's base has what the high part leaves, and its relocation has a row and
-- a number as its value. New's base has its address, and the value is the distance of S + A from
-- it. What the instruction does with S + A keeps agreement.
-- This holds of every instruction that `rewrite_global_pointer` takes for one, of a `lui` or of an
-- `auipc`.
abbrev pub PartsFromBase : (Action → Option RowInfo) → (Operands → ℕ) → Type 0
PartsFromBase row number =
    (section : List ℕ) (o gp : ℕ) → gp < 2 ^ 64 → o + 4 ≤ length section
    → let word = word_at section o in
    is_low_word word ≡ true
    → IsSomeAnd (action_at section o) (λ action.
    (c : Code) (x y : Operands) (base : ℕ × ℕ) (k k' : Kinds) (s : State)
    → base_for gp (symbol_address x) ≡ Some base
    → symbol_address y ≡ difference_64 (symbol_address x) (base.1)
    → AreBefore c 4 4 (record x { place = s.pc }) y s
    → HasHighPart s (rs1_of word) (number x) (symbol_address x)
    → ((t : State) → Agree (link c) k s t → register (seen t) (base.0) ≡ base.1)
    → Has 4 c.old s.pc (row action) x (drop o section)
    → Has 4 c.new y.place (low_row action) y (drop o (after_base (base.0) section o))
    → let after = uses action word (symbol_address x) in
    ((t : State) → Agree (link c) k s t → Agree (link c) k' (after s) (after t))
    → Group (of_link (link c)) 1 k s k' (after s))

abbrev pub LowPartsFromBase : Type 0
LowPartsFromBase = PartsFromBase low_row symbol_address × PartsFromBase labelled_row distance

-- The relocation that `finish_gp_relaxation` leaves of such a low part has the distance of S + A
-- from its base as its own S + A.
abbrev pub ValuesAreDistances : Type 0
ValuesAreDistances =
    (addresses : Addresses) (values : List Symbol) (gp : ℕ) (r : Rela) (value : Symbol) (r_type : ℕ)
    (base : ℕ × ℕ) → gp < 2 ^ 64 → slice_get values r.symbol ≡ Some value
    → low_r_type r.r_type ≡ Some r_type → base_for gp (address_of addresses r value) ≡ Some base
    → let after = based_relocation addresses values gp r in
    (after.r_type ≡ r_type) × (after.symbol ≡ r.symbol)
    × (address_of addresses after value ≡ difference_64 (address_of addresses r value) (base.1))

-- ---- high parts

-- An instruction that leaves a number in a register is deleted, which is a group of which new has
-- nothing. Old's register has the high part of an address then.
pub record IsHighPart (c : Code) (k : Kinds) (s : State) (rd number value address : ℕ) : Type 0 where
  pub group : IsLeftOut c k s rd number
  pub leaves : HasHighPart (put rd number (s.pc + 4) s) rd value address

-- a `lui` with the value of its relocation, where a low part holds that of the same operands
abbrev pub LuiGoes : Type 0
LuiGoes =
    (c : Code) (x : Operands) (k : Kinds) (s : State) (lui before_low low : List ℕ) → AreAddresses x
    → AreDeleted c 4 s → IsLui (word_of lui) → rd_of (word_of lui) ≢ 0
    → (has : Has 4 c.old s.pc (riscv_row names.R_RISCV_HI20) x lui)
    → Relocated (riscv_row names.R_RISCV_LO12_I) x before_low low
    → IsHighPart c k s (rd_of (word_of lui)) (upper has.relocated) (symbol_address x)
    (symbol_address x)

-- and an `auipc`
abbrev pub AuipcGoes : Type 0
AuipcGoes =
    (c : Code) (x : Operands) (k : Kinds) (s : State) (auipc before_low low : List ℕ)
    → AreAddresses x → s.pc ≡ x.place → AreDeleted c 4 s → IsAuipc (word_of auipc)
    → rd_of (word_of auipc) ≢ 0
    → (has : Has 4 c.old s.pc (riscv_row names.R_RISCV_PCREL_HI20) x auipc)
    → Relocated (riscv_row names.R_RISCV_PCREL_LO12_I) x before_low low
    → IsHighPart c k s (rd_of (word_of auipc)) (upper_from s.pc has.relocated) (distance x)
    (symbol_address x)

-- ---- calls of a section that was packed (psABI, "Function Call Relaxation")

-- the row of both relocations of calls
abbrev pub call_row : RowInfo
call_row = pair_row PltRelative 64 UiType

abbrev pub IsOfCall : RiscVRelocation → Type 0
IsOfCall name = (name ≡ names.R_RISCV_CALL) ⊎ (name ≡ names.R_RISCV_CALL_PLT)

-- A call of the object becomes n bytes of m instructions that go to a target.
abbrev pub CallIsAlike : List ℕ → Operands → ℕ → ℕ → ℕ → List ℕ → RiscVRelocation → Type 0
CallIsAlike call y n m target code =
    CallBecomes call y n m target (λ c. Stands n c.new y.place code)

-- the call at an offset of the section
abbrev pub call_at : Packed → ℕ → List ℕ
call_at p o = take 8 (drop o p.section.bytes)

-- ---- calls of sites

-- how many instructions n bytes of a call are: `c.j` and `jal` alone, or both
abbrev pub instructions_in : ℕ → ℕ
instructions_in kept = if kept == 8 then 2 else 1

-- where n bytes of a call go: `jalr` clears bit 0
abbrev pub landing : ℕ → ℕ → ℕ
landing kept target = if kept == 8 then target - target % 2 else target

-- RV64: each call that a run may make shorter goes in the final section to the address where its
-- target goes, whichever instruction it has become. RV32's `c.jal` is no instruction of RV64.
abbrev pub SitesCallTheSame : Type 0
SitesCallTheSame =
    (p : Packed) → IsPacked p → p.machine ≡ RiscV64 → (i : ℕ) (call : site) → IsSiteOf p i call
    → let n = site_len p call in
    (name : RiscVRelocation) → IsOfCall name
    → CallIsAlike (call_at p (site_offset p call))
    (operands_of (site_place p call) (site_target p call)) n (instructions_in n)
    (landing n (site_target p call)) (site_bytes p call) name

-- ---- calls that stay

-- A relocation of a call at which nothing changes goes in the final section where its formula says.
pub record StaysCall (p : Packed) (i : ℕ) (name : RiscVRelocation) : Type 0 where
  pub within : i < shorter.count p
  pub of_call : IsOfCall name
  pub is_name : IsNameOf riscv_name (relocation_in p.relocations_after i).r_type name
  pub call : IsCallAt p.section.bytes (offset_at p.relocations i)
  pub stays : StayTogether p (offset_at p.relocations i) 8

abbrev pub LongCallsStay : Type 0
LongCallsStay =
    (p : Packed) → IsPacked p → architecture_of p.machine ≡ RiscV → (i : ℕ) (name : RiscVRelocation)
    → StaysCall p i name → let r = relocation_in p.relocations_after i in
    (symbol : Symbol) → slice_get p.symbols r.symbol ≡ Some symbol
    → let y = operands_with RiscV p.addresses call_row symbol r 0 in
    AreAddresses y → let o = offset_at p.relocations i in
    (name : RiscVRelocation) → IsOfCall name
    → CallIsAlike (call_at p o) y 8 2 (even plt_address y) (take 8 (drop (place_of p o) p.final))
    name

-- ---- deleted instructions (psABI, "Zero-page Relaxation"; thread-local storage)

-- A `lui` of a number of 12 bits, or of an offset from the thread pointer of 12 bits, is a group,
-- of which new has nothing.
abbrev pub LuiIsLeftOut : RiscVRelocation → (Operands → Type 0) → Type 0
LuiIsLeftOut name IsLow =
    (p : Packed) → IsPacked p → architecture_of p.machine ≡ RiscV → (o : ℕ)
    → HasWord p.section.bytes o IsLui → shorter.AreDeleted p o 4
    → ZeroLuiGoes name IsLow (λ c s. IsBefore p o c.moved s.pc) (drop o p.section.bytes)

-- So is an `add` of the thread pointer to a register with 0.
abbrev pub SumIsLeftOut : Type 0
SumIsLeftOut =
    (p : Packed) → IsPacked p → architecture_of p.machine ≡ RiscV → (o : ℕ)
    → HasWord p.section.bytes o IsAddTp → shorter.AreDeleted p o 4
    → SumGoes (λ c s. IsBefore p o c.moved s.pc) (drop o p.section.bytes)

abbrev pub HighPartsAreLeftOut : Type 0
HighPartsAreLeftOut =
    LuiIsLeftOut names.R_RISCV_HI20 IsLow12 × LuiIsLeftOut names.R_RISCV_TPREL_HI20 IsLowOffset
