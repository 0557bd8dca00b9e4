-- LoongArch: what the rewrites of a section are, and where they begin in a run of old (LoongArch
-- ELF psABI, relaxation and the sequences of thread-local storage).
use Rattle.linker_final.specs.Imports.{Addresses, Choice, Group, IsNameOf, Kinds, NotRelaxable}
use Rattle.linker_final.specs.Imports.{Operands, Rela, Relaxation, Relocated, Rewritten, RowInfo}
use Rattle.linker_final.specs.Imports.{Site as site, State, Symbol, decision_at, is_there, loaded}
use Rattle.linker_final.specs.Imports.{loongarch_scope_in, of_link, offset_at, operands_with}
use Rattle.linker_final.specs.Imports.{pre_layout, r_type_of, relocation_in, sum_64, word_of}
use Rattle.linker_laws.specs.Schemes.{AreAddresses, entry_and_addend, following, plt_address}
use Rattle.linker_laws.specs.Schemes.{symbol_address}
use Rattle.std.specs.Prelude.{IsSomeAnd, List, Some, [], drop, pos, slice_get, take, true, ℕ, ⊤}
use Rattle.std.specs.Prelude.{◌≡◌, ◌≢◌, ◌+◌, ◌<◌, ◌==◌, ◌∷◌, if◌then◌else◌}
use Rattle.linker_elf.specs.declared.loongarch64.relocations.LoongArch64Relocation.{LoongArch64Relocation}
use Rattle.linker_elf.specs.LoongArchRelocations.{loongarch_name, loongarch_row}
use Rattle.linker_runs.specs.declared.packing.Machine.TheVariants.{LoongArch64 as loongarch64}
use Rattle.linker_elf.specs.declared.elf.architecture.Architecture.TheVariants.{LoongArch64}
use Rattle.linker_final.specs.Final.{AreRewritten, IsBesideAll, IsLinked, IsRewrittenByNoOther}
use Rattle.linker_final.specs.Final.{IsWrittenByNoOther, Linked, Rewriting, Section}
use Rattle.linker_final.specs.Final.{UntouchedInstruction, UntouchedInstructions, count}
use Rattle.linker_final.specs.Final.{instruction_at, offset_of}
use Rattle.linker_final.specs.Packed.{IsBefore, IsKeptInstruction, IsPacked, IsRewrittenAndPacked}
use Rattle.linker_final.specs.Packed.{IsSiteOf, IsUnwritten, Packed, StayTogether}
use Rattle.linker_final.specs.Packed.{final_instruction, place_of, site_after, site_bytes, site_len}
use Rattle.linker_final.specs.Packed.{site_offset, site_place, site_target}
use Rattle.linker_laws.specs.LoongArchGroups.{CallGoes, Code, Fits32, GoneLaw, HasNop, HighEntry}
use Rattle.linker_laws.specs.LoongArchGroups.{HighOffset, InstructionLaw, IsGone}
use Rattle.linker_laws.specs.LoongArchGroups.{IsRelocated, IsRewritten, LoadGoes, Loads, LoadsEntry}
use Rattle.linker_laws.specs.LoongArchGroups.{LoadsOffset, LowHalf, LowOfDescriptor, LowPart, Makes}
use Rattle.linker_laws.specs.LoongArchGroups.{MakesOffset, OffsetGoes, Stands, SumGoes, link}
use Rattle.linker_laws.specs.LoongArchMachine.{AreAlikeBut, EndSo, HaveCalled, HaveMade}
use Rattle.linker_laws.specs.LoongArchMachine.{no_register, pair}
use Rattle.linker_runs.specs.LoongArchSites.{IsCall36At, IsPcalaAt, destination}
use Rattle.linker_section.specs.declared.needed.EntryClass.TheVariants.{ThreadOffset}
use Rattle.linker_utils.specs.LoongArchRewrites.{IsAddTp, IsLd, IsLu12i, rd_of, word_at}
use Rattle.linker_elf.specs.declared.loongarch64.relocations.LoongArch64Relocation.TheVariants as names
use Rattle.linker_utils.specs.declared.architecture.Relaxation.TheVariants as relaxations
use Rattle.linker_utils.specs.declared.loongarch64.rewrites.RewriteKind.TheVariants as kinds
use Rattle.linker_final.specs.Packed as shorter
use Rattle.linker_laws.specs.LoongArchMachine as machine

-- ---- what is rewritten

-- the instruction of the relocation at an index, of one of the names that a phase rewrites
pub record Rewrites (l : Linked) : Type 0 where
  pub i : ℕ
  pub below : i < count l
  pub name : LoongArch64Relocation
  pub is_name : IsNameOf loongarch_name (relocation_in l.relocations i).r_type name
  pub scoped : loongarch_scope_in l.context.phase name ≢ NotRelaxable
  pub chosen : Choice Relaxation ℕ
  pub decided : decision_at l.decisions i ≡ Rewritten chosen

-- ---- their laws

-- Which relocation is left: none, or one of a name. What has no law leaves any.
pub data Left : Type 0 where
  none : Left
  applied : LoongArch64Relocation → Left
  without_law : Left

-- Bytes of old and of new are a group, with the operands of both.
pub record Law : Type 1 where
  pub left : Left
  pub IsGroup : InstructionLaw

abbrev pub law : LoongArch64Relocation → InstructionLaw → Law
law name IsGroup = record { left = applied name; IsGroup = IsGroup }

-- of an instruction that becomes a `nop`, and of one that is deleted
abbrev pub nop : GoneLaw → Law
nop Law = record { left = none; IsGroup = λ before after x y. Law 1 (HasNop after) before }

abbrev pub deleted : GoneLaw → Law
deleted Law = record { left = none; IsGroup = λ before after x y. Law 0 IsGone before }

-- of an instruction by itself: by the relocation, and what becomes of it
abbrev pub law_of : LoongArch64Relocation → Relaxation → Law
-- initial-exec
law_of names.R_LARCH_TLS_IE_PC_HI20 kind =
    law names.R_LARCH_TLS_LE_HI20 (HighOffset names.R_LARCH_TLS_IE_PC_HI20)
law_of names.R_LARCH_TLS_IE_PC_LO12 kind = law names.R_LARCH_TLS_LE_LO12 LowHalf
-- TLS descriptors, for local-exec and for initial-exec
law_of names.R_LARCH_TLS_DESC_PC_HI20 (relaxations.LoongArch64 kinds.PcalaToLu12i) =
    law names.R_LARCH_TLS_LE_HI20 (HighOffset names.R_LARCH_TLS_DESC_PC_HI20)
law_of names.R_LARCH_TLS_DESC_PC_HI20 (relaxations.LoongArch64 kinds.NoOp) =
    law names.R_LARCH_TLS_IE_PC_HI20 HighEntry
law_of names.R_LARCH_TLS_DESC_PC_LO12 (relaxations.LoongArch64 kinds.LowToOri) =
    law names.R_LARCH_TLS_LE_LO12 (LowOfDescriptor MakesOffset)
law_of names.R_LARCH_TLS_DESC_PC_LO12 (relaxations.LoongArch64 kinds.AddiToLd) =
    law names.R_LARCH_TLS_IE_PC_LO12 (LowOfDescriptor LoadsOffset)
law_of names.R_LARCH_TLS_DESC_LD kind = nop LoadGoes
law_of names.R_LARCH_TLS_DESC_CALL kind = nop CallGoes
-- local-exec
law_of names.R_LARCH_TLS_LE_HI20_R kind = deleted OffsetGoes
law_of names.R_LARCH_TLS_LE_ADD_R kind = deleted SumGoes
law_of names.R_LARCH_TLS_LE_LO12_R kind = law names.R_LARCH_TLS_LE_LO12_R LowPart
-- A part of a load that stands apart has no law.
law_of name kind = record { left = without_law; IsGroup = λ before after x y. ⊥ }

abbrev pub law_at : (l : Linked) → Rewrites l → Law
law_at l g = law_of g.name g.chosen.kind

-- ---- where old comes to them

-- A relocation of initial-exec takes the GOT entry of the symbol's offset.
abbrev pub entry_by : LoongArch64Relocation → Symbol → ℕ
entry_by names.R_LARCH_TLS_IE_PC_HI20 symbol = symbol.thread_entry
entry_by names.R_LARCH_TLS_IE_PC_LO12 symbol = symbol.thread_entry
entry_by name symbol = 0

-- the symbol has one
abbrev pub HasOffsetEntry : Addresses → Symbol → Type 0
HasOffsetEntry addresses symbol =
    is_there addresses symbol (record { class = ThreadOffset; addend = pos 0 }) ≡ true

abbrev pub HasEntry : LoongArch64Relocation → Addresses → Symbol → Type 0
HasEntry names.R_LARCH_TLS_IE_PC_HI20 addresses symbol = HasOffsetEntry addresses symbol
HasEntry names.R_LARCH_TLS_IE_PC_LO12 addresses symbol = HasOffsetEntry addresses symbol
HasEntry name addresses symbol = ⊤

-- the operands of a relocation with a name
pub record AreOf (name : LoongArch64Relocation) (addresses : Addresses) (symbols : List Symbol)
    (r : Rela) (y : Operands) : Type 0 where
  pub symbol : Symbol
  pub is_symbol : slice_get symbols r.symbol ≡ Some symbol
  pub has_entry : HasEntry name addresses symbol
  pub are : IsSomeAnd (loongarch_row name)
      (λ row. y ≡ operands_with LoongArch64 addresses row symbol r (entry_by name symbol))

-- Bytes are those that a rewrite leaves, with the relocation applied that is left. None are of what
-- has no law.
abbrev pub IsMade : Left → Operands → List ℕ → List ℕ → Type 0
IsMade none y rewritten after = after ≡ rewritten
IsMade (applied name) y rewritten after = IsRelocated name y rewritten after
IsMade without_law y rewritten after = ⊥

-- The operands are those of the relocation in the section's final layout. Where none is left, no
-- other one has a field there.
abbrev pub IsFinal : Left → Linked → ℕ → Operands → Type 0
IsFinal none l i y = IsWrittenByNoOther l i (offset_of l i)
IsFinal (applied name) l i y =
    AreOf name l.addresses l.symbols (relocation_in l.relocations_after i) y
IsFinal without_law l i y = ⊥

-- The same in the section that is packed, where the instruction stays.
abbrev pub IsKept : Left → Linked → Packed → ℕ → Operands → Type 0
IsKept none l p i y =
    StayTogether p (offset_of l i) 4 × IsUnwritten p (place_of p (offset_of l i)) 4
IsKept (applied name) l p i y =
    IsKeptInstruction p i × AreOf name p.addresses p.symbols (relocation_in p.relocations_after i) y
IsKept without_law l p i y = ⊥

-- New has what a rewrite left of the instruction of the relocation at an index, wherever that goes.
-- Or it has the section's final bytes, or those of the section that is packed after its phases,
-- which leave the instruction alone.
pub data IsNew (left : Left) (l : Linked) (i : ℕ) (y : Operands) : List ℕ → Type 0 where
  anywhere : (after : List ℕ) → IsMade left y (instruction_at l.rewritten (offset_of l i)) after
      → IsNew left l i y after
  final : IsLinked l → UntouchedInstruction l i → IsFinal left l i y
      → IsNew left l i y (instruction_at l.final (offset_of l i))
  packed : (p : Packed) → IsRewrittenAndPacked l p → p.machine ≡ loongarch64
      → UntouchedInstruction l i → IsKept left l p i y
      → IsNew left l i y (final_instruction p (offset_of l i))

-- No other rewrite has a byte of an instruction that keeps its own.
abbrev pub IsAlone : Relaxation → Linked → ℕ → Type 0
IsAlone (relaxations.LoongArch64 kinds.NoOp) l i = IsRewrittenByNoOther l i (offset_of l i)
IsAlone kind l i = ⊤

-- The pair of a relocation at an index, where the entry at an address holds S + A, is a group. New
-- has the final bytes. The distances to the entry and to the symbol, in pages, have 32 bits.
abbrev pub LoadsTheSame : Linked → ℕ → RowInfo → Type 0
LoadsTheSame l i row =
    let r = relocation_in l.relocations i in
    let ld = instruction_at l.section (r.offset + 4) in
    (symbol : Symbol) → slice_get l.symbols r.symbol ≡ Some symbol
    → (entry : ℕ) (c : Code) (k : Kinds) (s : State)
    → let operands = operands_with LoongArch64 l.addresses row symbol r entry in
    Loads c operands s (instruction_at l.section r.offset) ld
    → Fits32 names.R_LARCH_PCALA_HI20 operands
    → Stands c.new operands.place (instruction_at l.final r.offset)
    → Stands c.new (sum_64 operands.place 4) (instruction_at l.final (r.offset + 4))
    → Makes 2 8 symbol_address c operands operands k s ld

-- A load of an address from the GOT is rewritten before addresses are known, and later phases leave
-- it alone. No other rewrite has a byte of its `pcalau12i`, whose relocation is at an index. That
-- of its `ld.d` is the next but one.
pub record IsLoad (l : Linked) (i : ℕ) (name : LoongArch64Relocation) : Type 0 where
  pub is : name ≡ names.R_LARCH_GOT_PC_HI20
  pub linked : IsLinked l
  pub early : l.context ≡ pre_layout LoongArch64 l.context.output l.context.symbols
  pub left : UntouchedInstructions l i (i + 2)
  pub alone : IsRewrittenByNoOther l i (offset_of l i)

-- Old comes to an instruction that is rewritten by itself, or to a load, and new has what became of
-- it. What its law requires holds, as that old has the object's, with the values of their
-- relocations. So by it new executes n instructions, and they leave kinds and a state.
pub data Begins (x : Section) (l : Linked) (c : Code) (k : Kinds) (s : State) (g : Rewrites l)
    (n : ℕ) (k' : Kinds) (s' : State) : Type 0 where
  by_itself : IsAlone g.chosen.kind l g.i → (u y : Operands) (after : List ℕ)
      → IsNew (law_at l g).left l g.i y after
      → ((law_at l g).IsGroup (instruction_at l.section (offset_of l g.i)) after u y
      → Group (of_link (link c)) n k s k' s')
      → Begins x l c k s g n k' s'
  load : IsLoad l g.i g.name
      → (IsSomeAnd (loongarch_row names.R_LARCH_GOT_PC_HI20) (LoadsTheSame l g.i)
      → Group (of_link (link c)) n k s k' s')
      → Begins x l c k s g n k' s'

-- The calls succeeded, whatever becomes of the section after the phases.
abbrev pub rewriting : Rewriting
rewriting =
    record {
      architecture = LoongArch64;
      Code = Code;
      link = link;
      Ensured = AreRewritten;
      Stays = IsBesideAll;
      Rewrites = Rewrites;
      span = λ l g. (offset_of l g.i, offset_of l g.i + 4);
      Begins = Begins;
    }

-- ---- what a rewrite leaves

-- the relocation with another name
abbrev pub named_as : LoongArch64Relocation → Rela → Rela
named_as name r = record r { r_type = r_type_of (loongarch_name name) }

-- of the relocation at an index
abbrev pub IsLeft : Left → Linked → ℕ → Type 0
IsLeft none l i =
    relocation_in l.relocations_after i
    ≡ named_as names.R_LARCH_NONE (relocation_in l.relocations i)
IsLeft (applied name) l i =
    relocation_in l.relocations_after i ≡ named_as name (relocation_in l.relocations i)
IsLeft without_law l i = ⊤

abbrev pub RelocationsAreLeft : Type 0
RelocationsAreLeft =
    (l : Linked) → AreRewritten l → l.context.architecture ≡ LoongArch64 → (g : Rewrites l)
    → IsLeft (law_at l g).left l g.i

-- ---- a section that was packed (psABI, linker relaxation)

-- the words of n bytes of a site: one instruction, or both
abbrev pub words_in : ℕ → List ℕ → List ℕ
words_in kept bytes = if kept == 8 then pair bytes (drop 4 bytes) else word_of bytes ∷ []

-- the final words of a site
abbrev pub site_words : Packed → site → List ℕ
site_words p here = words_in (site_len p here) (site_bytes p here)

-- What is said of the object's instructions at an offset, of the final words at an address, of the
-- address after these, and of the target that they lead to.
abbrev pub EndsLaw : Type 1
EndsLaw = Packed → (o at : ℕ) → List ℕ → (after target : ℕ) → Type 0

-- It is said of each site whose instructions of the object pass a test.
abbrev pub EachSite : (List ℕ → ℕ → Type 0) → EndsLaw → Type 0
EachSite IsAt Ends =
    (p : Packed) → IsPacked p → p.machine ≡ loongarch64 → (i : ℕ) (here : site) → IsSiteOf p i here
    → let o = site_offset p here in
    IsAt p.section.bytes o
    → Ends p o (site_place p here) (site_words p here) (site_after p here) (site_target p here)

-- ---- calls

-- From states that are alike, each before its own call, the object's `pcaddu18i` and `jirl`, with
-- the value of their relocation, and the final words go to the target of their layout.
abbrev pub CallsEnd : EndsLaw
CallsEnd p o at words after target =
    (x : Operands) → AreAddresses x → (original : List ℕ)
    → Relocated (loongarch_row names.R_LARCH_CALL36) x (drop o p.section.bytes) original
    → (s t : machine.State) → s.pc ≡ x.place → t.pc ≡ at → AreAlikeBut no_register s t
    → EndSo (pair original (drop 4 original)) s words t
    (HaveCalled (destination p.section.bytes o) (rd_of (word_at p.section.bytes o))
    (sum_64 x.place 8) after (plt_address x) target)

-- the final call: `b`, `bl` or both instructions
abbrev pub CallsTheSame : Type 0
CallsTheSame = EachSite IsCall36At CallsEnd

-- ---- addresses

-- From states that are alike, each before its own instructions, the object's `pcalau12i` and
-- `addi.d`, with the values of their relocations, and the final words make the address of their
-- layout.
abbrev pub SumsEnd : EndsLaw
SumsEnd p o at words after target =
    (x : Operands) → AreAddresses x → (pcala addi : List ℕ) → Fits32 names.R_LARCH_PCALA_HI20 x
    → IsRelocated names.R_LARCH_PCALA_HI20 x (take 4 (drop o p.section.bytes)) pcala
    → IsRelocated names.R_LARCH_PCALA_LO12 (following 4 x)
    (take 4 (drop (o + 4) p.section.bytes)) addi
    → (s t : machine.State) → s.pc ≡ x.place → t.pc ≡ at → AreAlikeBut no_register s t
    → EndSo (pair pcala addi) s words t
    (HaveMade (destination p.section.bytes o) (symbol_address x) target (sum_64 x.place 8) after)

-- The same where the object had an `ld.d` of a GOT entry, which holds the address of the symbol,
-- and `LdToAddi` has made the `addi.d` of it.
abbrev pub LoadsEnd : EndsLaw
LoadsEnd p o at words after target =
    (x : Operands) → AreAddresses x → (ld pcala_of_entry ld_of_entry : List ℕ)
    → IsLd (word_of ld) → IsRewritten kinds.LdToAddi ld (take 4 (drop (o + 4) p.section.bytes))
    → LoadsEntry names.R_LARCH_GOT_PC_HI20 names.R_LARCH_GOT_PC_LO12 x
    (take 4 (drop o p.section.bytes)) ld pcala_of_entry ld_of_entry
    → (s t : machine.State) → loaded 8 s.memory (entry_and_addend x) ≡ symbol_address x
    → s.pc ≡ x.place → t.pc ≡ at → AreAlikeBut no_register s t
    → EndSo (pair pcala_of_entry ld_of_entry) s words t
    (HaveMade (destination p.section.bytes o) (symbol_address x) target (sum_64 x.place 8) after)

-- The final `pcaddi`, or both instructions, make the address that the object's make.
abbrev pub AddressesAreMade : Type 0
AddressesAreMade = EachSite IsPcalaAt SumsEnd

abbrev pub LoadedAddressesAreMade : Type 0
LoadedAddressesAreMade = EachSite IsPcalaAt LoadsEnd

-- ---- what stays

-- The relocation at an index has a name, and is of n bytes that stay.
pub record StaysAs (p : Packed) (i : ℕ) (name : LoongArch64Relocation) (len : ℕ) : Type 0 where
  pub within : i < shorter.count p
  pub is_name : IsNameOf loongarch_name (relocation_in p.relocations_after i).r_type name
  pub stays : StayTogether p (offset_at p.relocations i) len

-- what its formula takes
abbrev pub operands_at : Packed → ℕ → RowInfo → Symbol → Operands
operands_at p i row symbol =
    operands_with LoongArch64 p.addresses row symbol (relocation_in p.relocations_after i) 0

-- A call at which nothing changes goes in the final section where the formula of its relocation
-- says.
abbrev pub LongCallsStay : Type 0
LongCallsStay =
    IsSomeAnd (loongarch_row names.R_LARCH_CALL36) (λ row.
    (p : Packed) → IsPacked p → p.machine ≡ loongarch64 → (i : ℕ)
    → StaysAs p i names.R_LARCH_CALL36 8 → let o = offset_at p.relocations i in
    IsCall36At p.section.bytes o → (symbol : Symbol)
    → slice_get p.symbols (relocation_in p.relocations_after i).symbol ≡ Some symbol
    → let y = operands_at p i row symbol in AreAddresses y
    → let call = take 8 (drop (place_of p o) p.final) in
    CallsEnd p o y.place (pair call (drop 4 call)) (sum_64 y.place 8) (plt_address y))

-- `pcalau12i` and `addi.d` next to each other stay, whose relocations are of one symbol and addend.
pub record IsPairOf (p : Packed) (i j : ℕ) : Type 0 where
  pub high : StaysAs p i names.R_LARCH_PCALA_HI20 4
  pub low : StaysAs p j names.R_LARCH_PCALA_LO12 4
  pub next : offset_at p.relocations j ≡ offset_at p.relocations i + 4
  pub same_symbol : (relocation_in p.relocations_after j).symbol
      ≡ (relocation_in p.relocations_after i).symbol
  pub same_addend : (relocation_in p.relocations_after j).addend
      ≡ (relocation_in p.relocations_after i).addend
  pub pair : IsPcalaAt p.section.bytes (offset_at p.relocations i)

-- the final pair
abbrev pub final_pair : Packed → ℕ → List ℕ
final_pair p o =
    let at = place_of p o in pair (take 4 (drop at p.final)) (take 4 (drop (at + 4) p.final))

-- It makes the address of its layout.
abbrev pub EachLongPair : EndsLaw → Type 0
EachLongPair Ends =
    IsSomeAnd (loongarch_row names.R_LARCH_PCALA_HI20) (λ row.
    (p : Packed) → IsPacked p → p.machine ≡ loongarch64 → (i j : ℕ) → IsPairOf p i j
    → let o = offset_at p.relocations i in
    (symbol : Symbol)
    → slice_get p.symbols (relocation_in p.relocations_after i).symbol ≡ Some symbol
    → let y = operands_at p i row symbol in
    AreAddresses y → Fits32 names.R_LARCH_PCALA_HI20 y
    → Ends p o y.place (final_pair p o) (sum_64 y.place 8) (symbol_address y))

abbrev pub LongAddressesStay : Type 0
LongAddressesStay = EachLongPair SumsEnd

abbrev pub LongLoadedAddressesStay : Type 0
LongLoadedAddressesStay = EachLongPair LoadsEnd

-- ---- deleted instructions (thread-local storage)

-- What is deleted at an offset is a group, of which new has nothing.
abbrev pub IsLeftOut : (ℕ → Type 0) → GoneLaw → Type 0
IsLeftOut P Law =
    (p : Packed) → IsPacked p → p.machine ≡ loongarch64 → (o : ℕ) → shorter.AreDeleted p o 4
    → let instruction = take 4 (drop o p.section.bytes) in
    P (word_of instruction) → Law 0 (λ c s. IsBefore p o c.moved s.pc) instruction

-- a `lu12i.w` of an offset from the thread pointer of 12 bits
abbrev pub HighPartIsLeftOut : Type 0
HighPartIsLeftOut = IsLeftOut IsLu12i OffsetGoes

-- an `add.d` of the thread pointer to a register with 0
abbrev pub SumIsLeftOut : Type 0
SumIsLeftOut = IsLeftOut IsAddTp SumGoes
