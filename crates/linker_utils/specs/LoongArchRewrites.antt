-- LoongArch: its rewrites (LoongArch ELF psABI, relaxation and the sequences of thread-local
-- storage; LoongArch Reference Manual, volume 1).
use Rattle.linker_utils.specs.Imports.{Applies, Bool, Choice, Condition, ConditionHolds}
use Rattle.linker_utils.specs.Imports.{DeletedBytes, Entry, Fits, HasWord, IsFirst, IsTrue}
use Rattle.linker_utils.specs.Imports.{LinkFacts, List, LoongArch64Relocation, None, Normal, Option}
use Rattle.linker_utils.specs.Imports.{RelocationModifier, Rewrite, Some, [], addend, bound, choice}
use Rattle.linker_utils.specs.Imports.{drop, entry, executable, facts_on, field, fixed_distance}
use Rattle.linker_utils.specs.Imports.{from_le_bytes, group_fits, in_reach, length, loongarch_row}
use Rattle.linker_utils.specs.Imports.{marked, nat_le, neg_ℤ, not, pos, replaces, to_le_bytes, true}
use Rattle.linker_utils.specs.Imports.{w32, within, within_if_known, ℕ, ℤ, ⊤}
use Rattle.std.specs.Prelude.{◌+◌, ◌-◌, ◌*◌, ◌^◌, ◌∷◌, ◌≡◌, ◌≢◌, ◌≤◌, ◌/◌, ◌==◌, ◌||◌, ◌&&◌, ◌⊎◌}
use Rattle.std.specs.Prelude.{◌<◌, ◌++◌}
use Rattle.linker_utils.specs.declared.loongarch64.relaxation_kind.RelaxationKind.{RelaxationKind}
use Rattle.linker_utils.specs.declared.loongarch64.relaxation_kind.RelaxationKind.TheVariants as originals
use Rattle.linker_utils.specs.declared.loongarch64.rewrites.RewriteKind.{RewriteKind}
use Rattle.linker_elf.specs.declared.loongarch64.relocations.LoongArch64Relocation.TheVariants as r
use Rattle.linker_utils.specs.declared.loongarch64.rewrites.RewriteKind.TheVariants as kinds

-- ---- fields

-- the destination register
abbrev pub rd_of : ℕ → ℕ
rd_of word = field word 0 5

-- the first source register
abbrev pub rj_of : ℕ → ℕ
rj_of word = field word 5 10

-- the thread pointer's number
abbrev pub tp : ℕ
tp = 2

-- ---- rewrites

-- a rewrite of an instruction's word
abbrev pub rewrites_word : (ℕ → ℕ) → Rewrite
rewrites_word new = replaces 0 4 (λ window. to_le_bytes w32 (new (from_le_bytes w32 window)))

abbrev pub loongarch_rewrite : RewriteKind → Option Rewrite
loongarch_rewrite kinds.NoOp = None
-- `andi zero, zero, 0`
loongarch_rewrite kinds.ReplaceWithNop = Some (rewrites_word (λ _. 0x03400000))
-- `addi.d` and `ld.d`, with the registers and the immediate that are there
loongarch_rewrite kinds.LdToAddi = Some (rewrites_word (λ word. 0x02c00000 + field word 0 22))
loongarch_rewrite kinds.AddiToLd = Some (rewrites_word (λ word. 0x28c00000 + field word 0 22))
-- `pcaddi` and `lu12i.w`, with the destination register
loongarch_rewrite kinds.PcalaToPcaddi = Some (rewrites_word (λ word. 0x18000000 + rd_of word))
loongarch_rewrite kinds.PcalaToLu12i = Some (rewrites_word (λ word. 0x14000000 + rd_of word))
-- `bl` and `b`
loongarch_rewrite kinds.CallToBl = Some (rewrites_word (λ _. 0x54000000))
loongarch_rewrite kinds.CallToB = Some (rewrites_word (λ _. 0x50000000))
-- `ori`, with both registers; with the destination register, from `zero`
loongarch_rewrite kinds.LowToOri = Some (rewrites_word (λ word. 0x03800000 + field word 0 10))
loongarch_rewrite kinds.LowToOriZero = Some (rewrites_word (λ word. 0x03800000 + rd_of word))
-- the first source register becomes `tp`
loongarch_rewrite kinds.BaseToTp =
    Some (rewrites_word (λ word. word - rj_of word * 2 ^ 5 + tp * 2 ^ 5))
loongarch_rewrite kinds.Delete = None
loongarch_rewrite kinds.DeleteAddi = None

abbrev pub loongarch_modifier : RewriteKind → RelocationModifier
loongarch_modifier kind = Normal

abbrev pub deleted_from : ℕ → ℕ → Option DeletedBytes
deleted_from start count = Some record { start = start; count = count }

-- what is deleted after a rewrite: the `jirl` of a call, and the instruction
abbrev pub loongarch_deleted : RewriteKind → Option DeletedBytes
loongarch_deleted kinds.CallToBl = deleted_from 4 4
loongarch_deleted kinds.CallToB = deleted_from 4 4
loongarch_deleted kinds.Delete = deleted_from 0 4
loongarch_deleted kinds.DeleteAddi = deleted_from 0 4
loongarch_deleted kind = None

-- the rewrites by their numbers from 0 up
abbrev pub loongarch64_rewrites : List RewriteKind
loongarch64_rewrites =
    kinds.NoOp ∷ kinds.ReplaceWithNop ∷ kinds.LdToAddi ∷ kinds.AddiToLd ∷ kinds.PcalaToPcaddi ∷
    kinds.CallToBl ∷ kinds.CallToB ∷ kinds.PcalaToLu12i ∷ kinds.LowToOri ∷ kinds.LowToOriZero ∷
    kinds.BaseToTp ∷ kinds.Delete ∷ kinds.DeleteAddi ∷ []

-- The instructions that each rewrite of LoongArch is meant for (LoongArch Reference Manual, volume
-- 1; LoongArch ELF psABI, relaxation and the sequences of thread-local storage).

-- ---- instructions

-- `pcalau12i rd`
abbrev pub IsPcalau12i : ℕ → Type 0
IsPcalau12i word = word / 2 ^ 25 ≡ 0x0d

-- `pcaddu18i rd`
abbrev pub IsPcaddu18i : ℕ → Type 0
IsPcaddu18i word = word / 2 ^ 25 ≡ 0x0f

-- `lu12i.w rd`
abbrev pub IsLu12i : ℕ → Type 0
IsLu12i word = word / 2 ^ 25 ≡ 0x0a

-- `jirl rd, rj`
abbrev pub IsJirl : ℕ → Type 0
IsJirl word = word / 2 ^ 26 ≡ 0x13

-- `addi.d rd, rj`
abbrev pub IsAddi : ℕ → Type 0
IsAddi word = word / 2 ^ 22 ≡ 0x00b

-- `ld.d rd, rj`
abbrev pub IsLd : ℕ → Type 0
IsLd word = word / 2 ^ 22 ≡ 0x0a3

-- `add.d rd, rj, tp`
abbrev pub IsAddTp : ℕ → Type 0
IsAddTp word = word / 2 ^ 10 ≡ 0x422

-- The instruction adds a signed immediate of 12 bits to its first source register, by its opcode:
-- `addi.w` and `addi.d`; `ld.b`, `ld.h`, `ld.w` and `ld.d`; `st.b`, `st.h`, `st.w` and `st.d`;
-- `ld.bu`, `ld.hu` and `ld.wu`; `preld`, which has a hint in place of a destination register;
-- `fld.s`, `fst.s`, `fld.d` and `fst.d`; and `vld`, `vst`, `xvld` and `xvst` (LoongArch Reference
-- Manual, volume 2).
abbrev pub adds_low12 : ℕ → Bool
adds_low12 opcode =
    opcode == 0x00a || opcode == 0x00b || nat_le 0x0a0 opcode && nat_le opcode 0x0b3

-- a store of what its own base holds, by `st.b`, `st.h`, `st.w` or `st.d`
abbrev pub stores_base : ℕ → Bool
stores_base word =
    nat_le 0x0a4 (word / 2 ^ 22) && nat_le (word / 2 ^ 22) 0x0a7 && rd_of word == rj_of word

-- The instruction adds such an immediate, and another register than its source can be the source:
-- it doesn't store that.
abbrev pub IsLowOverOther : ℕ → Type 0
IsLowOverOther word = IsTrue (adds_low12 (word / 2 ^ 22)) × IsTrue (not (stores_base word))

-- ---- pairs

-- The source register is the destination register, and isn't `zero`.
pub record IsIntoOwnSource (word : ℕ) : Type 0 where
  pub same : rj_of word ≡ rd_of word
  pub not_zero : rd_of word ≢ 0

-- `pcalau12i rd`, and an instruction from rd into rd
pub record AreOfOneRegister (pcala word : ℕ) : Type 0 where
  pub first : IsPcalau12i pcala
  pub into_own_source : IsIntoOwnSource word
  pub register : rd_of pcala ≡ rd_of word

-- the word at an offset
abbrev pub word_at : List ℕ → ℕ → ℕ
word_at section o = from_le_bytes w32 (drop o section)

-- Such a pair is at the offset, and P holds of its second instruction.
pub record IsPair (P : ℕ → Type 0) (section : List ℕ) (o : ℕ) : Type 0 where
  pub within : o + 8 ≤ length section
  pub second : P (word_at section (o + 4))
  pub one_register : AreOfOneRegister (word_at section o) (word_at section (o + 4))

-- `pcaddu18i` of a register other than `zero`, and a `jirl` from that register that links another
-- one
pub record IsCall (link : ℕ) (section : List ℕ) (o : ℕ) : Type 0 where
  pub within : o + 8 ≤ length section
  pub first : IsPcaddu18i (word_at section o)
  pub base_not_zero : rd_of (word_at section o) ≢ 0
  pub second : IsJirl (word_at section (o + 4))
  pub base : rj_of (word_at section (o + 4)) ≡ rd_of (word_at section o)
  pub links : rd_of (word_at section (o + 4)) ≡ link

-- ---- what a rewrite is meant for is at an offset of the section

abbrev pub loongarch_matches : RewriteKind → List ℕ → ℕ → Type 0
loongarch_matches kinds.NoOp section o = ⊤
loongarch_matches kinds.ReplaceWithNop section o = HasWord section o (λ _. ⊤)
loongarch_matches kinds.LdToAddi section o =
    HasWord section o (λ word. IsLd word × IsIntoOwnSource word)
loongarch_matches kinds.AddiToLd section o =
    HasWord section o (λ word. IsAddi word × IsIntoOwnSource word)
loongarch_matches kinds.PcalaToPcaddi section o = IsPair (λ word. IsAddi word ⊎ IsLd word) section o
-- `ra` is register 1
loongarch_matches kinds.CallToBl section o = IsCall 1 section o
loongarch_matches kinds.CallToB section o = IsCall 0 section o
loongarch_matches kinds.PcalaToLu12i section o = HasWord section o IsPcalau12i
loongarch_matches kinds.LowToOri section o = HasWord section o (λ word. IsAddi word ⊎ IsLd word)
loongarch_matches kinds.LowToOriZero section o =
    HasWord section o (λ word. IsAddi word ⊎ IsLd word)
loongarch_matches kinds.BaseToTp section o =
    HasWord section o (λ word. IsTrue (adds_low12 (word / 2 ^ 22)))
loongarch_matches kinds.Delete section o = HasWord section o (λ _. ⊤)
loongarch_matches kinds.DeleteAddi section o =
    HasWord section o (λ word. IsAddi word × IsIntoOwnSource word)

-- LoongArch: the rewrite that a linker chooses for a relocation (LoongArch ELF psABI, relaxation
-- and the sequences of thread-local storage).

-- ---- the instructions that a relocation and a rewrite require

-- Those of a TLS descriptor: `pcalau12i a0`, `addi.d a0, a0`, `ld.d ra, a0, 0` and
-- `jirl ra, ra, 0`, where `a0` is register 4 and `ra` register 1.
abbrev pub IsPageOfDescriptor : ℕ → Type 0
IsPageOfDescriptor word = IsPcalau12i word × (rd_of word ≡ 4)

abbrev pub IsLowOfDescriptor : ℕ → Type 0
IsLowOfDescriptor word = IsAddi word × (rd_of word ≡ 4) × (rj_of word ≡ 4)

abbrev pub IsLoadOfDescriptor : ℕ → Type 0
IsLoadOfDescriptor word = word ≡ 0x28c00081

abbrev pub IsCallOfDescriptor : ℕ → Type 0
IsCallOfDescriptor word = word ≡ 0x4c000021

-- P holds of the instruction at an offset.
abbrev pub IsSingle : (ℕ → Type 0) → List ℕ → ℕ → Type 0
IsSingle P section o = HasWord section o P

-- What P says is at an offset n bytes before.
abbrev pub IsAfter : ℕ → (List ℕ → ℕ → Type 0) → List ℕ → ℕ → Type 0
IsAfter back P section o = (back ≤ o) × P section (o - back)

abbrev pub HasPattern : LoongArch64Relocation → RewriteKind → List ℕ → ℕ → Type 0
HasPattern r.R_LARCH_GOT_PC_HI20 kind = IsPair IsLd
HasPattern r.R_LARCH_GOT_PC_LO12 kinds.DeleteAddi = IsAfter 4 (IsPair IsAddi)
HasPattern r.R_LARCH_GOT_PC_LO12 kind = IsAfter 4 (IsPair IsLd)
HasPattern r.R_LARCH_TLS_GD_PC_HI20 kind = IsPair IsAddi
HasPattern r.R_LARCH_TLS_LD_PC_HI20 kind = IsPair IsAddi
HasPattern r.R_LARCH_PCALA_HI20 kind = IsPair IsAddi
HasPattern r.R_LARCH_PCALA_LO12 kind = IsAfter 4 (IsPair IsAddi)
HasPattern r.R_LARCH_TLS_IE_PC_HI20 kind = IsSingle IsPcalau12i
HasPattern r.R_LARCH_TLS_IE_PC_LO12 kind = IsSingle IsLd
HasPattern r.R_LARCH_TLS_DESC_PC_HI20 kinds.PcalaToPcaddi = IsPair IsAddi
HasPattern r.R_LARCH_TLS_DESC_PC_HI20 kind = IsSingle IsPageOfDescriptor
HasPattern r.R_LARCH_TLS_DESC_PC_LO12 kinds.Delete = IsAfter 4 (IsPair IsAddi)
HasPattern r.R_LARCH_TLS_DESC_PC_LO12 kind = IsSingle IsLowOfDescriptor
HasPattern r.R_LARCH_TLS_DESC_LD kind = IsSingle IsLoadOfDescriptor
HasPattern r.R_LARCH_TLS_DESC_CALL kind = IsSingle IsCallOfDescriptor
HasPattern r.R_LARCH_TLS_LE_HI20_R kind = IsSingle IsLu12i
HasPattern r.R_LARCH_TLS_LE_ADD_R kind = IsSingle IsAddTp
HasPattern r.R_LARCH_TLS_LE_LO12_R kind = IsSingle IsLowOverOther
-- what the rewrite is meant for
HasPattern name kind = loongarch_matches kind

-- ---- the table

-- numbers of 32 bits in two's complement
abbrev pub signed_32 : ℤ × ℤ
signed_32 = (neg_ℤ (pos (2 ^ 31)), pos (2 ^ 31))

-- the immediates of `ori`, and of `addi.d`, loads and stores
abbrev pub unsigned_12 : ℤ × ℤ
unsigned_12 = (pos 0, pos (2 ^ 12))

abbrev pub signed_12 : ℤ × ℤ
signed_12 = (neg_ℤ (pos (2 ^ 11)), pos (2 ^ 11))

abbrev pub Conditions : Type 0
Conditions = List (Condition LoongArch64Relocation)

-- by `pcaddi` alone, which is n bytes before
abbrev pub by_pcaddi : ℕ → Conditions
by_pcaddi back = fixed_distance ∷ marked ∷ in_reach r.R_LARCH_PCREL20_S2 back ∷ []

-- the same of the symbol's definition in this output, in place of its GOT entry
abbrev pub bound_by_pcaddi : ℕ → Conditions
bound_by_pcaddi back =
    bound ∷ fixed_distance ∷ marked ∷ addend (pos 0) ∷ in_reach r.R_LARCH_PCREL20_S2 back ∷ []

-- The GOT entry of general- or local-dynamic by `pcaddi`, which is n bytes before. Its low
-- half has the relocation of any GOT entry's: `group_fits` says that its high half can be
-- rewritten.
abbrev pub entry_by_pcaddi : LoongArch64Relocation → ℕ → Conditions
entry_by_pcaddi name back = marked ∷ group_fits ∷ in_reach name back ∷ []

-- a TLS descriptor that stays, by `pcaddi`, which is n bytes before
abbrev pub descriptor_by_pcaddi : ℕ → Conditions
descriptor_by_pcaddi back = marked ∷ in_reach r.R_LARCH_TLS_DESC_PCREL20_S2 back ∷ []

-- the definition by the distance in pages from `pcalau12i`, which is n bytes before
abbrev pub bound_by_pages : ℕ → Conditions
bound_by_pages back =
    bound ∷ fixed_distance ∷ addend (pos 0)
    ∷ within_if_known r.R_LARCH_PCALA_HI20 signed_32 back ∷ []

-- by `b` or `bl`
abbrev pub by_branch : Conditions
by_branch = fixed_distance ∷ marked ∷ in_reach r.R_LARCH_B26 0 ∷ []

-- The instructions of initial-exec and of descriptors may stand apart: all of them fit, or none is
-- rewritten. The offset from the thread pointer is in the instructions, and by `ori` alone, where
-- some facts hold too.
abbrev pub to_local_exec : Conditions
to_local_exec =
    bound ∷ executable ∷ group_fits ∷ addend (pos 0)
    ∷ within_if_known r.R_LARCH_TLS_LE_HI20 signed_32 0 ∷ []

abbrev pub to_short_local_exec : Conditions → Conditions
to_short_local_exec facts =
    bound ∷ executable ∷ facts ++ group_fits ∷ addend (pos 0)
    ∷ within r.R_LARCH_TLS_LE_LO12 unsigned_12 0 ∷ []

-- The offset is in the GOT: the high half has the distance, and the others depend on no place.
-- These conditions hold for local-exec too.
abbrev pub page_to_initial_exec : Conditions
page_to_initial_exec =
    executable ∷ group_fits ∷ within_if_known r.R_LARCH_TLS_IE_PC_HI20 signed_32 0 ∷ []

abbrev pub to_initial_exec : Conditions → Conditions
to_initial_exec facts = executable ∷ facts ++ group_fits ∷ []

-- the offset from the thread pointer in 12 signed bits
abbrev pub by_low_part : Conditions
by_low_part = marked ∷ within r.R_LARCH_TLS_LE_LO12_R signed_12 0 ∷ []

abbrev pub LoongArchEntry : Type 0
LoongArchEntry = Entry RewriteKind LoongArch64Relocation

abbrev pub LoongArchChoice : Type 0
LoongArchChoice = Choice RewriteKind LoongArch64Relocation

-- An instruction that is left out: it is deleted where that may be, and else becomes `nop`.
abbrev pub left_out : (Conditions → Conditions) → List LoongArchEntry → List LoongArchEntry
left_out conditions entries =
    entry kinds.Delete r.R_LARCH_NONE (conditions (marked ∷ []))
    ∷ entry kinds.ReplaceWithNop r.R_LARCH_NONE (conditions []) ∷ entries

abbrev pub loongarch_entries : LoongArch64Relocation → List LoongArchEntry
loongarch_entries r.R_LARCH_GOT_PC_HI20 =
    entry kinds.PcalaToPcaddi r.R_LARCH_PCREL20_S2 (bound_by_pcaddi 0)
    ∷ entry kinds.NoOp r.R_LARCH_PCALA_HI20 (bound_by_pages 0) ∷ []
loongarch_entries r.R_LARCH_GOT_PC_LO12 =
    entry kinds.Delete r.R_LARCH_NONE (bound_by_pcaddi 4)
    ∷ entry kinds.LdToAddi r.R_LARCH_PCALA_LO12 (bound_by_pages 4)
    ∷ entry kinds.DeleteAddi r.R_LARCH_NONE (entry_by_pcaddi r.R_LARCH_TLS_GD_PCREL20_S2 4) ∷ []
loongarch_entries r.R_LARCH_TLS_GD_PC_HI20 =
    entry kinds.PcalaToPcaddi r.R_LARCH_TLS_GD_PCREL20_S2
    (entry_by_pcaddi r.R_LARCH_TLS_GD_PCREL20_S2 0) ∷ []
loongarch_entries r.R_LARCH_TLS_LD_PC_HI20 =
    entry kinds.PcalaToPcaddi r.R_LARCH_TLS_LD_PCREL20_S2
    (entry_by_pcaddi r.R_LARCH_TLS_LD_PCREL20_S2 0) ∷ []
loongarch_entries r.R_LARCH_PCALA_HI20 =
    entry kinds.PcalaToPcaddi r.R_LARCH_PCREL20_S2 (by_pcaddi 0) ∷ []
loongarch_entries r.R_LARCH_PCALA_LO12 = entry kinds.Delete r.R_LARCH_NONE (by_pcaddi 4) ∷ []
loongarch_entries r.R_LARCH_CALL36 =
    entry kinds.CallToB r.R_LARCH_B26 by_branch ∷ entry kinds.CallToBl r.R_LARCH_B26 by_branch ∷ []
loongarch_entries r.R_LARCH_TLS_IE_PC_HI20 =
    entry kinds.ReplaceWithNop r.R_LARCH_NONE (to_short_local_exec [])
    ∷ entry kinds.PcalaToLu12i r.R_LARCH_TLS_LE_HI20 to_local_exec ∷ []
loongarch_entries r.R_LARCH_TLS_IE_PC_LO12 =
    entry kinds.LowToOriZero r.R_LARCH_TLS_LE_LO12 (to_short_local_exec [])
    ∷ entry kinds.LowToOri r.R_LARCH_TLS_LE_LO12 to_local_exec ∷ []
loongarch_entries r.R_LARCH_TLS_DESC_PC_HI20 =
    left_out to_short_local_exec
    (entry kinds.PcalaToLu12i r.R_LARCH_TLS_LE_HI20 to_local_exec
    ∷ entry kinds.NoOp r.R_LARCH_TLS_IE_PC_HI20 page_to_initial_exec
    ∷ entry kinds.PcalaToPcaddi r.R_LARCH_TLS_DESC_PCREL20_S2 (descriptor_by_pcaddi 0) ∷ [])
loongarch_entries r.R_LARCH_TLS_DESC_PC_LO12 =
    entry kinds.LowToOriZero r.R_LARCH_TLS_LE_LO12 (to_short_local_exec [])
    ∷ entry kinds.LowToOri r.R_LARCH_TLS_LE_LO12 to_local_exec
    ∷ entry kinds.AddiToLd r.R_LARCH_TLS_IE_PC_LO12 (to_initial_exec [])
    ∷ entry kinds.Delete r.R_LARCH_NONE (descriptor_by_pcaddi 4) ∷ []
loongarch_entries r.R_LARCH_TLS_DESC_LD = left_out to_initial_exec []
loongarch_entries r.R_LARCH_TLS_DESC_CALL = left_out to_initial_exec []
loongarch_entries r.R_LARCH_TLS_LE_HI20_R = entry kinds.Delete r.R_LARCH_NONE by_low_part ∷ []
loongarch_entries r.R_LARCH_TLS_LE_ADD_R = entry kinds.Delete r.R_LARCH_NONE by_low_part ∷ []
loongarch_entries r.R_LARCH_TLS_LE_LO12_R =
    entry kinds.BaseToTp r.R_LARCH_TLS_LE_LO12_R by_low_part ∷ []
loongarch_entries name = []

-- ---- the choice

-- What the relocation requires is there, and the conditions hold. No rewrite of LoongArch moves the
-- offset or the addend.
abbrev pub LoongArchApplies : LoongArch64Relocation → List ℕ → ℕ → LinkFacts → LoongArchEntry
    → Type 0
LoongArchApplies name = Applies (HasPattern name) loongarch_row (λ kind o operands. operands)

-- that of the first entry that applies, and else to leave the instruction and the relocation
abbrev pub IsLoongArchChoice : LoongArch64Relocation → List ℕ → ℕ → LinkFacts → LoongArchChoice
    → Type 0
IsLoongArchChoice name section o facts chosen =
    IsFirst (LoongArchApplies name section o facts) (loongarch_entries name)
    (choice kinds.NoOp name) chosen

-- ---- the relocations of a pair or of a sequence

abbrev pub IsAmong : LoongArchChoice × LoongArchChoice → List (LoongArchChoice × LoongArchChoice)
    → Type 0
IsAmong x [] = ⊥
IsAmong x (y ∷ ys) = (x ≡ y) ⊎ IsAmong x ys

-- Two relocations, n bytes apart, with the same facts but for the place, where P holds: both
-- choices are those of one line, or both relocations are left.
abbrev pub AreChosenAlikeIf : (List ℕ → ℕ → LinkFacts → Type 0) → ℕ → LoongArch64Relocation
    → LoongArch64Relocation → List (LoongArchChoice × LoongArchChoice) → Type 0
AreChosenAlikeIf P n first second lines =
    (section : List ℕ) (o : ℕ) (facts : LinkFacts) (a b : LoongArchChoice) → P section o facts
    → o + n < 2 ^ 64 → IsLoongArchChoice first section o facts a
    → IsLoongArchChoice second section (o + n) (facts_on n facts) b
    → IsAmong (a, b) (lines ++ (choice kinds.NoOp first, choice kinds.NoOp second) ∷ [])

-- the same everywhere
abbrev pub AreChosenAlike : ℕ → LoongArch64Relocation → LoongArch64Relocation
    → List (LoongArchChoice × LoongArchChoice) → Type 0
AreChosenAlike n first second lines =
    (section : List ℕ) (o : ℕ) (facts : LinkFacts) (a b : LoongArchChoice) → o + n < 2 ^ 64
    → IsLoongArchChoice first section o facts a
    → IsLoongArchChoice second section (o + n) (facts_on n facts) b
    → IsAmong (a, b) (lines ++ (choice kinds.NoOp first, choice kinds.NoOp second) ∷ [])

-- `group_fits` is set only where this relocation, which is one of the group, fits.
abbrev pub GroupHas : LoongArch64Relocation → List ℕ → ℕ → LinkFacts → Type 0
GroupHas name section o facts =
    facts.group_fits ≡ true
    → Fits (IsLoongArchChoice name section o) (choice kinds.NoOp name) facts

abbrev pub GotPairIsChosenAlike : Type 0
GotPairIsChosenAlike =
    AreChosenAlikeIf (GroupHas r.R_LARCH_GOT_PC_HI20) 4 r.R_LARCH_GOT_PC_HI20
    r.R_LARCH_GOT_PC_LO12
    ((choice kinds.PcalaToPcaddi r.R_LARCH_PCREL20_S2, choice kinds.Delete r.R_LARCH_NONE)
    ∷ (choice kinds.NoOp r.R_LARCH_PCALA_HI20, choice kinds.LdToAddi r.R_LARCH_PCALA_LO12) ∷ [])

-- A pair of `pcalau12i rd` and `addi.d rd, rd` of a GOT entry for general- or local-dynamic
abbrev pub EntryPairIsChosenAlike : LoongArch64Relocation → LoongArch64Relocation → Type 0
EntryPairIsChosenAlike high near =
    AreChosenAlikeIf (λ section o facts. IsPair IsAddi section o) 4 high r.R_LARCH_GOT_PC_LO12
    ((choice kinds.PcalaToPcaddi near, choice kinds.DeleteAddi r.R_LARCH_NONE) ∷ [])

abbrev pub EntryPairsAreChosenAlike : Type 0
EntryPairsAreChosenAlike =
    EntryPairIsChosenAlike r.R_LARCH_TLS_GD_PC_HI20 r.R_LARCH_TLS_GD_PCREL20_S2
    × EntryPairIsChosenAlike r.R_LARCH_TLS_LD_PC_HI20 r.R_LARCH_TLS_LD_PCREL20_S2

abbrev pub AddressPairIsChosenAlike : Type 0
AddressPairIsChosenAlike =
    AreChosenAlike 4 r.R_LARCH_PCALA_HI20 r.R_LARCH_PCALA_LO12
    ((choice kinds.PcalaToPcaddi r.R_LARCH_PCREL20_S2, choice kinds.Delete r.R_LARCH_NONE) ∷ [])

-- Two relocations, wherever both are, by the same facts but for the place, of which P holds: where
-- each is at an instruction that it requires, both choices are those of one line, or both
-- relocations are left.
abbrev pub AreChosenAlikeApart : (LinkFacts → Type 0) → LoongArch64Relocation
    → LoongArch64Relocation → List (LoongArchChoice × LoongArchChoice) → Type 0
AreChosenAlikeApart P first second lines =
    (section other : List ℕ) (o p n : ℕ) (facts : LinkFacts) (a b : LoongArchChoice) → P facts
    → HasPattern first kinds.NoOp section o → HasPattern second kinds.NoOp other p
    → IsLoongArchChoice first section o facts a
    → IsLoongArchChoice second other p (facts_on n facts) b
    → IsAmong (a, b) (lines ++ (choice kinds.NoOp first, choice kinds.NoOp second) ∷ [])

abbrev pub InitialExecIsChosenAlike : Type 0
InitialExecIsChosenAlike =
    AreChosenAlikeApart (λ facts. ⊤) r.R_LARCH_TLS_IE_PC_HI20 r.R_LARCH_TLS_IE_PC_LO12
    ((
      choice kinds.ReplaceWithNop r.R_LARCH_NONE,
      choice kinds.LowToOriZero r.R_LARCH_TLS_LE_LO12,
    )
    ∷ (
      choice kinds.PcalaToLu12i r.R_LARCH_TLS_LE_HI20,
      choice kinds.LowToOri r.R_LARCH_TLS_LE_LO12,
    ) ∷ [])

-- the high half reaches the entry of initial-exec, unless no address is known
abbrev pub ReachesEntry : LinkFacts → Type 0
ReachesEntry facts =
    ConditionHolds loongarch_row facts.operands facts
    (within_if_known r.R_LARCH_TLS_IE_PC_HI20 signed_32 0)

abbrev pub deleted : LoongArchChoice
deleted = choice kinds.Delete r.R_LARCH_NONE

abbrev pub erased : LoongArchChoice
erased = choice kinds.ReplaceWithNop r.R_LARCH_NONE

-- the choices for the `pcalau12i` of a TLS descriptor: for local-exec by two instructions, for
-- initial-exec, and for a descriptor that stays
abbrev pub high_offset : LoongArchChoice
high_offset = choice kinds.PcalaToLu12i r.R_LARCH_TLS_LE_HI20

abbrev pub page_of_entry : LoongArchChoice
page_of_entry = choice kinds.NoOp r.R_LARCH_TLS_IE_PC_HI20

abbrev pub near_descriptor : LoongArchChoice
near_descriptor = choice kinds.PcalaToPcaddi r.R_LARCH_TLS_DESC_PCREL20_S2

-- with those for the `addi.d`
abbrev pub with_low : List (LoongArchChoice × LoongArchChoice)
with_low =
    (deleted, choice kinds.LowToOriZero r.R_LARCH_TLS_LE_LO12)
    ∷ (erased, choice kinds.LowToOriZero r.R_LARCH_TLS_LE_LO12)
    ∷ (high_offset, choice kinds.LowToOri r.R_LARCH_TLS_LE_LO12)
    ∷ (page_of_entry, choice kinds.AddiToLd r.R_LARCH_TLS_IE_PC_LO12)
    ∷ (near_descriptor, deleted) ∷ []

-- where it is elsewhere than next to the `pcalau12i` of a descriptor that stays
abbrev pub parted : List (LoongArchChoice × LoongArchChoice)
parted =
    (near_descriptor, choice kinds.NoOp r.R_LARCH_TLS_DESC_PC_LO12)
    ∷ (choice kinds.NoOp r.R_LARCH_TLS_DESC_PC_HI20, deleted) ∷ []

-- with those for the `ld.d` or the `jirl`
abbrev pub with_call : LoongArch64Relocation → List (LoongArchChoice × LoongArchChoice)
with_call name =
    (deleted, deleted) ∷ (erased, erased) ∷ (high_offset, deleted) ∷ (high_offset, erased)
    ∷ (page_of_entry, deleted) ∷ (page_of_entry, erased)
    ∷ (near_descriptor, choice kinds.NoOp name) ∷ []

-- one of the other relocations of a TLS descriptor with the first one
abbrev pub DescriptorIsChosenAlike : LoongArch64Relocation
    → List (LoongArchChoice × LoongArchChoice) → Type 0
DescriptorIsChosenAlike = AreChosenAlikeApart ReachesEntry r.R_LARCH_TLS_DESC_PC_HI20

-- the first two, next to each other
abbrev pub AddressOfDescriptorIsChosenAlike : Type 0
AddressOfDescriptorIsChosenAlike =
    AreChosenAlikeIf
    (λ section o facts. ReachesEntry facts
    × HasPattern r.R_LARCH_TLS_DESC_PC_HI20 kinds.NoOp section o
    × HasPattern r.R_LARCH_TLS_DESC_PC_LO12 kinds.NoOp section (o + 4))
    4 r.R_LARCH_TLS_DESC_PC_HI20 r.R_LARCH_TLS_DESC_PC_LO12 with_low

abbrev pub DescriptorsAreChosenAlike : Type 0
DescriptorsAreChosenAlike =
    DescriptorIsChosenAlike r.R_LARCH_TLS_DESC_PC_LO12 (with_low ++ parted)
    × AddressOfDescriptorIsChosenAlike
    × DescriptorIsChosenAlike r.R_LARCH_TLS_DESC_LD (with_call r.R_LARCH_TLS_DESC_LD)
    × DescriptorIsChosenAlike r.R_LARCH_TLS_DESC_CALL (with_call r.R_LARCH_TLS_DESC_CALL)

-- The `lu12i.w` of an offset from the thread pointer with its `add.d` or a low part, wherever both
-- are, with the same facts but for the place: where each is an instruction that its relocation
-- requires, both are rewritten, or both relocations are left.
abbrev pub OfThreadOffsetIsChosenAlike : LoongArch64Relocation → LoongArchChoice → Type 0
OfThreadOffsetIsChosenAlike name chosen =
    (section : List ℕ) (o p n : ℕ) (facts : LinkFacts) (a b : LoongArchChoice)
    → HasPattern r.R_LARCH_TLS_LE_HI20_R kinds.Delete section o
    → HasPattern name chosen.kind section p
    → IsLoongArchChoice r.R_LARCH_TLS_LE_HI20_R section o facts a
    → IsLoongArchChoice name section p (facts_on n facts) b
    → IsAmong (a, b) ((choice kinds.Delete r.R_LARCH_NONE, chosen)
    ∷ (choice kinds.NoOp r.R_LARCH_TLS_LE_HI20_R, choice kinds.NoOp name) ∷ [])

abbrev pub ThreadOffsetIsChosenAlike : Type 0
ThreadOffsetIsChosenAlike =
    OfThreadOffsetIsChosenAlike r.R_LARCH_TLS_LE_ADD_R (choice kinds.Delete r.R_LARCH_NONE)
    × OfThreadOffsetIsChosenAlike r.R_LARCH_TLS_LE_LO12_R
    (choice kinds.BaseToTp r.R_LARCH_TLS_LE_LO12_R)

-- ---- the rewrites of the crate `linker-utils`

-- the rewrite of the same name
abbrev pub loongarch_rewrite_kind : RelaxationKind → RewriteKind
loongarch_rewrite_kind originals.NoOp = kinds.NoOp
loongarch_rewrite_kind originals.ReplaceWithNop = kinds.ReplaceWithNop
