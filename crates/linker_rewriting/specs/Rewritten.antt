-- A section and its relocations after their rewrites.
use Rattle.std.specs.Prelude.{◌≡◌, ◌≢◌, ℕ, ◌+◌, ◌-◌, ◌<◌, ◌≤◌, ◌/◌, ◌⊎◌, ◌↔◌, List, length, get_or}
use Rattle.std.specs.Prelude.{Option, None, Some, true, false}
use Rattle.linker_rewriting.specs.Imports.{AArch64, Architecture, Choice, Consumed, Decision, Group}
use Rattle.linker_rewriting.specs.Imports.{IsNameOf, Kept, LoongArch64, OutputFacts, Phase, Rela}
use Rattle.linker_rewriting.specs.Imports.{Relaxation, Rewrite, Rewritten, RewrittenWithSymbol}
use Rattle.linker_rewriting.specs.Imports.{SymbolFacts, UnrelaxableGroups, aarch64_name}
use Rattle.linker_rewriting.specs.Imports.{addend_after, offset_after, relaxation_rewrite}
use Rattle.linker_rewriting.specs.Imports.{relocation_in, rewrite_window, rewritten}
use Rattle.linker_elf.specs.declared.aarch64.relocations.AArch64Relocation.{AArch64Relocation}
use Rattle.linker_rewriting.specs.Decisions.{decision_at, is_taken, start_at, written_end_at}
use Rattle.linker_rewriting.specs.Decisions.{AreDecidedIn, AreApart, AreClear, AllStillFit}
use Rattle.linker_rewriting.specs.Facts.{RelaxContext, pre_layout}
use Rattle.linker_rewriting.specs.Groups.{IsInGroupIn, symbol_of_group}
use Rattle.linker_rewriting.specs.RiscVPcrelGroups.{IsInLabel, IsHighIn}
use Rattle.linker_elf.specs.declared.aarch64.relocations.AArch64Relocation.TheVariants as names
use Rattle.linker_rewriting.specs.Sequences.{are_members, marked_load}
use Rattle.linker_utils.specs.declared.aarch64.rewrites.RewriteKind.{RewriteKind}
use Rattle.linker_utils.specs.declared.aarch64.rewrites.RewriteKind.TheVariants as kinds
use Rattle.linker_utils.specs.declared.architecture.Relaxation.TheVariants as relaxations

-- ---- relocations

-- one that goes gets the type 0, so that indexes stay
abbrev pub relocation_after : Decision → Rela → Rela
relocation_after Kept r = r
relocation_after Consumed r = record r { r_type = 0 }
relocation_after (Rewritten chosen) r =
    record {
      offset = offset_after (relaxation_rewrite chosen.kind) r.offset;
      r_type = chosen.relocation;
      symbol = r.symbol;
      addend = addend_after (relaxation_rewrite chosen.kind) r.addend;
    }
relocation_after (RewrittenWithSymbol chosen subject) r =
    record {
      offset = offset_after (relaxation_rewrite chosen.kind) r.offset;
      r_type = chosen.relocation;
      symbol = subject.symbol;
      addend = addend_after (relaxation_rewrite chosen.kind) subject.addend;
    }

-- what the relocations with an index below a limit become
abbrev pub AreRelocationsAfter : List Decision → List ℕ → List ℕ → ℕ → Type 0
AreRelocationsAfter decisions before after limit =
    (n : ℕ) → n < limit
    → relocation_in after n ≡ relocation_after (decision_at decisions n) (relocation_in before n)

-- ---- bytes

-- the section after one rewrite
abbrev pub section_after : Decision → ℕ → List ℕ → List ℕ
section_after (Rewritten chosen) offset section =
    rewritten (relaxation_rewrite chosen.kind) section offset
section_after (RewrittenWithSymbol chosen subject) offset section =
    rewritten (relaxation_rewrite chosen.kind) section offset
section_after decision offset section = section

-- the window has the bytes that the rewrite makes of those before it
abbrev pub IsMade : Option Rewrite → ℕ → List ℕ → List ℕ → Type 0
IsMade None offset before after = Unit {0}
IsMade (Some r) offset before after =
    rewrite_window r after offset ≡ r.bytes (rewrite_window r before offset)

abbrev pub IsDone : Decision → ℕ → List ℕ → List ℕ → Type 0
IsDone (Rewritten chosen) offset before after =
    IsMade (relaxation_rewrite chosen.kind) offset before after
IsDone (RewrittenWithSymbol chosen subject) offset before after =
    IsMade (relaxation_rewrite chosen.kind) offset before after
IsDone decision offset before after = Unit {0}

-- the windows of all rewrites at relocations with an index below a limit do
abbrev pub AreDone : List ℕ → List Decision → List ℕ → List ℕ → ℕ → Type 0
AreDone bytes decisions before after limit =
    (n : ℕ) → n < limit
    → IsDone (decision_at decisions n) (relocation_in bytes n).offset before after

-- outside the windows of all rewrites
abbrev pub OthersStay : List ℕ → List Decision → List ℕ → List ℕ → ℕ → Type 0
OthersStay bytes decisions before after limit =
    (at : ℕ)
    → ((n : ℕ) → n < limit
    → (at < start_at bytes decisions n) ⊎ (written_end_at bytes decisions n ≤ at))
    → get_or after at 0 ≡ get_or before at 0

-- ---- groups

abbrev pub IsRewritten : Decision → Type 0
IsRewritten (Rewritten chosen) = Unit {0}
IsRewritten (RewrittenWithSymbol chosen subject) = Unit {0}
IsRewritten decision = ⊥

-- of a group the relocations that no other takes along are all rewritten, or none is
abbrev pub GroupsAreWholeIn : Architecture → Phase → List ℕ → List Decision → ℕ → Type 0
GroupsAreWholeIn architecture phase bytes decisions limit =
    (i j : ℕ) (group : Group) → i < limit → j < limit
    → IsInGroupIn architecture phase (relocation_in bytes i).r_type group
    → IsInGroupIn architecture phase (relocation_in bytes j).r_type group
    → symbol_of_group group (relocation_in bytes i).symbol
    ≡ symbol_of_group group (relocation_in bytes j).symbol
    → is_taken decisions i ≡ false → is_taken decisions j ≡ false
    → IsRewritten (decision_at decisions i) → IsRewritten (decision_at decisions j)

-- In two sections of an object that are decided by one table, each at its address, all of a group
-- are rewritten too, or none is.
abbrev pub GroupsAreWholeAcross : Type 0
GroupsAreWholeAcross =
    (s other : RelaxContext) (kept : List UnrelaxableGroups)
    (bytes section others_bytes others_section : List ℕ)
    (decisions others : List Decision) (limit others_limit : ℕ)
    → AreDecidedIn s kept bytes section decisions limit
    → AreDecidedIn other kept others_bytes others_section others others_limit
    → (i j : ℕ) (group : Group) → i < limit → j < others_limit
    → IsInGroupIn s.architecture s.phase (relocation_in bytes i).r_type group
    → IsInGroupIn other.architecture other.phase (relocation_in others_bytes j).r_type group
    → symbol_of_group group (relocation_in bytes i).symbol
    ≡ symbol_of_group group (relocation_in others_bytes j).symbol
    → is_taken decisions i ≡ false → is_taken others j ≡ false
    → IsRewritten (decision_at decisions i) → IsRewritten (decision_at others j)

-- ---- a section

-- It is rewritten as decided, all of a group or none. What is rewritten is apart, and has no byte
-- of the field of another relocation. All other bytes stay.
pub record IsRewrittenAs (s : RelaxContext) (kept : List UnrelaxableGroups)
    (bytes bytes_after section section_after : List ℕ) (decisions : List Decision) : Type 0 where
  pub decided : AreDecidedIn s kept bytes section decisions (length bytes / 24)
  pub groups : GroupsAreWholeIn s.architecture s.phase bytes decisions (length bytes / 24)
  pub apart : AreApart bytes decisions (length bytes / 24)
  pub clear : AreClear s.architecture bytes section decisions (length bytes / 24)
  pub relocations : AreRelocationsAfter decisions bytes bytes_after (length bytes / 24)
  pub done : AreDone bytes decisions section section_after (length bytes / 24)
  pub others : OthersStay bytes decisions section section_after (length bytes / 24)

-- it is decided, and neither it nor its relocations are written
pub record AreDecidedAs (s : RelaxContext) (kept : List UnrelaxableGroups) (bytes section : List ℕ)
    (decisions : List Decision) (numbers : List ℕ) : Type 0 where
  pub decided : AreDecidedIn s kept bytes section decisions (length bytes / 24)
  pub groups : GroupsAreWholeIn s.architecture s.phase bytes decisions (length bytes / 24)
  pub fit : AllStillFit bytes section decisions numbers (length bytes / 24)
  pub apart : AreApart bytes decisions (length bytes / 24)
  pub clear : AreClear s.architecture bytes section decisions (length bytes / 24)

-- it is rewritten as was decided
pub record AreMadeAs (bytes bytes_after section section_after : List ℕ) (decisions : List Decision)
    (numbers : List ℕ) : Type 0 where
  pub enough : length bytes / 24 ≤ length decisions
  pub fit : AllStillFit bytes section decisions numbers (length bytes / 24)
  pub apart : AreApart bytes decisions (length bytes / 24)
  pub relocations : AreRelocationsAfter decisions bytes bytes_after (length bytes / 24)
  pub done : AreDone bytes decisions section section_after (length bytes / 24)
  pub others : OthersStay bytes decisions section section_after (length bytes / 24)

-- ---- labels

-- of one label the relocations that no other takes along are all rewritten, or none is
abbrev pub LabelsAreWhole : RelaxContext → List ℕ → List Decision → ℕ → Type 0
LabelsAreWhole s bytes decisions limit =
    (i j high : ℕ) → i < limit → j < limit
    → IsInLabel s.architecture s.phase (relocation_in bytes i).r_type true
    → IsInLabel s.architecture s.phase (relocation_in bytes j).r_type true
    → IsHighIn s bytes (relocation_in bytes i) (Some high)
    → IsHighIn s bytes (relocation_in bytes j) (Some high)
    → is_taken decisions i ≡ false → is_taken decisions j ≡ false
    → IsRewritten (decision_at decisions i) → IsRewritten (decision_at decisions j)

-- ---- sequences of AArch64

-- The relocation at an index has a name and is n bytes after the one at the first index, of its
-- symbol and addend.
pub record IsPartAt (bytes : List ℕ) (first n i : ℕ) (name : AArch64Relocation) : Type 0 where
  pub below : i < length bytes / 24
  pub is_name : IsNameOf aarch64_name (relocation_in bytes i).r_type name
  pub offset : (relocation_in bytes i).offset ≡ (relocation_in bytes first).offset + n
  pub symbol : (relocation_in bytes i).symbol ≡ (relocation_in bytes first).symbol
  pub addend : (relocation_in bytes i).addend ≡ (relocation_in bytes first).addend

-- an instruction is rewritten by a kind
pub record IsRewrittenBy (kind : RewriteKind) (decision : Decision) : Type 0 where
  pub chosen : Choice Relaxation ℕ
  pub decided : decision ≡ Rewritten chosen
  pub kind_is : chosen.kind ≡ relaxations.AArch64 kind

-- From an index on there are the relocations of a TLS descriptor. All are rewritten, the first two
-- by two kinds.
pub record IsDescriptorRewritten (high low : RewriteKind) (bytes : List ℕ)
    (decisions : List Decision) (first : ℕ) : Type 0 where
  pub page : IsPartAt bytes first 0 first names.R_AARCH64_TLSDESC_ADR_PAGE21
  pub load : IsPartAt bytes first 4 (first + 1) names.R_AARCH64_TLSDESC_LD64_LO12
  pub add : IsPartAt bytes first 8 (first + 2) names.R_AARCH64_TLSDESC_ADD_LO12
  pub call : IsPartAt bytes first 12 (first + 3) names.R_AARCH64_TLSDESC_CALL
  pub page_decided : IsRewrittenBy high (decision_at decisions first)
  pub load_decided : IsRewrittenBy low (decision_at decisions (first + 1))
  pub add_decided : IsRewrittenBy kinds.ReplaceWithNop (decision_at decisions (first + 2))
  pub call_decided : IsRewrittenBy kinds.ReplaceWithNop (decision_at decisions (first + 3))

-- those of a load from the GOT
pub record IsLoadRewritten (bytes : List ℕ) (decisions : List Decision) (first : ℕ) : Type 0 where
  pub page : IsPartAt bytes first 0 first names.R_AARCH64_ADR_GOT_PAGE
  pub low : IsPartAt bytes first 4 (first + 1) names.R_AARCH64_LD64_GOT_LO12_NC
  pub page_decided : IsRewrittenBy kinds.NoOp (decision_at decisions first)
  pub low_decided : IsRewrittenBy kinds.LdrToAdd (decision_at decisions (first + 1))

-- those of an address by its page, which the second takes along
pub record IsAddressRewritten (bytes : List ℕ) (decisions : List Decision) (first : ℕ) : Type 0
  where
    pub page : IsPartAt bytes first 0 first names.R_AARCH64_ADR_PREL_PG_HI21
    pub low : IsPartAt bytes first 4 (first + 1) names.R_AARCH64_ADD_ABS_LO12_NC
    pub page_decided : decision_at decisions first ≡ Consumed
    pub low_decided : IsRewrittenBy kinds.AdrpAddToNopAdr (decision_at decisions (first + 1))

-- all of a descriptor, for local-exec or for initial-exec
abbrev pub IsDescriptorWhole : List ℕ → List Decision → ℕ → Type 0
IsDescriptorWhole bytes decisions first =
    IsDescriptorRewritten kinds.MovzX0Lsl16 kinds.MovkX0 bytes decisions first
    ⊎ IsDescriptorRewritten kinds.AdrpX0 kinds.LdrX0 bytes decisions first

-- The sequence begins n relocations before an index.
abbrev pub Before : ℕ → (List ℕ → List Decision → ℕ → Type 0) → List ℕ → List Decision → ℕ
    → Type 0
Before n Holds bytes decisions i = (n ≤ i) × Holds bytes decisions (i - n)

-- what holds of the sequence that a relocation of a name is in; nothing of others
abbrev pub IsWholeBy : AArch64Relocation → List ℕ → List Decision → ℕ → Type 0
IsWholeBy names.R_AARCH64_TLSDESC_ADR_PAGE21 = Before 0 IsDescriptorWhole
IsWholeBy names.R_AARCH64_TLSDESC_LD64_LO12 = Before 1 IsDescriptorWhole
IsWholeBy names.R_AARCH64_TLSDESC_ADD_LO12 = Before 2 IsDescriptorWhole
IsWholeBy names.R_AARCH64_TLSDESC_CALL = Before 3 IsDescriptorWhole
IsWholeBy names.R_AARCH64_ADR_GOT_PAGE = Before 0 IsLoadRewritten
IsWholeBy names.R_AARCH64_LD64_GOT_LO12_NC = Before 1 IsLoadRewritten
IsWholeBy names.R_AARCH64_ADR_PREL_PG_HI21 = Before 0 IsAddressRewritten
IsWholeBy names.R_AARCH64_ADD_ABS_LO12_NC = Before 1 IsAddressRewritten
IsWholeBy name = λ bytes decisions i. Unit

-- Where one relocation of a sequence doesn't stay, all of the sequence are there, and each is
-- rewritten or taken along.
abbrev pub SequencesAreWhole : Type 0
SequencesAreWhole =
    (s : RelaxContext) (kept : List UnrelaxableGroups) (bytes section : List ℕ)
    (decisions : List Decision) (i : ℕ) (name : AArch64Relocation)
    → s.architecture ≡ AArch64
    → AreDecidedIn s kept bytes section decisions (length bytes / 24) → i < length bytes / 24
    → IsNameOf aarch64_name (relocation_in bytes i).r_type name → decision_at decisions i ≢ Kept
    → IsWholeBy name bytes decisions i

-- ---- pairs

-- the relocations from an index on are those of a marked load from LoongArch's GOT
abbrev pub IsLoadAt : List ℕ → ℕ → Type 0
IsLoadAt bytes n =
    are_members marked_load bytes n 0 (relocation_in bytes n).offset (relocation_in bytes n) ≡ true

-- Both instructions of such a load are rewritten, or neither is. The second one's relocation is the
-- next but one, after the first one's mark.
abbrev pub LoadsAreWhole : Type 0
LoadsAreWhole =
    (output : OutputFacts) (symbols : List SymbolFacts) (kept : List UnrelaxableGroups)
    (bytes section : List ℕ) (decisions : List Decision) (limit n : ℕ)
    → AreDecidedIn (pre_layout LoongArch64 output symbols) kept bytes section decisions limit
    → n + 2 < limit → limit ≤ length bytes / 24 → IsLoadAt bytes n
    → is_taken decisions n ≡ false → is_taken decisions (n + 2) ≡ false
    → (IsRewritten (decision_at decisions n) ↔ IsRewritten (decision_at decisions (n + 2)))
