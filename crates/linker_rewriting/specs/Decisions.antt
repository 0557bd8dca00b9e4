-- What becomes of a section's relocations and of their instructions.
use Rattle.std.specs.Prelude.{◌≡◌, ℕ, zero, suc, ◌+◌, ◌-◌, ◌*◌, ◌^◌, ◌%◌, ◌<◌, ◌≤◌, ◌/◌, ◌⊎◌, ◌++◌}
use Rattle.std.specs.Prelude.{max, Bool, true, false, IsTrue, ◌↔◌, List, [], ◌∷◌, length, get_or}
use Rattle.std.specs.Prelude.{map, Option, Some, None, is_some, ◌≢◌, ◌==◌, All, take, drop}
use Rattle.linker_rewriting.specs.Imports.{Architecture, CanRewrite, Choice, Consumed}
use Rattle.linker_rewriting.specs.Imports.{Contradiction, Decision, Deletion, FirstOfPair, Group}
use Rattle.linker_rewriting.specs.Imports.{Grouped, IfGroupMatches, Independent, Kept, Labelled}
use Rattle.linker_rewriting.specs.Imports.{NotRelaxable, NotSurveyed, OutputFacts, Overlaps, Phase}
use Rattle.linker_rewriting.specs.Imports.{Rela, Relaxation, RewritingError, Rewritten}
use Rattle.linker_rewriting.specs.Imports.{RewrittenWithSymbol, Scope, Symbol, SymbolFacts}
use Rattle.linker_rewriting.specs.Imports.{TlsLocalExec, TooShort, UnrelaxableGroups, offset_at}
use Rattle.linker_rewriting.specs.Imports.{r_type_of, relaxation_deleted, relaxation_matches}
use Rattle.linker_rewriting.specs.Imports.{relaxation_rewrite, relaxation_skipped, relocation_at}
use Rattle.linker_rewriting.specs.Imports.{relocation_in, riscv_name}
use Rattle.linker_base.specs.declared.rewrite.DeletedBytes.{DeletedBytes}
use Rattle.linker_base.specs.RewriteWindow.{window_of_rewrite}
use Rattle.linker_base.specs.declared.rewrite.RewriteWindow.{RewriteWindow}
use Rattle.linker_elf.specs.declared.elf.RowInfo.{RowInfo}
use Rattle.linker_rewriting.specs.Agreement.{Agree, IsContradiction}
use Rattle.linker_rewriting.specs.Candidates.{IsCandidate, deletes_within}
use Rattle.linker_rewriting.specs.Facts.{RelaxContext, pre_layout}
use Rattle.linker_rewriting.specs.Groups.{IsScopeIn, group_stays, stays_at}
use Rattle.linker_rewriting.specs.RiscVPcrelGroups.{IsHighIn, IsLabelCandidate, LabelStays}
use Rattle.linker_rewriting.specs.RiscVPcrelGroups.{LabelFits}
use Rattle.linker_rewriting.specs.declared.decisions.DecisionError.{DecisionError}
use Rattle.linker_rewriting.specs.declared.decisions.DecisionError.TheVariants as errors
use Rattle.linker_section.specs.Fields.{IsField, field_end}
use Rattle.linker_elf.specs.declared.riscv64.relocations.RiscVRelocation.TheVariants as riscv64

-- ---- one decision

-- the next relocation goes
abbrev pub takes_next : Decision → Bool
takes_next (Rewritten chosen) = is_some (relaxation_skipped chosen.kind)
takes_next (RewrittenWithSymbol chosen subject) = is_some (relaxation_skipped chosen.kind)
takes_next decision = false

-- the bytes that are rewritten, beside the relocation's offset
abbrev pub window_of : Decision → RewriteWindow
window_of (Rewritten chosen) = window_of_rewrite (relaxation_rewrite chosen.kind)
window_of (RewrittenWithSymbol chosen subject) = window_of_rewrite (relaxation_rewrite chosen.kind)
window_of decision = record { back = 0; len = 0 }

-- those that are deleted after it
abbrev pub deleted_of : Decision → Option DeletedBytes
deleted_of (Rewritten chosen) = relaxation_deleted chosen.kind
deleted_of (RewrittenWithSymbol chosen subject) = relaxation_deleted chosen.kind
deleted_of decision = None

-- they are in the section, and the window is one that the rewrite takes
abbrev pub CanBeMade : Decision → List ℕ → ℕ → Type 0
CanBeMade (Rewritten chosen) section offset =
    CanRewrite (relaxation_rewrite chosen.kind) section offset
    × (deletes_within section offset (relaxation_deleted chosen.kind) ≡ true)
CanBeMade (RewrittenWithSymbol chosen subject) section offset =
    CanRewrite (relaxation_rewrite chosen.kind) section offset
    × (deletes_within section offset (relaxation_deleted chosen.kind) ≡ true)
CanBeMade decision section offset = Unit {0}

-- its instructions are those that the rewrite is meant for
abbrev pub Matches : Decision → List ℕ → ℕ → Type 0
Matches (Rewritten chosen) section offset = relaxation_matches chosen.kind section offset
Matches (RewrittenWithSymbol chosen subject) section offset =
    relaxation_matches chosen.kind section offset
Matches decision section offset = Unit {0}

-- both
abbrev pub IsThere : Decision → List ℕ → ℕ → Type 0
IsThere decision section offset =
    CanBeMade decision section offset × Matches decision section offset

abbrev pub decision_of : Option (Choice Relaxation ℕ) → Decision
decision_of None = Kept
decision_of (Some chosen) = Rewritten chosen

-- a relocation of a group that stays, and of one that doesn't: it has a rewrite
abbrev pub IsGroupDecision : RelaxContext → List ℕ → List ℕ → ℕ
    → Rela → Bool → Decision → Type 0
IsGroupDecision s bytes section n r true decision = decision ≡ Kept
IsGroupDecision s bytes section n r false decision =
    (chosen : Choice Relaxation ℕ)
    × IsCandidate s bytes section n r (Some chosen)
    × (decision ≡ Rewritten chosen)

-- a relocation of a group that stays, and of one that doesn't: it is rewritten if it can be
abbrev pub IsMatchedDecision : RelaxContext → List ℕ → List ℕ → ℕ → Rela → Bool → Decision → Type 0
IsMatchedDecision s bytes section n r true decision = decision ≡ Kept
IsMatchedDecision s bytes section n r false decision =
    (candidate : Option (Choice Relaxation ℕ)) × IsCandidate s bytes section n r candidate
    × (decision ≡ decision_of candidate)

-- whether one alone is rewritten
abbrev pub IsRewrittenAlone : RelaxContext → List ℕ → List ℕ → ℕ → Rela → Scope → Bool → Type 0
IsRewrittenAlone s bytes section n r Independent is_rewritten =
    (candidate : Option (Choice Relaxation ℕ))
    × IsCandidate s bytes section n r candidate × (is_rewritten ≡ is_some candidate)
IsRewrittenAlone s bytes section n r scope is_rewritten = is_rewritten ≡ false

-- and there is one with an index
abbrev pub IsRewrittenAt : RelaxContext → List ℕ → List ℕ → ℕ → Option Rela → Bool → Type 0
IsRewrittenAt s bytes section n None is_rewritten = is_rewritten ≡ false
IsRewrittenAt s bytes section n (Some r) is_rewritten =
    (scope : Scope) × IsScopeIn s.architecture s.phase r.r_type scope
    × IsRewrittenAlone s bytes section n r scope is_rewritten

-- it goes with the next one
abbrev pub decision_ahead : Bool → Decision
decision_ahead true = Consumed
decision_ahead false = Kept

-- whether a relocation of a label gets the symbol and the addend of its high part: all of a TLS
-- descriptor, and a low part of the address itself
abbrev pub takes_symbol : Phase → ℕ → Bool
takes_symbol TlsLocalExec r_type = true
takes_symbol phase r_type = r_type == r_type_of (riscv_name riscv64.R_RISCV_LO12_I)

abbrev pub rewritten_by : Bool → Choice Relaxation ℕ → Rela → Decision
rewritten_by true chosen high =
    RewrittenWithSymbol chosen (record { symbol = high.symbol; addend = high.addend })
rewritten_by false chosen high = Rewritten chosen

abbrev pub label_decision : Phase → Choice Relaxation ℕ → Rela → Decision
label_decision phase chosen high =
    rewritten_by (takes_symbol phase chosen.relocation) chosen high

-- a relocation of a label
abbrev pub IsLabelDecision : RelaxContext → List ℕ → List ℕ → ℕ → Rela → Decision → Type 0
IsLabelDecision s bytes section n r decision =
    (LabelStays s bytes section r × (decision ≡ Kept))
    ⊎ ((high : ℕ) × IsHighIn s bytes r (Some high) × LabelFits s bytes section high
    × (chosen : Choice Relaxation ℕ)
    × IsLabelCandidate s bytes section n r high (Some chosen)
    × (decision ≡ label_decision s.phase chosen (relocation_in bytes high)))

-- by its scope
abbrev pub IsScopeDecision : RelaxContext → List UnrelaxableGroups → List ℕ → List ℕ → ℕ → Rela → Scope
    → Decision → Type 0
IsScopeDecision s kept bytes section n r NotRelaxable decision =
    decision ≡ Kept
IsScopeDecision s kept bytes section n r Independent decision =
    (candidate : Option (Choice Relaxation ℕ))
    × IsCandidate s bytes section n r candidate
    × (decision ≡ decision_of candidate)
IsScopeDecision s kept bytes section n r (Grouped group) decision =
    IsGroupDecision s bytes section n r (group_stays kept group r.symbol)
    decision
IsScopeDecision s kept bytes section n r (IfGroupMatches group) decision =
    IsMatchedDecision s bytes section n r (group_stays kept group r.symbol) decision
IsScopeDecision s kept bytes section n r Labelled decision =
    IsLabelDecision s bytes section n r decision
IsScopeDecision s kept bytes section n r FirstOfPair decision =
    (is_rewritten : Bool)
    × IsRewrittenAt s bytes section (n + 1) (relocation_at bytes (n + 1)) is_rewritten
    × (decision ≡ decision_ahead is_rewritten)

-- of a relocation that no other takes along
abbrev pub IsDecidedAlone : RelaxContext → List UnrelaxableGroups
    → List ℕ → List ℕ → ℕ → Rela → Decision → Type 0
IsDecidedAlone s kept bytes section n r decision =
    (scope : Scope) × IsScopeIn s.architecture s.phase r.r_type scope
    × IsScopeDecision s kept bytes section n r scope decision

-- its group doesn't stay, but it has no rewrite
abbrev pub IsNotSurveyed : RelaxContext → List UnrelaxableGroups
    → List ℕ → List ℕ → ℕ → Rela → Type 0
IsNotSurveyed s kept bytes section n r =
    (group : Group) × IsScopeIn s.architecture s.phase r.r_type (Grouped group)
    × (group_stays kept group r.symbol ≡ false)
    × IsCandidate s bytes section n r None

-- ---- all decisions

abbrev pub decision_at : List Decision → ℕ → Decision
decision_at decisions n = get_or decisions n Kept

-- the decision before takes it along
abbrev pub is_taken : List Decision → ℕ → Bool
is_taken decisions zero = false
is_taken decisions (suc n) = takes_next (decision_at decisions n)

-- of a relocation that the one before takes along, or doesn't
abbrev pub IsDecided : RelaxContext → List UnrelaxableGroups → List ℕ → List ℕ → ℕ → Bool → Rela
    → Decision → Type 0
IsDecided s kept bytes section n true r decision = decision ≡ Consumed
IsDecided s kept bytes section n false r decision = IsDecidedAlone s kept bytes section n r decision

-- what is decided of the relocation with an index
abbrev pub by_index : List ℕ → (ℕ → Bool → Rela → Decision → Type 0) → ℕ → Bool → Decision → Type 0
by_index bytes Decides n taken = Decides n taken (relocation_in bytes n)

abbrev pub IsDecidedAfter : RelaxContext → List UnrelaxableGroups
    → List ℕ → List ℕ → ℕ → Bool → Decision → Type 0
IsDecidedAfter s kept bytes section = by_index bytes (IsDecided s kept bytes section)

-- It is so of what is decided of the relocations with an index below a limit.
abbrev pub AreDecidedBy : (ℕ → Bool → Decision → Type 0) → List Decision → ℕ → Type 0
AreDecidedBy Decides decisions limit =
    (n : ℕ) → n < limit → Decides n (is_taken decisions n) (decision_at decisions n)

abbrev pub AreDecidedIn : RelaxContext → List UnrelaxableGroups → List ℕ
    → List ℕ → List Decision → ℕ → Type 0
AreDecidedIn s kept bytes section = AreDecidedBy (IsDecidedAfter s kept bytes section)

abbrev pub AllCanBeMade : List ℕ → List ℕ → List Decision → ℕ → Type 0
AllCanBeMade bytes section decisions limit =
    (n : ℕ) → n < limit → CanBeMade (decision_at decisions n) section (relocation_in bytes n).offset

abbrev pub AllMatch : List ℕ → List ℕ → List Decision → ℕ → Type 0
AllMatch bytes section decisions limit =
    (n : ℕ) → n < limit → Matches (decision_at decisions n) section (relocation_in bytes n).offset

-- ---- elements at the indexes of relocations

-- each of them is so
abbrev pub EachIs : {D : Type 0} → (D → Type 0) → List ℕ → List D → Type 0
EachIs Is bytes elements = All Is (take (length bytes / 24) elements)

-- all others stay
abbrev pub RestStays : {D : Type 0} → List ℕ → List D → List D → Type 0
RestStays bytes before after =
    drop (length bytes / 24) after ≡ drop (length bytes / 24) before

-- ---- where bytes are rewritten and deleted

abbrev pub start_by : Decision → ℕ → ℕ
start_by decision offset = offset - (window_of decision).back

abbrev pub written_end_by : Decision → ℕ → ℕ
written_end_by decision offset = start_by decision offset + (window_of decision).len

-- where what is deleted ends
abbrev pub deleted_end : ℕ → Option DeletedBytes → ℕ
deleted_end offset None = 0
deleted_end offset (Some deleted) = offset + (deleted.start + deleted.count)

abbrev pub end_by : Decision → ℕ → ℕ
end_by decision offset =
    max (written_end_by decision offset) (deleted_end offset (deleted_of decision))

abbrev pub start_at : List ℕ → List Decision → ℕ → ℕ
start_at bytes decisions n = start_by (decision_at decisions n) (relocation_in bytes n).offset

abbrev pub written_end_at : List ℕ → List Decision → ℕ → ℕ
written_end_at bytes decisions n =
    written_end_by (decision_at decisions n) (relocation_in bytes n).offset

abbrev pub end_at : List ℕ → List Decision → ℕ → ℕ
end_at bytes decisions n = end_by (decision_at decisions n) (relocation_in bytes n).offset

-- where the bytes of a decision begin or end, by its relocation's offset
abbrev pub Bound : Type 0
Bound = Decision → ℕ → ℕ

-- those of a relocation with an index
abbrev pub bound_at : Bound → List ℕ → ℕ → Decision → ℕ
bound_at B bytes n d = B d (relocation_in bytes n).offset

-- A decision with none has no end after its start.
abbrev pub IsSome : Bound → Bound → List ℕ → ℕ → Decision → Type 0
IsSome S E bytes n d = bound_at S bytes n d < bound_at E bytes n d

-- Those of each one end before those of the next ones begin.
abbrev pub AreApartBy : Bound → Bound → List ℕ → List Decision → ℕ → Type 0
AreApartBy S E bytes decisions limit =
    (i j : ℕ) → i < j → j < limit → IsSome S E bytes i (decision_at decisions i)
    → IsSome S E bytes j (decision_at decisions j)
    → bound_at E bytes i (decision_at decisions i) ≤ bound_at S bytes j (decision_at decisions j)

-- where bytes are rewritten and deleted
abbrev pub AreApart : List ℕ → List Decision → ℕ → Type 0
AreApart = AreApartBy start_by end_by

-- where they end, with some more from a start to an end; none if they aren't after them
abbrev pub IsEndAfter : ℕ → ℕ → ℕ → Option ℕ → Type 0
IsEndAfter start own end (Some new) =
    ((own ≤ start) × (new ≡ end)) ⊎ ((start < own) × (end ≤ start) × (new ≡ own))
IsEndAfter start own end None = (start < own) × (start < end)

-- the bytes that one decision deletes, by their offset and how many they are
abbrev pub deletion_by : ℕ → Option DeletedBytes → List (ℕ × ℕ)
deletion_by offset None = []
deletion_by offset (Some deleted) = (offset + deleted.start, deleted.count) ∷ []

abbrev pub pair_of : Deletion → ℕ × ℕ
pair_of deletion = (deletion.offset, deletion.bytes)

-- deletions as pairs of an offset and a count of bytes
abbrev pub pairs_in : List Deletion → List (ℕ × ℕ)
pairs_in deletions = map pair_of deletions

-- those of all decisions below a limit
abbrev pub deletions_by : List ℕ → List Decision → ℕ → List (ℕ × ℕ)
deletions_by bytes decisions zero = []
deletions_by bytes decisions (suc n) =
    deletions_by bytes decisions n
    ++ deletion_by (relocation_in bytes n).offset (deleted_of (decision_at decisions n))

-- ---- relocations in the bytes of others

-- The field of a relocation that no rewrite takes along has a byte that the rewrite of another one,
-- with an index below a limit, writes or deletes.
pub record IsCovered (architecture : Architecture) (bytes section : List ℕ)
    (decisions : List Decision) (limit n : ℕ) : Type 0 where
  pub row : RowInfo
  pub is_field : IsField architecture bytes section n row
  pub untaken : decision_at decisions n ≢ Consumed
  pub by : ℕ
  pub within : by < limit
  pub other : by ≢ n
  pub writes : start_at bytes decisions by < end_at bytes decisions by
  pub begins : offset_at bytes n < end_at bytes decisions by
  pub ends : start_at bytes decisions by < field_end bytes section n row

-- No field of a relocation that no rewrite takes along has a byte that the rewrite of another one
-- writes or deletes.
abbrev pub AreClear : Architecture → List ℕ → List ℕ → List Decision → ℕ → Type 0
AreClear architecture bytes section decisions limit =
    (n : ℕ) → n < limit → ¬ IsCovered architecture bytes section decisions limit n

-- the first that has, if any
abbrev pub IsFirstCovered : Architecture → List ℕ → List ℕ → List Decision → ℕ → Option ℕ → Type 0
IsFirstCovered architecture bytes section decisions limit None =
    AreClear architecture bytes section decisions limit
IsFirstCovered architecture bytes section decisions limit (Some n) =
    (n < limit) × IsCovered architecture bytes section decisions limit n
    × ((i : ℕ) → i < n → ¬ IsCovered architecture bytes section decisions limit i)

-- ---- by a rule

-- the bytes of a decision lie in those that count
abbrev pub IsWithin : Bound → Bound → ℕ → Decision → Type 0
IsWithin S E o decision =
    start_by decision o < end_by decision o
    → (S decision o ≤ start_by decision o) × (end_by decision o ≤ E decision o)

-- what a rule decides of a relocation, and that it can be made
pub record IsMadeBy (Decides : ℕ → Bool → Decision → Type 0) (S E : Bound) (bytes section : List ℕ)
    (n : ℕ) (taken : Bool) (decision : Decision) : Type 0 where
  pub decides : Decides n taken decision
  pub made : CanBeMade decision section (relocation_in bytes n).offset
  pub matches : Matches decision section (relocation_in bytes n).offset
  pub within : IsWithin S E (relocation_in bytes n).offset decision

-- all of a section
pub record AreAllDecided (Decides : ℕ → Bool → Decision → Type 0) (S E : Bound)
    (architecture : Architecture) (bytes section : List ℕ) (decisions : List Decision) : Type 0
  where
    pub decided : AreDecidedBy Decides decisions (length bytes / 24)
    pub made : AllCanBeMade bytes section decisions (length bytes / 24)
    pub matches : AllMatch bytes section decisions (length bytes / 24)
    pub apart_by : AreApartBy S E bytes decisions (length bytes / 24)
    pub apart : AreApart bytes decisions (length bytes / 24)
    pub clear : AreClear architecture bytes section decisions (length bytes / 24)

-- ---- errors

-- the bytes of the relocation with an index would begin below the end of those of one before it
pub record IsOverlapping (Decides : ℕ → Bool → Decision → Type 0) (S E : Bound) (bytes : List ℕ)
    (decisions : List Decision) (n : ℕ) : Type 0 where
  pub decision : Decision
  pub decided : Decides n (is_taken decisions n) decision
  pub writes : IsSome S E bytes n decision
  pub before : ℕ
  pub is_before : before < n
  pub is_written : IsSome S E bytes before (decision_at decisions before)
  pub overlap : bound_at S bytes n decision < bound_at E bytes before (decision_at decisions before)

-- Those below the index are decided by a rule. That at the index isn't, though there is room for
-- all: it lacks a rewrite, or its bytes overlap.
abbrev pub IsRejectedBy : (ℕ → Bool → Decision → Type 0) → (ℕ → Type 0) → Bound → Bound
    → Architecture → List ℕ → List ℕ → List Decision → RewritingError → Type 0
IsRejectedBy Decides Lacks S E architecture bytes section decisions TooShort =
    length decisions < length bytes / 24
IsRejectedBy Decides Lacks S E architecture bytes section decisions (NotSurveyed n) =
    (n < length bytes / 24) × AreDecidedBy Decides decisions n × Lacks n
    × (length bytes / 24 ≤ length decisions)
IsRejectedBy Decides Lacks S E architecture bytes section decisions (Overlaps n) =
    ((n < length bytes / 24) × AreDecidedBy Decides decisions n
    × IsOverlapping Decides S E bytes decisions n × (length bytes / 24 ≤ length decisions))
    ⊎ (AreDecidedBy Decides decisions (length bytes / 24)
    × IsFirstCovered architecture bytes section decisions (length bytes / 24) (Some n)
    × (length bytes / 24 ≤ length decisions))
IsRejectedBy Decides Lacks S E architecture bytes section decisions (Contradiction symbol) = ⊥

-- and where there may also be less room for deletions than there are
abbrev pub IsRejectedWith : (ℕ → Bool → Decision → Type 0) → List ℕ → List Decision → ℕ
    → (RewritingError → Type 0) → RewritingError → Type 0
IsRejectedWith Decides bytes decisions room IsError TooShort =
    IsError TooShort
    ⊎ (AreDecidedBy Decides decisions (length bytes / 24)
    × (room < length (deletions_by bytes decisions (length bytes / 24))))
IsRejectedWith Decides bytes decisions room IsError error = IsError error

-- by the groups that stay
abbrev pub IsRejectedIn : RelaxContext → List UnrelaxableGroups → List ℕ → List ℕ → List Decision
    → RewritingError → Type 0
IsRejectedIn s kept bytes section =
    IsRejectedBy (IsDecidedAfter s kept bytes section)
    (λ n. IsNotSurveyed s kept bytes section n (relocation_in bytes n)) start_by end_by
    s.architecture bytes section

-- before addresses are known
abbrev pub IsRejected : Architecture → OutputFacts → List SymbolFacts → List UnrelaxableGroups → List ℕ
    → List ℕ → List Decision → RewritingError → Type 0
IsRejected architecture output symbols = IsRejectedIn (pre_layout architecture output symbols)

-- the tables of symbols contradict each other, or they agree and there is another error
abbrev pub IsRejectedFirst : List SymbolFacts → List Symbol → List ℕ → (RewritingError → Type 0)
    → RewritingError → Type 0
IsRejectedFirst facts symbols bytes IsError (Contradiction symbol) =
    IsContradiction facts symbols bytes symbol
IsRejectedFirst facts symbols bytes IsError error = Agree facts symbols bytes × IsError error

-- once addresses are known
abbrev pub IsRejectedPlaced : RelaxContext → List UnrelaxableGroups → List ℕ → List ℕ → List Decision → ℕ
    → RewritingError → Type 0
IsRejectedPlaced s kept bytes section decisions room =
    IsRejectedFirst s.symbols s.values bytes
    (IsRejectedWith (IsDecidedAfter s kept bytes section) bytes decisions room
    (IsRejectedIn s kept bytes section decisions))

-- ---- decisions that are made later

-- the 32 bits of a number, turned up by 8
abbrev pub turned : ℕ → ℕ
turned number = number % 2 ^ 24 * 2 ^ 8 + number / 2 ^ 24

-- A number of the n bytes from a place on: with each of them it is turned, and the byte is added.
-- That of four bytes is the word that they are, the first byte highest.
abbrev pub bytes_number : List ℕ → ℕ → ℕ → ℕ
bytes_number section start zero = 0
bytes_number section start (suc n) =
    (turned (bytes_number section start n) + get_or section (start + n) 0) % 2 ^ 32

abbrev pub window_number : RewriteWindow → List ℕ → ℕ → ℕ
window_number window section offset = bytes_number section (offset - window.back) window.len

-- what is kept with a decision is the number of the bytes that it rewrites
abbrev pub KeepsBytes : Decision → ℕ → List ℕ → ℕ → Type 0
KeepsBytes (Rewritten chosen) number section offset =
    number ≡ window_number (window_of_rewrite (relaxation_rewrite chosen.kind)) section offset
KeepsBytes decision number section offset = Unit {0}

abbrev pub AllKeepBytes : List ℕ → List ℕ → List Decision → List ℕ → ℕ → Type 0
AllKeepBytes bytes section decisions numbers limit =
    (n : ℕ) → n < limit → KeepsBytes (decision_at decisions n) (get_or numbers n 0) section
    (relocation_in bytes n).offset

-- what is tested of a decision that is made later
abbrev pub StillFits : Decision → ℕ → List ℕ → ℕ → Type 0
StillFits decision number section offset =
    CanBeMade decision section offset × Matches decision section offset
    × KeepsBytes decision number section offset

abbrev pub AllStillFit : List ℕ → List ℕ → List Decision → List ℕ → ℕ → Type 0
AllStillFit bytes section decisions numbers limit =
    (n : ℕ) → n < limit → StillFits (decision_at decisions n) (get_or numbers n 0) section
    (relocation_in bytes n).offset

abbrev pub AreBytes : List ℕ → Type 0
AreBytes section = (at : ℕ) → get_or section at 0 < 2 ^ 8

-- Of bytes of which one alone is another, the number is another too.
abbrev pub OneByteTells : Type 0
OneByteTells =
    (section other : List ℕ) (start len at : ℕ) → AreBytes section → AreBytes other → start ≤ at
    → at < start + len → ((i : ℕ) → i ≢ at → get_or section i 0 ≡ get_or other i 0)
    → get_or section at 0 ≢ get_or other at 0
    → bytes_number section start len ≢ bytes_number other start len

-- Up to four bytes with the same number are the same.
abbrev pub WordsTell : Type 0
WordsTell =
    (section other : List ℕ) (start len : ℕ) → AreBytes section → AreBytes other → len ≤ 4
    → bytes_number section start len ≡ bytes_number other start len
    → (i : ℕ) → i < len → get_or section (start + i) 0 ≡ get_or other (start + i) 0

-- Why they aren't: up to the index, the one there alone is wrong. It doesn't match, can't be made,
-- was made on other bytes, or isn't apart from those before it.
abbrev pub IsUnmade : List ℕ → List ℕ → List Decision → List ℕ → DecisionError → Type 0
IsUnmade bytes section decisions numbers errors.TooShort = length decisions < length bytes / 24
IsUnmade bytes section decisions numbers (errors.Changed n) =
    (n < length bytes / 24) × (length bytes / 24 ≤ length decisions)
    × AllStillFit bytes section decisions numbers n × AreApart bytes decisions n
    × ¬ StillFits (decision_at decisions n) (get_or numbers n 0) section
    (relocation_in bytes n).offset
IsUnmade bytes section decisions numbers (errors.Overlaps n) =
    (n < length bytes / 24) × (length bytes / 24 ≤ length decisions)
    × AllStillFit bytes section decisions numbers (n + 1) × AreApart bytes decisions n
    × ¬ AreApart bytes decisions (n + 1)

-- Where all match, can be made, were made on these bytes and are apart, none of it is so.
abbrev pub DecisionsAreMade : Type 0
DecisionsAreMade =
    (bytes section : List ℕ) (decisions : List Decision) (numbers : List ℕ)
    → length bytes / 24 ≤ length decisions
    → AllStillFit bytes section decisions numbers (length bytes / 24)
    → AreApart bytes decisions (length bytes / 24)
    → (error : DecisionError) → ¬ IsUnmade bytes section decisions numbers error

-- ---- what decisions follow from

-- All that is decided follows from which groups stay.
abbrev pub DecisionsFollow : Type 0
DecisionsFollow =
    (s : RelaxContext) (kept kept_too : List UnrelaxableGroups) (bytes section : List ℕ)
    (decisions others : List Decision) (limit : ℕ)
    → ((group : Group) (symbol : ℕ)
    → (IsTrue (stays_at kept group symbol) ↔ IsTrue (stays_at kept_too group symbol)))
    → AreDecidedIn s kept bytes section decisions limit
    → AreDecidedIn s kept_too bytes section others limit
    → (n : ℕ) → n < limit → decision_at decisions n ≡ decision_at others n
