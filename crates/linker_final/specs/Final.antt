-- A section of code of an object as a linker rewrites it, in one phase or in several, and then
-- writes its values; what stands at each place of its code, and runs of it. What is of one
-- architecture is a parameter (`Rewriting`).
use Rattle.std.specs.Prelude.{◌≡◌, ◌≢◌, ◌⊎◌, ℕ, ◌+◌, ◌/◌, ◌^◌, ◌<◌, ◌≤◌, List, [], ◌∷◌, length}
use Rattle.std.specs.Prelude.{take, drop, get_or, ℤ, Some, IsSomeAnd}
use Rattle.linker_final.specs.Imports.{Addresses, Agree, All, Architecture, AreDecidedIn, AreDone}
use Rattle.linker_final.specs.Imports.{AreRelocationsAfter, AreWritten, Comparison, Covered}
use Rattle.linker_final.specs.Imports.{Decision, Group, IsHeld, IsRejectedIn, IsRejectedPlaced}
use Rattle.linker_final.specs.Imports.{Kept, Kinds, Link, Next, OthersStay, RelaxContext, RowInfo}
use Rattle.linker_final.specs.Imports.{State, Stops, Symbol, UnrelaxableGroups, decision_at}
use Rattle.linker_final.specs.Imports.{deletions_by, of_link, offset_at, pairs_in, relocation_in}
use Rattle.linker_final.specs.Imports.{run, start_at, uncovered, written_end_at}
use Rattle.linker_final.specs.declared.sections.LinkError.{LinkError}
use Rattle.linker_final.specs.declared.sections.PhaseError.{PhaseError}
use Rattle.linker_rewriting.specs.Kept.{IsWritingCause}
use Rattle.linker_rewriting.specs.declared.decisions.Deletion.{Deletion}
use Rattle.linker_rewriting.specs.declared.kept.FactsSnapshot.{FactsSnapshot}
use Rattle.linker_rewriting.specs.declared.kept.WritingError.{WritingError}
use Rattle.linker_section.specs.Fields.{IsField, field_end, field_len}
use Rattle.linker_final.specs.declared.sections.LinkError.TheVariants as link_errors
use Rattle.linker_final.specs.declared.sections.PhaseError.TheVariants as phase_errors

-- ---- phases

-- One call of `rewrite_section` or `rewrite_placed_section`: what is passed, and what it leaves.
pub record RewritingPhase : Type 0 where
  pub context : RelaxContext
  pub kept : List UnrelaxableGroups
  pub relocations : List ℕ
  pub section : List ℕ
  pub decisions : List Decision
  pub relocations_after : List ℕ
  pub rewritten : List ℕ

-- of what a call was passed and left
abbrev pub rewriting_phase : RelaxContext → List UnrelaxableGroups → List ℕ → List ℕ → List Decision → List ℕ
    → List ℕ → RewritingPhase
rewriting_phase context kept relocations section decisions relocations_after rewritten =
    record {
      context = context;
      kept = kept;
      relocations = relocations;
      section = section;
      decisions = decisions;
      relocations_after = relocations_after;
      rewritten = rewritten;
    }

abbrev pub count_of : RewritingPhase → ℕ
count_of p = length p.relocations / 24

-- The rewrites of a phase were chosen, and made.
pub record AreMadeIn (p : RewritingPhase) : Type 0 where
  pub decided : AreDecidedIn p.context p.kept p.relocations p.section p.decisions (count_of p)
  pub relocations : AreRelocationsAfter p.decisions p.relocations p.relocations_after (count_of p)
  pub done : AreDone p.relocations p.decisions p.section p.rewritten (count_of p)
  pub others : OthersStay p.relocations p.decisions p.section p.rewritten (count_of p)
  pub same_length : length p.rewritten ≡ length p.section

-- The call succeeded.
pub record HasRewritten (p : RewritingPhase) : Type 0 where
  pub made : AreMadeIn p
  pub open made use *
  -- what slices have
  pub as_many : length p.relocations_after ≡ length p.relocations

-- The phase changed neither the relocations nor the bytes.
abbrev pub LeavesAll : RewritingPhase → Type 0
LeavesAll p = (p.relocations_after ≡ p.relocations) × (p.rewritten ≡ p.section)

-- why no value is written after the phase
abbrev pub IsNotWritten : RewritingPhase → List FactsSnapshot → Addresses → List Symbol
    → WritingError → Type 0
IsNotWritten p kept addresses symbols =
    IsWritingCause p.context.architecture p.context.output p.context.symbols kept addresses
    p.relocations_after symbols p.rewritten

-- It takes the relocations and the bytes that are there.
pub record Takes (p : RewritingPhase) (relocations section : List ℕ) : Type 0 where
  pub same_relocations : p.relocations ≡ relocations
  pub same_section : p.section ≡ section

-- Phases succeed one after the other, and each takes what the one before left. They lead from some
-- relocations and bytes to others, none to the same.
abbrev pub ArePhases : List RewritingPhase → List ℕ → List ℕ → List ℕ → List ℕ → Type 0
ArePhases [] relocations section relocations_last last =
    (relocations_last ≡ relocations) × (last ≡ section)
ArePhases (p ∷ phases) relocations section relocations_last last =
    Takes p relocations section × HasRewritten p
    × ArePhases phases p.relocations_after p.rewritten relocations_last last

-- the rewrite of the relocation at an index has no byte at an offset
abbrev pub IsOutside : List ℕ → List Decision → ℕ → ℕ → Type 0
IsOutside relocations decisions j at =
    (at < start_at relocations decisions j) ⊎ (written_end_at relocations decisions j ≤ at)

-- no rewrite of a phase has one there
abbrev pub RewritesNone : ℕ → RewritingPhase → Type 0
RewritesNone at p = (j : ℕ) → j < count_of p → IsOutside p.relocations p.decisions j at

abbrev pub Keeps : ℕ → RewritingPhase → Type 0
Keeps i p = decision_at p.decisions i ≡ Kept

-- A phase leaves alone the relocation at an index and n bytes from a start on.
pub record UntouchedInPhase (i start len : ℕ) (p : RewritingPhase) : Type 0 where
  pub kept : Keeps i p
  pub apart : (at : ℕ) → start ≤ at → at < start + len → RewritesNone at p

-- What phases leave alone is the same after them.
abbrev pub UntouchedBytesAreTheSame : Type 0
UntouchedBytesAreTheSame =
    (phases : List RewritingPhase) (relocations section relocations_last last : List ℕ)
    → ArePhases phases relocations section relocations_last last
    → (i start len : ℕ) → i < length relocations / 24 → All (UntouchedInPhase i start len) phases
    → (relocation_in relocations_last i ≡ relocation_in relocations i)
    × (take len (drop start last) ≡ take len (drop start section))

-- ---- a section

-- What is passed to `rewrite_section` or `rewrite_placed_section`, then maybe to later phases, and
-- then to `relocate_section`, and what they leave.
pub record Linked : Type 0 where
  -- of the object's relocations and bytes, or of those that earlier phases left
  pub phase : RewritingPhase
  pub open phase use *
  -- the phases after that one, and what the last of all left
  pub later : List RewritingPhase
  pub relocations_last : List ℕ
  pub last : List ℕ
  -- what values are made of
  pub addresses : Addresses
  pub symbols : List Symbol
  -- the bytes once values are written
  pub final : List ℕ

abbrev pub count : Linked → ℕ
count l = length l.relocations / 24

abbrev pub AreBytes : List ℕ → Type 0
AreBytes bytes = All (λ b. b < 2 ^ 8) bytes

-- The first call succeeded, whatever becomes of the section then.
abbrev pub AreRewritten : Linked → Type 0
AreRewritten l = AreMadeIn l.phase

-- All calls succeeded: what their contracts ensure.
pub record IsLinked (l : Linked) : Type 0 where
  pub first : HasRewritten l.phase
  pub open first use *
  pub later : ArePhases l.later l.relocations_after l.rewritten l.relocations_last l.last
  pub written : AreWritten l.context.architecture l.addresses l.relocations_last l.symbols
      l.last l.final
  -- what slices have
  pub relocation_bytes : AreBytes l.relocations
  pub section_bytes : AreBytes l.section
  pub final_bytes : AreBytes l.final

-- of what phases were passed and left, and the call that writes values after them
abbrev pub linked_by : RewritingPhase → List RewritingPhase → List ℕ → List ℕ → Addresses
    → List Symbol → List ℕ → Linked
linked_by first later relocations_last last addresses symbols final =
    record {
      phase = first;
      later = later;
      relocations_last = relocations_last;
      last = last;
      addresses = addresses;
      symbols = symbols;
      final = final;
    }

-- Phases succeed one after the other. Each takes what the one before left, and something is ensured
-- of each, with those after it as later ones.
abbrev pub AreInTurn : (Linked → Type 0) → List RewritingPhase → List ℕ → List ℕ → List ℕ → List ℕ
    → Addresses → List Symbol → List ℕ → Type 0
AreInTurn Ensured [] relocations section relocations_last last addresses symbols final = Unit {0}
AreInTurn Ensured (p ∷ phases) relocations section relocations_last last addresses symbols final =
    Takes p relocations section
    × Ensured (linked_by p phases relocations_last last addresses symbols final)
    × AreInTurn Ensured phases p.relocations_after p.rewritten relocations_last last addresses
    symbols final

-- They do, and then values are written. Each phase is one that the laws are about.
abbrev pub AreLinked : List RewritingPhase → List ℕ → List ℕ → List ℕ → List ℕ → Addresses
    → List Symbol → List ℕ → Type 0
AreLinked = AreInTurn IsLinked

-- why a section isn't linked, by what a phase was passed and left: the bytes are then as before, or
-- rewritten
abbrev pub IsLinkCause : RewritingPhase → List FactsSnapshot → Addresses → List Symbol → LinkError
    → Type 0
IsLinkCause p kept addresses symbols (link_errors.Rewriting error) =
    IsRejectedIn p.context p.kept p.relocations p.section p.decisions error × LeavesAll p
IsLinkCause p kept addresses symbols (link_errors.Writing error) =
    HasRewritten p × IsNotWritten p kept addresses symbols error

-- An array begins with what a phase deletes, and is as before after that.
pub record AreListed (p : RewritingPhase) (before after : List Deletion) : Type 0 where
  pub len : ℕ
  pub listed : take len (pairs_in after) ≡ deletions_by p.relocations p.decisions (count_of p)
  pub others : drop len after ≡ drop len before

-- why a section isn't linked in two phases, and what is in an array for what the second one deletes
abbrev pub IsPhaseCause : (first second : RewritingPhase) → List FactsSnapshot → Addresses
    → List Symbol → List Deletion → List Deletion → PhaseError → Type 0
IsPhaseCause first second kept addresses symbols array deleted (phase_errors.First error) =
    IsRejectedIn first.context first.kept first.relocations first.section first.decisions error
    × LeavesAll first × LeavesAll second × (deleted ≡ array)
IsPhaseCause first second kept addresses symbols array deleted (phase_errors.Second error) =
    HasRewritten first
    × IsRejectedPlaced second.context second.kept second.relocations second.section
    second.decisions (length array) error
    × LeavesAll second
IsPhaseCause first second kept addresses symbols array deleted (phase_errors.Writing error) =
    HasRewritten first × HasRewritten second × AreListed second array deleted
    × IsNotWritten second kept addresses symbols error

-- Later phases leave alone the relocation at an index and n bytes from a start on. Where
-- there are none, they do.
abbrev pub UntouchedBytes : Linked → ℕ → ℕ → ℕ → Type 0
UntouchedBytes l i start len = All (UntouchedInPhase i start len) l.later

-- neither the rewrite nor the field of the relocation at an index has a byte
abbrev pub HasNoByte : Linked → ℕ → ℕ → Type 0
HasNoByte l j at =
    IsOutside l.relocations l.decisions j at
    × ((row : RowInfo)
    → IsField l.context.architecture l.relocations_last l.last j row
    → (at < offset_at l.relocations_last j) ⊎ (field_end l.relocations_last l.last j row ≤ at))

-- No rewrite and no field of another relocation has one of n bytes from a start on, and later
-- phases leave them alone.
pub record UntouchedByOthers (l : Linked) (i start len : ℕ) : Type 0 where
  pub others : (j at : ℕ) → j < count l → j ≢ i → start ≤ at → at < start + len → HasNoByte l j at
  pub left : UntouchedBytes l i start len

-- ---- instructions of 4 bytes

-- the bytes of one at an offset
abbrev pub instruction_at : List ℕ → ℕ → List ℕ
instruction_at bytes o = take 4 (drop o bytes)

-- those of two from an offset on
abbrev pub two_at : List ℕ → ℕ → List ℕ
two_at bytes o = take 8 (drop o bytes)

-- later phases leave alone the relocation at an index and the instruction at its offset
abbrev pub UntouchedInstruction : Linked → ℕ → Type 0
UntouchedInstruction l i = UntouchedBytes l i (relocation_in l.relocations i).offset 4

-- those at two
abbrev pub UntouchedInstructions : Linked → ℕ → ℕ → Type 0
UntouchedInstructions l i j = UntouchedInstruction l i × UntouchedInstruction l j

-- no rewrite of another relocation than the one at an index has a byte of the instruction at an
-- offset
abbrev pub IsRewrittenByNoOther : Linked → ℕ → ℕ → Type 0
IsRewrittenByNoOther l i o =
    (j at : ℕ) → j < count l → j ≢ i → o ≤ at → at < o + 4
    → IsOutside l.relocations l.decisions j at

-- nor has a field of another
abbrev pub IsWrittenByNoOther : Linked → ℕ → ℕ → Type 0
IsWrittenByNoOther l i o =
    (j at : ℕ) → j < count l → j ≢ i → o ≤ at → at < o + 4
    → (row : RowInfo)
    → IsField l.context.architecture l.relocations_last l.last j row
    → (at < offset_at l.relocations_last j) ⊎ (field_end l.relocations_last l.last j row ≤ at)

-- ---- what no rewrite took

-- Each byte that neither a rewrite of any phase nor a field has is the object's.
abbrev pub OtherBytes : Type 0
OtherBytes =
    (l : Linked) → IsLinked l → (at : ℕ)
    → ((i : ℕ) → i < count l → HasNoByte l i at) → All (RewritesNone at) l.later
    → get_or l.final at 0 ≡ get_or l.section at 0

-- Each relocation that stays in every phase is the object's, and its field holds its part of what
-- its relocations compose over the bytes before.
abbrev pub OtherFields : Type 0
OtherFields =
    (l : Linked) (linked : IsLinked l) (i : ℕ) → i < count l → decision_at l.decisions i ≡ Kept
    → All (Keeps i) l.later
    → (relocation_in l.relocations_last i ≡ relocation_in l.relocations i)
    × ((row : RowInfo) (v : ℤ) → linked.written.can.found i ≡ Some (row, v)
    → 0 < field_len row (drop (offset_at l.relocations_last i) l.last)
    → IsHeld linked.written.can.found l.relocations_last l.last l.final (count l) i row v)

-- ---- the code of a section

-- What is passed to the calls for a section, in one phase or in several, and what they leave.
pub record Section : Type 0 where
  pub phases : List RewritingPhase
  pub relocations : List ℕ
  pub section : List ℕ
  pub relocations_last : List ℕ
  pub last : List ℕ
  pub addresses : Addresses
  pub symbols : List Symbol
  pub final : List ℕ

-- one of some phases, with those after it as later ones
abbrev pub IsPhaseIn : List RewritingPhase → Section → Linked → Type 0
IsPhaseIn [] x l = ⊥
IsPhaseIn (p ∷ later) x l =
    (l ≡ linked_by p later x.relocations_last x.last x.addresses x.symbols x.final)
    ⊎ IsPhaseIn later x l

abbrev pub IsPhase : Section → Linked → Type 0
IsPhase x = IsPhaseIn x.phases x

abbrev pub offset_of : Linked → ℕ → ℕ
offset_of l i = (relocation_in l.relocations i).offset

-- a byte that no instruction of a relocation, of 4 bytes, has unless the relocation stays
abbrev pub IsBesideAll : Linked → ℕ → Type 0
IsBesideAll l b =
    (i : ℕ) → i < count l
    → decision_at l.decisions i ≢ Kept → (b < offset_of l i) ⊎ (offset_of l i + 4 ≤ b)

-- ---- an architecture

pub record Rewriting : Type 1 where
  pub architecture : Architecture
  -- old's code and new's
  pub Code : Type 0
  pub link : Code → Link
  -- what the calls ensure of a phase
  pub Ensured : Linked → Type 0
  -- in a phase the byte at an offset stays
  pub Stays : Linked → ℕ → Type 0
  -- Instructions that are rewritten together: the offset of their first byte, and that of the first
  -- after them.
  pub Rewrites : Linked → Type 0
  pub span : (l : Linked) → Rewrites l → ℕ × ℕ
  -- Old comes to them, new has what became of them, and the premises of their law hold. So new
  -- executes a number of instructions, and they leave kinds and a state.
  pub Begins : Section → (l : Linked) → Code → Kinds → State → Rewrites l → ℕ → Kinds → State
      → Type 0

abbrev pub comparison : (r : Rewriting) → r.Code → Comparison
comparison r c = of_link (r.link c)

-- All calls returned OK.
pub record AreCalled (r : Rewriting) (x : Section) : Type 0 where
  pub linked : AreInTurn r.Ensured x.phases x.relocations x.section x.relocations_last x.last
      x.addresses x.symbols x.final
  pub architecture : (l : Linked) → IsPhase x l → l.context.architecture ≡ r.architecture

-- ---- what stands at a place

-- n bytes stay
abbrev pub AreLeft : Rewriting → ℕ → ℕ → Linked → Type 0
AreLeft r at n l = (b : ℕ) → at ≤ b → b < at + n → r.Stays l b

-- An instruction of n bytes stays in all phases, or in one it is the first of what is rewritten
-- together, or has another byte of that.
pub data Place (r : Rewriting) (x : Section) (at n : ℕ) : Type 0 where
  unchanged : ((l : Linked) → IsPhase x l → AreLeft r at n l) → Place r x at n
  begins : (l : Linked) → IsPhase x l → (g : r.Rewrites l) → at ≡ (r.span l g).0 → Place r x at n
  within : (l : Linked) → IsPhase x l → (g : r.Rewrites l) → (r.span l g).0 < at + n
      → at < (r.span l g).1 → Place r x at n

-- ---- runs

-- What is known at a state of old's run: that old comes to instructions that are rewritten
-- together; elsewhere, as at one that stays or outside the section, anything, also nothing.
pub data Known (r : Rewriting) (x : Section) (c : r.Code) (k : Kinds) (s : State) : Type 0 where
  rewritten : (l : Linked) → IsPhase x l → (g : r.Rewrites l) (n : ℕ) (k' : Kinds) (s' : State)
      → r.Begins x l c k s g n k' s' → Known r x c k s
  elsewhere : Next (comparison r c) k s → Known r x c k s

abbrev pub Knows : (r : Rewriting) → Section → r.Code → Kinds → State → Type 0
Knows r x c k s =
    (q n : ℕ) (k' : Kinds) (s' : State) → Covered (comparison r c) q n k s k' s'
    → Known r x c k' s'

-- Old's run is covered for m other instructions and groups, or until both stop, or up to where
-- nothing is known. There every run of new agrees that agrees at the beginning.
pub record IsFollowed (r : Rewriting) (x : Section) (c : r.Code) (k : Kinds) (s : State)
    (knows : Knows r x c k s) (m : ℕ) : Type 0 where
  pub q : ℕ
  pub n : ℕ
  pub kinds_then : Kinds
  pub state : State
  pub covered : Covered (comparison r c) q n k s kinds_then state
  pub far : (m ≤ q) ⊎ (Stops (comparison r c) kinds_then state
      ⊎ (knows q n kinds_then state covered ≡ elsewhere uncovered))
  pub agrees : (t : State) → Agree (r.link c) k s t
      → IsSomeAnd (run n (comparison r c).new t) (Agree (r.link c) kinds_then state)

-- ---- the theorem

-- Something stands at each place of a section.
abbrev pub EachPlace : Rewriting → Type 0
EachPlace r = (x : Section) → AreCalled r x → (at n : ℕ) → Place r x at n

-- What old comes to is a group.
abbrev pub RewritesAreGroups : Rewriting → Type 0
RewritesAreGroups r =
    (x : Section) (c : r.Code) → AreCalled r x → (l : Linked) → IsPhase x l → (k : Kinds) (s : State)
    (g : r.Rewrites l) (n : ℕ) (k' : Kinds) (s' : State) → r.Begins x l c k s g n k' s'
    → Group (comparison r c) n k s k' s'

-- Each run of old is followed.
abbrev pub RunsAreFollowed : Rewriting → Type 0
RunsAreFollowed r =
    (x : Section) (c : r.Code) → AreCalled r x → (k : Kinds) (s : State) (knows : Knows r x c k s)
    (m : ℕ) → IsFollowed r x c k s knows m
