-- A section rewritten in one call, in the numbers that C sees.
use Rattle.std.specs.Prelude.{◌≡◌, ◌⊎◌, ℕ, ◌/◌, ◌==◌, if◌then◌else◌, List, length}
use Rattle.std.specs.Prelude.{take, drop}
use Rattle.std.specs.Prelude.{All, Option, Some, None}
use Rattle.linker_utils_c.specs.Imports.{Agree, DecisionNumbers, DoesNotMatch, FactsContradict}
use Rattle.linker_utils_c.specs.Imports.{GotToPcRel, IsKeptDecision, IsWrittenDecision, NotSurveyed}
use Rattle.linker_utils_c.specs.Imports.{PreLayout, RelaxContext, ShortMemory, ShortPcRel, Status}
use Rattle.linker_utils_c.specs.Imports.{Success, TlsLocalExec, decisions_in, numbers_in}
use Rattle.linker_utils_c.specs.declared.status.Status.TheVariants.{Overlaps}
use Rattle.linker_rewriting.specs.Decisions.{AllCanBeMade, IsUnmade, deletions_by}
use Rattle.linker_rewriting.specs.Decisions.{IsRejectedIn, IsRejectedPlaced}
use Rattle.linker_rewriting.specs.Rewritten.{IsRewrittenAs, AreDecidedAs, AreMadeAs}
use Rattle.linker_rewriting.specs.declared.decisions.Decision.{Decision}
use Rattle.linker_rewriting.specs.declared.decisions.DecisionError.{DecisionError}
use Rattle.linker_rewriting.specs.declared.decisions.DecisionError.TheVariants as making
use Rattle.linker_rewriting.specs.declared.decisions.RewritingError.{RewritingError}
use Rattle.linker_rewriting.specs.declared.decisions.RewritingError.TheVariants as errors
use Rattle.linker_rewriting.specs.declared.groups.UnrelaxableGroups.{UnrelaxableGroups}
use Rattle.linker_rewriting.specs.declared.phases.Phase.{Phase}
use Rattle.linker_utils_c.specs.Deltas.{pairs_in}
use Rattle.linker_utils_c.specs.Status.{code}
use Rattle.linker_rewriting.specs.declared.decisions.Deletion.{Deletion}

-- ---- phases

abbrev pub phase_number : Phase → ℕ
phase_number PreLayout = 0
phase_number TlsLocalExec = 1
phase_number GotToPcRel = 2
phase_number ShortPcRel = 3

-- that with a number
abbrev pub phase_of : ℕ → Option Phase
phase_of number =
    if number == phase_number PreLayout then Some PreLayout
    else (if number == phase_number TlsLocalExec then Some TlsLocalExec
    else (if number == phase_number GotToPcRel then Some GotToPcRel
    else (if number == phase_number ShortPcRel then Some ShortPcRel
    else None)))

-- ---- a section

-- it is surveyed, or its symbols contradict each other and nothing is noted
abbrev pub IsSurveyReturned : Type 0 → Type 0 → Type 0 → ℕ → Type 0
IsSurveyReturned Surveyed Contradicts Unchanged status =
    ((status ≡ code Success) × Surveyed)
    ⊎ ((status ≡ code FactsContradict) × Contradicts × Unchanged)

-- the status of an error, and the index of the relocation or of the symbol at fault, if one is
abbrev pub rewriting_status : RewritingError → Status
rewriting_status errors.TooShort = ShortMemory
rewriting_status (errors.NotSurveyed n) = NotSurveyed
rewriting_status (errors.Overlaps n) = Overlaps
rewriting_status (errors.Contradiction symbol) = FactsContradict

abbrev pub faulty_after : RewritingError → ℕ → ℕ
faulty_after errors.TooShort old = old
faulty_after (errors.NotSurveyed n) old = n
faulty_after (errors.Overlaps n) old = n
faulty_after (errors.Contradiction symbol) old = symbol

-- an error of some kind, with which the section and its relocations are unchanged
pub record IsErrorReturned (IsError : RewritingError → Type 0) (bytes bytes_after : List ℕ)
    (section section_after : List ℕ) (old_faulty faulty status : ℕ) : Type 0 where
  pub error : RewritingError
  pub is : IsError error
  pub status_is : status ≡ code (rewriting_status error)
  pub faulty_is : faulty ≡ faulty_after error old_faulty
  pub entries : bytes_after ≡ bytes
  pub section_stays : section_after ≡ section

-- before addresses are known
abbrev pub IsRewriteReturned : RelaxContext → List UnrelaxableGroups → List ℕ → List ℕ → List ℕ → List ℕ
    → List DecisionNumbers → List DecisionNumbers → ℕ → ℕ → ℕ → Type 0
IsRewriteReturned s kept bytes bytes_after section section_after old new old_faulty faulty status =
    (drop (length bytes / 24) new ≡ drop (length bytes / 24) old)
    × (((status ≡ code Success) × (faulty ≡ old_faulty)
    × IsRewrittenAs s kept bytes bytes_after section section_after (decisions_in new)
    × All IsWrittenDecision (take (length bytes / 24) new))
    ⊎ IsErrorReturned (IsRejectedIn s kept bytes section (decisions_in new)) bytes bytes_after
    section section_after old_faulty faulty status)

abbrev pub IsDecisionReturned : RelaxContext → List UnrelaxableGroups → List ℕ → List ℕ
    → List DecisionNumbers → List DecisionNumbers → ℕ → ℕ → ℕ → Type 0
IsDecisionReturned s kept bytes section old new old_faulty faulty status =
    (drop (length bytes / 24) new ≡ drop (length bytes / 24) old)
    × (((status ≡ code Success) × (faulty ≡ old_faulty)
    × AreDecidedAs s kept bytes section (decisions_in new) (numbers_in new)
    × All IsKeptDecision (take (length bytes / 24) new))
    ⊎ IsErrorReturned (IsRejectedIn s kept bytes section (decisions_in new)) bytes bytes
    section section old_faulty faulty status)

abbrev pub making_status : DecisionError → Status
making_status making.TooShort = ShortMemory
making_status (making.Changed n) = DoesNotMatch
making_status (making.Overlaps n) = Overlaps

abbrev pub making_faulty : DecisionError → ℕ → ℕ
making_faulty making.TooShort old = old
making_faulty (making.Changed n) old = n
making_faulty (making.Overlaps n) old = n

abbrev pub IsMakingReturned : List ℕ → List ℕ → List ℕ → List ℕ → List DecisionNumbers → ℕ → ℕ → ℕ
    → Type 0
IsMakingReturned bytes bytes_after section section_after decisions old_faulty faulty status =
    ((status ≡ code Success) × (faulty ≡ old_faulty)
    × AreMadeAs bytes bytes_after section section_after (decisions_in decisions)
    (numbers_in decisions))
    ⊎ ((error : DecisionError)
    × IsUnmade bytes section (decisions_in decisions) (numbers_in decisions) error
    × (status ≡ code (making_status error)) × (faulty ≡ making_faulty error old_faulty)
    × (bytes_after ≡ bytes) × (section_after ≡ section))

-- what is to be deleted is written first, is in the section, and is listed as it ascends
pub record AreDeletionsTo (bytes section : List ℕ) (decisions : List Decision)
    (old new : List Deletion) (len : ℕ) : Type 0 where
  pub within : AllCanBeMade bytes section decisions (length bytes / 24)
  pub listed : take len (pairs_in new) ≡ deletions_by bytes decisions (length bytes / 24)
  pub others_stay : drop len new ≡ drop len old

-- once they are
abbrev pub IsPlacedReturned : RelaxContext → List UnrelaxableGroups → List ℕ → List ℕ → List ℕ → List ℕ
    → List DecisionNumbers → List DecisionNumbers → List Deletion → List Deletion → ℕ → ℕ → ℕ → ℕ
    → ℕ → Type 0
IsPlacedReturned s kept bytes bytes_after section section_after old new deleted deleted_after
    old_len len old_faulty faulty status =
    (drop (length bytes / 24) new ≡ drop (length bytes / 24) old)
    × (((status ≡ code Success) × (faulty ≡ old_faulty) × Agree s.symbols s.values bytes
    × IsRewrittenAs s kept bytes bytes_after section section_after (decisions_in new)
    × All IsWrittenDecision (take (length bytes / 24) new)
    × AreDeletionsTo bytes section (decisions_in new) deleted deleted_after len)
    ⊎ (IsErrorReturned (λ error. IsRejectedPlaced s kept bytes section (decisions_in new)
    (length deleted) error) bytes bytes_after section section_after old_faulty faulty status
    × (len ≡ old_len)))
