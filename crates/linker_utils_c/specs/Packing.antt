-- Packing by the numbers that C sees.
use Rattle.std.specs.Prelude.{◌≡◌, ◌≢◌, ◌⊎◌, ◌↔◌, ℕ, zero, suc, List, [], ◌∷◌, Option, None}
use Rattle.std.specs.Prelude.{Some, map, All, length}
use Rattle.linker_utils_c.specs.Imports.{AreValidDeltas, CallsNotApart, DifferentLengths, NotACall}
use Rattle.linker_utils_c.specs.Imports.{OddDistance, OutOfSection, RelaxDelta, SiteDeleted, Status}
use Rattle.linker_utils_c.specs.Imports.{Success, TooFar, deletions_of, rank}
use Rattle.linker_riscv64.specs.Packing.{call_of, AreApart, CanJump, IsFirstNotApart}
use Rattle.linker_riscv64.specs.Packing.{IsFirstRejected, IsPacked}
use Rattle.linker_riscv64.specs.declared.calls.Call.{Call}
use Rattle.linker_riscv64.specs.declared.calls.LinkRegister.{LinkRegister}
use Rattle.linker_riscv64.specs.declared.calls.LinkRegister.TheVariants.{OfAuipc, OfJalr}
use Rattle.linker_riscv64.specs.declared.calls.CallError.TheVariants as call_errors
use Rattle.linker_riscv64.specs.declared.calls.JumpError.{JumpError}
use Rattle.linker_riscv64.specs.declared.calls.JumpError.TheVariants as jump_errors
use Rattle.linker_utils_c.specs.Status.{code, IsOneOf}

-- the calls as pairs of a site and a target
abbrev pub calls_in : List Call → List (ℕ × ℕ)
calls_in calls = map call_of calls

-- the register that a number chooses
abbrev pub named_link : ℕ → Option LinkRegister
named_link zero = Some OfAuipc
named_link (suc zero) = Some OfJalr
named_link (suc (suc n)) = None

-- the status of why a call can't become a jump
abbrev pub error_status : JumpError → Status
error_status (jump_errors.Call call_errors.OutOfSection) = OutOfSection
error_status (jump_errors.Call call_errors.SiteDeleted) = SiteDeleted
error_status jump_errors.NotACall = NotACall
error_status (jump_errors.Call call_errors.OddDistance) = OddDistance
error_status (jump_errors.Call call_errors.TooFar) = TooFar

-- what a call that becomes a jump in place returns
abbrev pub relax_statuses : List Status
relax_statuses = Success ∷ OutOfSection ∷ SiteDeleted ∷ OddDistance ∷ TooFar ∷ []

-- what a pack returns that is about one of its calls
abbrev pub call_statuses : List Status
call_statuses =
    CallsNotApart ∷ OutOfSection ∷ SiteDeleted ∷ NotACall ∷ OddDistance ∷ TooFar ∷ []

-- the section was packed, and each call can become a jump
pub record IsPackedWhole (link : LinkRegister) (deletions : List (ℕ × ℕ)) (section : List ℕ)
    (calls : List (ℕ × ℕ)) (packed : List ℕ) (status : ℕ) : Type 0 where
  pub success : status ≡ code Success
  pub made : IsPacked link deletions section calls packed
  pub accepted : All (CanJump link deletions section) calls

-- the status says why the call at the index can't become a jump, and it is the first that can't
pub record IsCallRejected (link : LinkRegister) (deletions : List (ℕ × ℕ)) (section : List ℕ)
    (calls : List (ℕ × ℕ)) (at status : ℕ) : Type 0 where
  pub error : JumpError
  pub says : status ≡ code (error_status error)
  pub first : IsFirstRejected link deletions section calls at error

abbrev pub IsPackedOrRejected : LinkRegister → List (ℕ × ℕ) → List ℕ → List (ℕ × ℕ) → List ℕ → ℕ → ℕ
    → Type 0
IsPackedOrRejected link deletions section calls packed faulty status =
    IsPackedWhole link deletions section calls packed status
    ⊎ IsCallRejected link deletions section calls faulty status

-- what a pack returns, with any deltas
pub record IsPackReturned (link : LinkRegister) (deltas : List RelaxDelta) (section : List ℕ)
    (calls : List (ℕ × ℕ)) (before after : List ℕ) (faulty_before faulty status : ℕ)
    : Type 0 where
  pub listed : IsOneOf (Success ∷ DifferentLengths ∷ call_statuses) status
  pub not_apart : (status ≡ code CallsNotApart) ↔ ¬ AreApart calls
  pub different_lengths : AreValidDeltas deltas → AreApart calls
      → length before ≢ rank (deletions_of deltas) (length section)
      → status ≡ code DifferentLengths
  pub packed : AreValidDeltas deltas → AreApart calls
      → length before ≡ rank (deletions_of deltas) (length section)
      → IsPackedOrRejected link (deletions_of deltas) section calls after faulty status
  pub unchanged : status ≢ code Success → after ≡ before
  pub faulty_call : status ≡ code CallsNotApart → IsFirstNotApart calls faulty
  pub faulty_stays : ¬ IsOneOf call_statuses status → faulty ≡ faulty_before
