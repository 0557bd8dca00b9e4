-- The kept bytes of a section, in order, with its calls made jumps.
use Rattle.std.specs.Prelude.{◌≡◌, ℕ, ◌+◌, ◌<◌, ◌≤◌, List, All, AllPairs, length, slice_index}
use Rattle.std.specs.Prelude.{slice_index_or, take, pos, ◌+ℤ◌, ⊤}
use Rattle.linker_base.specs.Deletions.{IsSelected, rank}
use Rattle.linker_elf.specs.RiscV.{riscv_form}
use Rattle.linker_riscv64.specs.RiscVCalls.{word_at, IsEven, IsJalDistance, IsSiteKept}
use Rattle.linker_riscv64.specs.RiscVCalls.{output_distance, call_len, NamesRegister, link_register}
use Rattle.linker_riscv64.specs.RiscVCalls.{IsJal}
use Rattle.linker_elf.specs.declared.riscv64.forms.RiscVInstruction.TheVariants.{JType}
use Rattle.linker_riscv64.specs.declared.packing.PackError.{PackError}
use Rattle.linker_riscv64.specs.declared.packing.PackError.TheVariants.{OutOfMemory}
use Rattle.linker_riscv64.specs.declared.packing.PackError.TheVariants.{Call as RejectedCall}
use Rattle.linker_riscv64.specs.declared.calls.Call as calls
use Rattle.linker_riscv64.specs.declared.calls.LinkRegister.{LinkRegister}
use Rattle.linker_riscv64.specs.declared.calls.LinkRegister.TheVariants.{OfAuipc}
use Rattle.linker_riscv64.specs.declared.calls.CallError.TheVariants.{OutOfSection, SiteDeleted}
use Rattle.linker_riscv64.specs.declared.calls.CallError.TheVariants.{OddDistance, TooFar}
use Rattle.linker_riscv64.specs.declared.calls.JumpError.{JumpError}
use Rattle.linker_riscv64.specs.declared.calls.JumpError.TheVariants.{Call, NotACall}

-- the call as a pair of its site and its target
abbrev pub call_of : calls.Call → ℕ × ℕ
call_of call = (call.site, call.target)

-- the site of the second call is at least 4 above that of the first
abbrev pub IsApart : ℕ × ℕ → ℕ × ℕ → Type 0
IsApart a b = a.0 + 4 ≤ b.0

-- the sites of calls, each a site and a target, ascend by at least 4
abbrev pub AreApart : List (ℕ × ℕ) → Type 0
AreApart calls = AllPairs IsApart calls

-- the call at the index is the first whose site is not 4 above the one before it
pub record IsFirstNotApart (calls : List (ℕ × ℕ)) (at : ℕ) : Type 0 where
  pub within : at < length calls
  pub before : AreApart (take at calls)
  pub here : ¬ AreApart (take (at + 1) calls)

-- the bytes that say which register the jump links lie in the section, and the target isn't past
-- its end
abbrev pub IsCallInSection : LinkRegister → List ℕ → ℕ × ℕ → Type 0
IsCallInSection link section call = (call.0 + call_len link ≤ length section)
    × (call.1 ≤ length section)

-- the call can become a jump
pub record CanJump (link : LinkRegister) (deletions : List (ℕ × ℕ)) (section : List ℕ)
    (call : ℕ × ℕ) : Type 0 where
  pub inside : IsCallInSection link section call
  pub kept : IsSiteKept deletions call.0
  pub names : NamesRegister link section call.0
  pub even : IsEven (output_distance deletions call.0 call.1)
  pub near : IsJalDistance (output_distance deletions call.0 call.1)

-- the first of these that does not hold
abbrev pub IsRejected : LinkRegister → List (ℕ × ℕ) → List ℕ → ℕ × ℕ → JumpError → Type 0
IsRejected link deletions section call (Call OutOfSection) = ¬ IsCallInSection link section call
IsRejected link deletions section call (Call SiteDeleted) = IsCallInSection link section call
    × ¬ IsSiteKept deletions call.0
IsRejected link deletions section call NotACall =
    IsCallInSection link section call × IsSiteKept deletions call.0
    × ¬ NamesRegister link section call.0
IsRejected link deletions section call (Call OddDistance) =
    IsCallInSection link section call × IsSiteKept deletions call.0
    × NamesRegister link section call.0 × ¬ IsEven (output_distance deletions call.0 call.1)
IsRejected link deletions section call (Call TooFar) =
    IsCallInSection link section call
    × IsSiteKept deletions call.0
    × NamesRegister link section call.0
    × IsEven (output_distance deletions call.0 call.1)
    × ¬ IsJalDistance (output_distance deletions call.0 call.1)

-- the call at the index is the first that can't become a jump, for this cause
pub record IsFirstRejected (link : LinkRegister) (deletions : List (ℕ × ℕ)) (section : List ℕ)
    (calls : List (ℕ × ℕ)) (at : ℕ) (error : JumpError) : Type 0 where
  pub within : at < length calls
  pub before : All (CanJump link deletions section) (take at calls)
  pub here : (call : ℕ × ℕ) → IsRejected link deletions section (slice_index_or calls at call) error

-- a section isn't packed for this cause: out of memory, or the first call that can't become a jump
abbrev pub IsFirstFailing : List (ℕ × ℕ) → List ℕ → List (ℕ × ℕ) → PackError → Type 0
IsFirstFailing deletions section calls OutOfMemory = ⊤
IsFirstFailing deletions section calls (RejectedCall at error) =
    IsFirstRejected OfAuipc deletions section calls at (Call error)

-- the position is not one of the four at the call's site
abbrev pub IsNotAt : ℕ → ℕ × ℕ → Type 0
IsNotAt p call = (call.0 ≤ p → call.0 + 4 ≤ p)

-- The kept bytes of the section, in order, but for the four at each call's site: there stands a
-- `jal` from where the site goes to where the target goes.
pub record IsPacked (link : LinkRegister) (deletions : List (ℕ × ℕ)) (section : List ℕ)
    (calls : List (ℕ × ℕ)) (packed : List ℕ) : Type 0 where
  pub len : length packed ≡ rank deletions (length section)
  pub kept : (y p : ℕ) → p < length section → IsSelected deletions y p → All (IsNotAt p) calls
      → slice_index packed y ≡ slice_index section p
  pub jumps : All (λ call.
      IsJal (word_at packed (rank deletions call.0)) (link_register link section call.0)
      (output_distance deletions call.0 call.1)) calls

-- in the packed section each listed call jumps from where its site goes to where its target goes
abbrev pub PackedCallsReachTargets : Type 0
PackedCallsReachTargets =
    (link : LinkRegister) (deletions : List (ℕ × ℕ)) (section : List ℕ) (calls : List (ℕ × ℕ))
    (packed : List ℕ)
    → IsPacked link deletions section calls packed
    → All (λ call. pos (rank deletions call.0)
    +ℤ (riscv_form JType).machine (word_at packed (rank deletions call.0))
    ≡ pos (rank deletions call.1)) calls
