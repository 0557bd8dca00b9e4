-- Which calls become jumps when each that does gives up the four bytes after its first instruction
-- (RISC-V ELF psABI, "Function Call Relaxation"). A choice of calls is a list of truth values, one
-- for each call.
use Rattle.std.specs.Prelude.{◌≡◌, ℕ, ◌+◌, ◌<◌, ◌≤◌, Bool, true, false, List, [], ◌∷◌, ◌++◌, All}
use Rattle.std.specs.Prelude.{AllPairs, length, map, slice_index_or, take}
use Rattle.linker_base.specs.Deletions.{AreDisjoint, AreKept, IsInsideDeletion, IsSortedUnion}
use Rattle.linker_riscv64.specs.Packing.{IsRejected}
use Rattle.linker_riscv64.specs.RiscVCalls.{IsEven, IsJalDistance, output_distance}
use Rattle.linker_riscv64.specs.declared.calls.CallError.TheVariants.{OddDistance, TooFar}
use Rattle.linker_riscv64.specs.declared.calls.JumpError.TheVariants.{Call}
use Rattle.linker_riscv64.specs.declared.calls.LinkRegister.{LinkRegister}

-- what a call deletes that becomes a jump: the four bytes after its first instruction
abbrev pub shrinking : ℕ × ℕ → ℕ × ℕ
shrinking call = (call.0 + 4, 4)

-- what the chosen calls delete
abbrev pub chosen_deletions : List (ℕ × ℕ) → List Bool → List (ℕ × ℕ)
chosen_deletions [] chosen = []
chosen_deletions (call ∷ calls) [] = []
chosen_deletions (call ∷ calls) (true ∷ chosen) = shrinking call ∷ chosen_deletions calls chosen
chosen_deletions (call ∷ calls) (false ∷ chosen) = chosen_deletions calls chosen

-- the deletions, and those of the chosen calls
abbrev pub with_chosen : List (ℕ × ℕ) → List (ℕ × ℕ) → List Bool → List (ℕ × ℕ)
with_chosen deletions calls chosen = deletions ++ chosen_deletions calls chosen

-- the distance from the call's site to its target is even and in the range of `jal`
abbrev pub IsInReach : List (ℕ × ℕ) → ℕ × ℕ → Type 0
IsInReach deletions call = IsEven (output_distance deletions call.0 call.1)
    × IsJalDistance (output_distance deletions call.0 call.1)

-- the choice has the call at the index
abbrev pub IsChosen : List Bool → ℕ → Type 0
IsChosen chosen i = slice_index_or chosen i false ≡ true

-- each chosen call is in reach once all of them have given up their bytes
abbrev pub AreInReach : List (ℕ × ℕ) → List (ℕ × ℕ) → List Bool → Type 0
AreInReach deletions calls chosen =
    (i : ℕ) (call : ℕ × ℕ) → i < length calls → IsChosen chosen i
    → IsInReach (with_chosen deletions calls chosen) (slice_index_or calls i call)

-- each call of the one choice is in the other
abbrev pub IsPartOf : List Bool → List Bool → Type 0
IsPartOf part whole = (i : ℕ) → IsChosen part i → IsChosen whole i

-- the choice is in reach, and has each choice that is in reach
pub record IsGreatest (deletions calls : List (ℕ × ℕ)) (chosen : List Bool) : Type 0 where
  pub one_each : length chosen ≡ length calls
  pub in_reach : AreInReach deletions calls chosen
  pub has_others : (other : List Bool) → length other ≡ length calls
      → AreInReach deletions calls other → IsPartOf other chosen

-- Calls of eight kept bytes each, none of which reaches past the next, whose deletions may be
-- merged with the others. No target is strictly inside one of these deletions.
pub record AreShrinkable (deletions calls : List (ℕ × ℕ)) : Type 0 where
  pub apart : AllPairs (λ a b. a.0 + 8 ≤ b.0) calls
  pub kept : All (λ call. AreKept deletions call.0 8) calls
  pub mergeable : AreDisjoint (deletions ++ map shrinking calls)
  pub outside : All (λ call. ¬ IsInsideDeletion (map shrinking calls) call.1) calls

-- the calls before the index are shrinkable, and with the one there they aren't
pub record IsFirstNotShrinkable (deletions calls : List (ℕ × ℕ)) (at : ℕ) : Type 0 where
  pub within : at < length calls
  pub before : AreShrinkable deletions (take at calls)
  pub here : ¬ AreShrinkable deletions (take (at + 1) calls)

-- once what the choice deletes is merged, no chosen call is rejected for its distance
abbrev pub ShrunkCallsAreAccepted : Type 0
ShrunkCallsAreAccepted =
    (link : LinkRegister) (deletions merged calls : List (ℕ × ℕ)) (section : List ℕ)
    (chosen : List Bool) (i : ℕ) (call : ℕ × ℕ)
    → AreInReach deletions calls chosen
    → IsSortedUnion (with_chosen deletions calls chosen) merged
    → i < length calls
    → IsChosen chosen i
    → (¬ IsRejected link merged section (slice_index_or calls i call) (Call OddDistance))
    × (¬ IsRejected link merged section (slice_index_or calls i call) (Call TooFar))
