-- Which relocations are rewritten in a phase, and for which a survey asks.
use Rattle.std.specs.Prelude.{◌≡◌, ◌<◌, ◌≤◌, ◌/◌, ℕ, Bool, true, false, List, length, slice_get}
use Rattle.linker_rewriting.specs.Imports.{Architecture, Grouped, IfGroupMatches, NotRelaxable}
use Rattle.linker_rewriting.specs.Imports.{Phase, Rela, RelaxContext as Passed, Scope, SymbolFacts}
use Rattle.linker_rewriting.specs.Imports.{relocation_in}
use Rattle.linker_rewriting.specs.Groups.{IsScopeIn}
use Rattle.linker_rewriting.specs.Surveys.{needs_mark}

-- a relocation with an `r_type` that isn't listed has no scope
abbrev pub IsListed : Architecture → Phase → ℕ → Bool → Type 0
IsListed architecture phase r_type listed =
    listed ≡ false → IsScopeIn architecture phase r_type NotRelaxable

-- no relocation with an index below a limit may be rewritten, by its `r_type`
abbrev pub AreUnlisted : Architecture → Phase → List ℕ → ℕ → Type 0
AreUnlisted architecture phase bytes limit =
    (n : ℕ) → n < limit → IsScopeIn architecture phase (relocation_in bytes n).r_type NotRelaxable

-- a survey asks for the rewrite of what is of a group
abbrev pub is_of_group : Scope → Bool
is_of_group (Grouped group) = true
is_of_group (IfGroupMatches group) = true
is_of_group scope = false

abbrev pub IsOfNone : Architecture → Phase → ℕ → Type 0
IsOfNone architecture phase r_type =
    (scope : Scope) × IsScopeIn architecture phase r_type scope × (is_of_group scope ≡ false)

-- one that it doesn't ask for is of none
abbrev pub IsUngroupedUnless : Architecture → Phase → ℕ → Bool → Type 0
IsUngroupedUnless architecture phase r_type may_be_grouped =
    may_be_grouped ≡ false → IsOfNone architecture phase r_type

-- a relocation is of no group, and needs no mark
abbrev pub KeepsNone : Architecture → Phase → List SymbolFacts → Rela → Type 0
KeepsNone architecture phase symbols r =
    IsOfNone architecture phase r.r_type
    × (needs_mark phase architecture (slice_get symbols r.symbol) ≡ false)

-- The relocations from an index on and below the next one are of no group, and need no mark.
pub record IsNextKeeping (s : Passed) (bytes : List ℕ) (first next : ℕ) : Type 0 where
  pub from : first ≤ next
  pub within : next ≤ length bytes / 24
  pub between : (n : ℕ) → first ≤ n → n < next
      → KeepsNone s.architecture s.phase s.symbols.now (relocation_in bytes n)
