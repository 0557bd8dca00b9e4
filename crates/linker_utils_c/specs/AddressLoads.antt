-- Loads of addresses from words of a section, rewritten in one call, in the numbers that C sees.
use Rattle.std.specs.Prelude.{◌≡◌, ◌⊎◌, ℕ, ◌/◌, Bool, List, length, take, drop, All}
use Rattle.linker_utils_c.specs.Imports.{Agree, DecisionNumbers, IsWrittenDecision, RelaxContext}
use Rattle.linker_utils_c.specs.Imports.{Success, decisions_in}
use Rattle.linker_rewriting.specs.TocIndirection.{AreLoadsRewrittenAs, AreLoadsRejectedFirst}
use Rattle.linker_utils_c.specs.Rewriting.{IsErrorReturned}
use Rattle.linker_utils_c.specs.Status.{code}

abbrev pub AreLoadsReturned : RelaxContext → ℕ → List ℕ → List Bool → List ℕ → List ℕ → List ℕ → List ℕ
    → List DecisionNumbers → List DecisionNumbers → ℕ → ℕ → ℕ → Type 0
AreLoadsReturned s start words kept bytes bytes_after section section_after old new
    old_faulty faulty status =
    (drop (length bytes / 24) new ≡ drop (length bytes / 24) old)
    × (((status ≡ code Success) × (faulty ≡ old_faulty)
    × Agree s.symbols s.values bytes
    × AreLoadsRewrittenAs s start words kept bytes bytes_after section section_after
    (decisions_in new)
    × All IsWrittenDecision (take (length bytes / 24) new))
    ⊎ IsErrorReturned (AreLoadsRejectedFirst s start words kept bytes section (decisions_in new)) bytes
    bytes_after section section_after old_faulty faulty status)
