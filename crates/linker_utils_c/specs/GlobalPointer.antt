-- Addresses near the global pointer, in the numbers that C sees.
use Rattle.std.specs.Prelude.{◌≡◌, ◌⊎◌, ℕ, ◌<◌, ◌/◌, List, Bool, true, length, take, drop, All}
use Rattle.linker_utils_c.specs.Imports.{Addresses, Agree, DecisionNumbers, IsWrittenDecision}
use Rattle.linker_utils_c.specs.Imports.{OutOfReach, RelaxContext, Success, Symbol, decisions_in}
use Rattle.linker_rewriting.specs.Decisions.{IsRejectedFirst}
use Rattle.linker_rewriting.specs.GlobalPointer.{ArePartsRewrittenAs, ArePartsRejected, AreBased}
use Rattle.linker_rewriting.specs.GlobalPointer.{section_based, is_placed, IsFirstUnplaced}
use Rattle.linker_section.specs.Relocations.{relocation_in}
use Rattle.linker_utils_c.specs.Rewriting.{IsErrorReturned}
use Rattle.linker_utils_c.specs.Rewriting.{AreDeletionsTo}
use Rattle.linker_utils_c.specs.Status.{code}
use Rattle.linker_rewriting.specs.declared.decisions.Deletion.{Deletion}

abbrev pub ArePartsReturned : RelaxContext → ℕ → List Bool → List ℕ → List ℕ → List ℕ
    → List DecisionNumbers → List DecisionNumbers → List Deletion → List Deletion → ℕ → ℕ → ℕ → ℕ
    → ℕ → Type 0
ArePartsReturned s gp kept bytes bytes_after section old new deleted deleted_after old_len len
    old_faulty faulty status =
    (drop (length bytes / 24) new ≡ drop (length bytes / 24) old)
    × (((status ≡ code Success) × (faulty ≡ old_faulty) × Agree s.symbols s.values bytes
    × ArePartsRewrittenAs s gp kept bytes bytes_after section (decisions_in new)
    × All IsWrittenDecision (take (length bytes / 24) new)
    × AreDeletionsTo bytes section (decisions_in new) deleted deleted_after len)
    ⊎ (IsErrorReturned (λ error. IsRejectedFirst s.symbols s.values bytes
    (ArePartsRejected s gp kept bytes section (decisions_in new) (length deleted)) error) bytes bytes_after section section old_faulty faulty status
    × (len ≡ old_len)))

-- each low part has its base, or nothing changes
pub record AreBasesWritten (addresses : Addresses) (values : List Symbol) (gp : ℕ)
    (bytes bytes_after section section_after : List ℕ) : Type 0 where
  pub placed : (n : ℕ) → n < length bytes / 24
      → is_placed addresses values gp section (relocation_in bytes n) ≡ true
  pub relocations : AreBased addresses values gp bytes bytes_after (length bytes / 24)
  pub bytes_are : section_after
      ≡ section_based addresses values gp bytes section (length bytes / 24)

abbrev pub AreBasesReturned : Addresses → List Symbol → ℕ → List ℕ → List ℕ → List ℕ → List ℕ → ℕ
    → ℕ → ℕ → Type 0
AreBasesReturned addresses values gp bytes bytes_after section section_after old_faulty faulty
    status =
    ((status ≡ code Success) × (faulty ≡ old_faulty)
    × AreBasesWritten addresses values gp bytes bytes_after section section_after)
    ⊎ ((status ≡ code OutOfReach) × IsFirstUnplaced addresses values gp bytes section faulty
    × (bytes_after ≡ bytes) × (section_after ≡ section))
