-- What is noted of the groups of labels before a section is decided, in place of the decisions.
use Rattle.std.specs.Prelude.{◌≡◌, ℕ, ◌<◌, ◌≤◌, ◌/◌, Bool, true, false, List, length, Option, Some}
use Rattle.std.specs.Prelude.{None}
use Rattle.linker_rewriting.specs.Imports.{Addresses, Consumed, Decision, Phase, Rela, Symbol}
use Rattle.linker_rewriting.specs.Imports.{relocation_in}
use Rattle.linker_rewriting.specs.Decisions.{decision_at}
use Rattle.linker_rewriting.specs.Facts.{RelaxContext}
use Rattle.linker_rewriting.specs.RiscVPcrelGroups.{IsHighOf, IsInLabel, IsLabelNote, HasLacking}

-- a group stays
abbrev pub is_note : Decision → Bool
is_note Consumed = true
is_note decision = false

-- It is noted at exactly the high parts whose group a relocation below a limit keeps.
pub record AreHighsNoted (s : RelaxContext) (bytes section : List ℕ) (decisions : List Decision)
    (limit : ℕ) : Type 0 where
  pub sound : (high : ℕ) → high < length bytes / 24
      → is_note (decision_at decisions high) ≡ true → HasLacking s bytes section limit high
  pub complete : (high : ℕ) → HasLacking s bytes section limit high
      → is_note (decision_at decisions high) ≡ true

-- what is noted at a high part; a group without one stays
abbrev pub IsNoteAt : List Decision → Option ℕ → Decision → Type 0
IsNoteAt decisions None note = note ≡ Consumed
IsNoteAt decisions (Some high) note = note ≡ decision_at decisions high

-- of the label of a relocation
abbrev pub IsNoteOf : Phase → Addresses → List Symbol → List ℕ → List Decision → Rela → Decision
    → Type 0
IsNoteOf phase addresses values bytes decisions r note =
    (high : Option ℕ) × IsHighOf phase addresses values bytes r high
    × IsNoteAt decisions high note

-- it is noted at each relocation of a label from an index on
abbrev pub AreLabelsNoted : RelaxContext → List ℕ → List ℕ → List Decision → ℕ → Type 0
AreLabelsNoted s bytes section decisions from =
    (n : ℕ) → from ≤ n → n < length bytes / 24
    → IsInLabel s.architecture s.phase (relocation_in bytes n).r_type true
    → IsLabelNote s bytes section (relocation_in bytes n) (is_note (decision_at decisions n))
