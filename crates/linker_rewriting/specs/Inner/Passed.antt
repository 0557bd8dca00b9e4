-- What contracts say of contexts, sites and decisions, as the code has them.
use Rattle.std.specs.Prelude.{◌≡◌, ◌<◌, ◌/◌, ℕ, List, Bool, false, length, Option, None, Some}
use Rattle.std.specs.Prelude.{IfSome}
use Rattle.linker_rewriting.specs.Imports.{Addresses, Choice, Decision, DecisionNumbers, Kept, Rela}
use Rattle.linker_rewriting.specs.Imports.{RelaxContext as Passed, Relaxation, Rewritten, Symbol}
use Rattle.linker_rewriting.specs.Decisions.{AreApart, IsThere, decision_at}
use Rattle.linker_rewriting.specs.Facts.{RelaxContext, context_of}
use Rattle.linker_rewriting.specs.Notes.{AreHighsNoted, AreLabelsNoted}
use Rattle.linker_rewriting.specs.Numbers.{decisions_in}
use Rattle.linker_rewriting.specs.declared.global_pointer.Bases.{Bases}
use Rattle.linker_rewriting.specs.declared.relocations.Site.{Site}

-- a fact of a relocation with an index, in a context
abbrev pub at_site {ℓ} : {X : Type ℓ} → (RelaxContext → List ℕ → List ℕ → ℕ → Rela → X) → Passed → Site → X
at_site Is context site =
    Is (context_of context) site.relocations.now site.section.now site.index site.relocation

-- the decision, if any, can be made there
abbrev pub CanStand : Site → Option Decision → Type 0
CanStand site = λ decision. IfSome decision (λ d. IsThere d site.section.now site.relocation.offset)

-- so can the rewrite
abbrev pub CanBeRewritten : Site → Option (Choice Relaxation ℕ) → Type 0
CanBeRewritten site = λ chosen.
    IfSome chosen (λ c. IsThere (Rewritten c) site.section.now site.relocation.offset)

-- a fact by addresses, symbols and the global pointer
abbrev pub by_bases {ℓ} : {X : Type ℓ} → (Addresses → List Symbol → ℕ → X) → Bases → X
by_bases Is bases = Is bases.addresses.now bases.values.now bases.gp

-- the decisions below a limit leave their relocations as they are
abbrev pub AreKept : List Decision → ℕ → Type 0
AreKept decisions limit = (n : ℕ) → n < limit → decision_at decisions n ≡ Kept

-- the bytes of decisions are apart
abbrev pub AreAllApart : List ℕ → List DecisionNumbers → Type 0
AreAllApart bytes decisions = AreApart bytes (decisions_in decisions) (length bytes / 24)

-- all relocations stay, unless something changes
abbrev pub StayUnless : Bool → List ℕ → List DecisionNumbers → Type 0
StayUnless changes bytes decisions =
    changes ≡ false → AreKept (decisions_in decisions) (length bytes / 24)

-- a relocation with another `r_type`
abbrev pub with_r_type : ℕ → Rela → Rela
with_r_type r_type r = record r { r_type = r_type }

-- a word is the one, if any
abbrev pub IsThatWord : Option ℕ → ℕ → Type 0
IsThatWord None word = ⊥
IsThatWord (Some that) word = word ≡ that

-- each is the same decision
abbrev pub AreSet : List ℕ → Decision → List DecisionNumbers → Type 0
AreSet bytes decision decisions =
    (n : ℕ) → n < length bytes / 24 → decision_at (decisions_in decisions) n ≡ decision

-- the groups that stay are noted at their high parts
abbrev pub AreAllHighsNoted : Passed → List ℕ → List ℕ → List DecisionNumbers → Type 0
AreAllHighsNoted s bytes section decisions =
    AreHighsNoted (context_of s) bytes section (decisions_in decisions) (length bytes / 24)

-- and at each relocation of a label
abbrev pub AreAllLabelsNoted : Passed → List ℕ → List ℕ → List DecisionNumbers → Type 0
AreAllLabelsNoted s bytes section decisions =
    AreLabelsNoted (context_of s) bytes section (decisions_in decisions) 0
