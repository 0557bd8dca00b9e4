-- Decisions in numbers, as C has them.
use Rattle.std.specs.Prelude.{◌≡◌, ℕ, ◌==◌, ◌/◌, if◌then◌else◌, List, map, length, take, pos}
use Rattle.std.specs.Prelude.{Option, Some, None}
use Rattle.std.proofs.Common.{ap}
use Rattle.linker_elf.specs.Machines.{architecture_of}
use Rattle.linker_rewriting.specs.Decisions.{AllCanBeMade, deletions_by, pairs_in}
use Rattle.linker_rewriting.specs.Imports.{Architecture, Choice, Consumed, Decision}
use Rattle.linker_rewriting.specs.Imports.{DecisionNumbers, Deletion, Kept, Relaxation, Rewritten}
use Rattle.linker_rewriting.specs.Imports.{RewrittenWithSymbol, Subject, rewrite_of_number}

-- one that rewrites nothing
abbrev pub of_fate : ℕ → DecisionNumbers
of_fate fate = record {
  addend = pos 0;
  symbol = 0;
  rewrite = 0;
  relocation = 0;
  machine = 0;
  fate = fate;
  opcode_len = 0;
}

abbrev pub rewrite_in : DecisionNumbers → Option Architecture → Option Relaxation
rewrite_in numbers None = None
rewrite_in numbers (Some architecture) =
    rewrite_of_number architecture numbers.rewrite numbers.opcode_len

abbrev pub choice_of : DecisionNumbers → Option Relaxation → Option (Choice Relaxation ℕ)
choice_of numbers None = None
choice_of numbers (Some kind) = Some (record { kind = kind; relocation = numbers.relocation })

-- the rewrite and the relocation after it; none where the machine has no rewrite of these numbers
abbrev pub choice_in : DecisionNumbers → Option (Choice Relaxation ℕ)
choice_in numbers = choice_of numbers (rewrite_in numbers (architecture_of numbers.machine))

abbrev pub subject_in : DecisionNumbers → Subject
subject_in numbers = record { symbol = numbers.symbol; addend = numbers.addend }

abbrev pub rewritten_by : ℕ → Subject → Option (Choice Relaxation ℕ) → Decision
rewritten_by fate subject None = Kept
rewritten_by fate subject (Some chosen) =
    if fate == 1 then Rewritten chosen else RewrittenWithSymbol chosen subject

abbrev pub decision_by : ℕ → Subject → Option (Choice Relaxation ℕ) → Decision
decision_by fate subject choice =
    if fate == 0 then Kept
    else (if fate == 2 then Consumed else rewritten_by fate subject choice)

-- the decision that numbers are
abbrev pub decision_in : DecisionNumbers → Decision
decision_in numbers = decision_by numbers.fate (subject_in numbers) (choice_in numbers)

abbrev pub decisions_in : List DecisionNumbers → List Decision
decisions_in decisions = map decision_in decisions

-- Each decision can be made in a section's bytes.
abbrev pub AreMakeable : List ℕ → List ℕ → List DecisionNumbers → Type 0
AreMakeable relocations section decisions =
    AllCanBeMade relocations section (decisions_in decisions) (length relocations / 24)

-- The first n deletions of a list are all that the decisions have.
abbrev pub AreListed : List ℕ → List DecisionNumbers → List Deletion → ℕ → Type 0
AreListed relocations decisions deleted n =
    take n (pairs_in deleted)
    ≡ deletions_by relocations (decisions_in decisions) (length relocations / 24)

-- how one is written: one that rewrites nothing has no other number than its fate
abbrev pub IsWrittenAs : Decision → DecisionNumbers → Type 0
IsWrittenAs (Rewritten chosen) numbers =
    (numbers.fate ≡ 1) × (subject_in numbers ≡ record { symbol = 0; addend = pos 0 })
IsWrittenAs (RewrittenWithSymbol chosen subject) numbers = numbers.fate ≡ 3
IsWrittenAs Kept numbers = numbers ≡ of_fate 0
IsWrittenAs Consumed numbers = numbers ≡ of_fate 2

abbrev pub IsWrittenDecision : DecisionNumbers → Type 0
IsWrittenDecision numbers = IsWrittenAs (decision_in numbers) numbers

-- How one is kept: the symbol is then a number of the bytes that are rewritten.
abbrev pub IsKeptAs : Decision → DecisionNumbers → Type 0
IsKeptAs (Rewritten chosen) numbers = (numbers.fate ≡ 1) × (numbers.addend ≡ pos 0)
IsKeptAs decision numbers = IsWrittenAs decision numbers

abbrev pub IsKeptDecision : DecisionNumbers → Type 0
IsKeptDecision numbers = IsKeptAs (decision_in numbers) numbers

abbrev pub number_of : DecisionNumbers → ℕ
number_of numbers = numbers.symbol

abbrev pub numbers_in : List DecisionNumbers → List ℕ
numbers_in decisions = map number_of decisions

kept_as : (decision : Decision) (numbers : DecisionNumbers) → IsWrittenAs decision numbers
    → IsKeptAs decision numbers
kept_as (Rewritten chosen) numbers is = (is.0, ap (λ (s : Subject). s.addend) (is.1))
kept_as (RewrittenWithSymbol chosen subject) numbers is = is
kept_as Kept numbers is = is
kept_as Consumed numbers is = is

pub is_kept : (numbers : DecisionNumbers) → IsWrittenDecision numbers → IsKeptDecision numbers
is_kept numbers is = kept_as (decision_in numbers) numbers is
