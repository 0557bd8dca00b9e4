-- Decisions in numbers.
use Rattle.linker_rewriting.proofs.Imports.{AArch64, Architecture, Choice, DecisionNumbers, LoongArch64, Option, Ppc64, Relaxation, RiscV, Some, X86_64, ap, choice_in, choice_of, decision_by, decision_in, refl, relaxation_architecture, rewrite_in, rewrite_of_number, subject_in, ℕ, ◌∙◌, ◌≡◌}
use Rattle.linker_rewriting.specs.declared.decisions.Subject.{Subject}
use Rattle.linker_elf.specs.Machines.{architecture_of, machine_of}

own_architecture : (a : Architecture) → architecture_of (machine_of a) ≡ Some a
own_architecture AArch64 = refl
own_architecture RiscV = refl
own_architecture LoongArch64 = refl
own_architecture Ppc64 = refl
own_architecture X86_64 = refl

-- a rewrite by its numbers and its machine
pub chosen_in : (numbers : DecisionNumbers) (chosen : Choice Relaxation ℕ)
    → numbers.machine ≡ machine_of (relaxation_architecture chosen.kind)
    → rewrite_of_number (relaxation_architecture chosen.kind) numbers.rewrite numbers.opcode_len
    ≡ Some chosen.kind
    → numbers.relocation ≡ chosen.relocation → choice_in numbers ≡ Some chosen
chosen_in numbers chosen machine number relocation =
    ap (λ m. choice_of numbers (rewrite_in numbers (architecture_of m))) machine
    ∙ (ap (λ a. choice_of numbers (rewrite_in numbers a)) (own_architecture (relaxation_architecture chosen.kind))
    ∙ (ap (choice_of numbers) number
    ∙ ap (λ r. Some (record { kind = chosen.kind; relocation = r })) relocation))

-- a decision by its parts
pub decided_in : (numbers : DecisionNumbers) (fate : ℕ) (subject : Subject)
    (choice : Option (Choice Relaxation ℕ)) → numbers.fate ≡ fate → subject_in numbers ≡ subject
    → choice_in numbers ≡ choice → decision_in numbers ≡ decision_by fate subject choice
decided_in numbers fate subject choice f s c =
    ap (λ x. decision_by x (subject_in numbers) (choice_in numbers)) f
    ∙ (ap (λ x. decision_by fate x (choice_in numbers)) s
    ∙ ap (decision_by fate subject) c)
