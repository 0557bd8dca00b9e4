use Rattle.linker_elf.proofs.Imports.{EntryApplies, IsChoiceAt, subst}
use Rattle.linker_elf.proofs.ChoiceTables.{following, here, nowhere}
use Rattle.linker_elf.proofs.elf.choice_table.first_entry.Goals as goal

pub returns-in-Some : goal.returns-in-Some
returns-in-Some g c =
    let A = (EntryApplies g.K.RewriteSet.are_at g.K.Relocation.RelocationName.row_of g.K.RewriteSet.tables.after c.args.section.now c.args.offset c.args.facts.now) in
    let es = c.args.entries.now in
    (here A es c.args.otherwise c.in-Some.chosen 0 (subst (λ x. IsChoiceAt A es 0 x) c.in-Some.is c.choice_at.ensures))

pub returns-in-Some-choice_at : goal.returns-in-Some-choice_at
returns-in-Some-choice_at g c =
    let A = (EntryApplies g.K.RewriteSet.are_at g.K.Relocation.RelocationName.row_of g.K.RewriteSet.tables.after c.args.section.now c.args.offset c.args.facts.now) in
    let es = c.args.entries.now in
    (following A es c.args.otherwise c.in-Some-choice_at.chosen 0 (subst (λ x. IsChoiceAt A es 0 x) c.in_default.is c.choice_at.ensures)
    (here A es c.args.otherwise c.in-Some-choice_at.chosen 1 (subst (λ x. IsChoiceAt A es 1 x) c.in-Some-choice_at.is c.choice_at-2.ensures)))

pub returns-in-Some-choice_at-2 : goal.returns-in-Some-choice_at-2
returns-in-Some-choice_at-2 g c =
    let A = (EntryApplies g.K.RewriteSet.are_at g.K.Relocation.RelocationName.row_of g.K.RewriteSet.tables.after c.args.section.now c.args.offset c.args.facts.now) in
    let es = c.args.entries.now in
    (following A es c.args.otherwise c.in-Some-choice_at-2.chosen 0 (subst (λ x. IsChoiceAt A es 0 x) c.in_default.is c.choice_at.ensures)
    (following A es c.args.otherwise c.in-Some-choice_at-2.chosen 1 (subst (λ x. IsChoiceAt A es 1 x) c.in_default-choice_at.is c.choice_at-2.ensures)
    (here A es c.args.otherwise c.in-Some-choice_at-2.chosen 2 (subst (λ x. IsChoiceAt A es 2 x) c.in-Some-choice_at-2.is c.choice_at-3.ensures))))

pub returns-in-Some-choice_at-3 : goal.returns-in-Some-choice_at-3
returns-in-Some-choice_at-3 g c =
    let A = (EntryApplies g.K.RewriteSet.are_at g.K.Relocation.RelocationName.row_of g.K.RewriteSet.tables.after c.args.section.now c.args.offset c.args.facts.now) in
    let es = c.args.entries.now in
    (following A es c.args.otherwise c.in-Some-choice_at-3.chosen 0 (subst (λ x. IsChoiceAt A es 0 x) c.in_default.is c.choice_at.ensures)
    (following A es c.args.otherwise c.in-Some-choice_at-3.chosen 1 (subst (λ x. IsChoiceAt A es 1 x) c.in_default-choice_at.is c.choice_at-2.ensures)
    (following A es c.args.otherwise c.in-Some-choice_at-3.chosen 2 (subst (λ x. IsChoiceAt A es 2 x) c.in_default-choice_at-2.is c.choice_at-3.ensures)
    (here A es c.args.otherwise c.in-Some-choice_at-3.chosen 3 (subst (λ x. IsChoiceAt A es 3 x) c.in-Some-choice_at-3.is c.choice_at-4.ensures)))))

pub returns-in-Some-choice_at-4 : goal.returns-in-Some-choice_at-4
returns-in-Some-choice_at-4 g c =
    let A = (EntryApplies g.K.RewriteSet.are_at g.K.Relocation.RelocationName.row_of g.K.RewriteSet.tables.after c.args.section.now c.args.offset c.args.facts.now) in
    let es = c.args.entries.now in
    (following A es c.args.otherwise c.in-Some-choice_at-4.chosen 0 (subst (λ x. IsChoiceAt A es 0 x) c.in_default.is c.choice_at.ensures)
    (following A es c.args.otherwise c.in-Some-choice_at-4.chosen 1 (subst (λ x. IsChoiceAt A es 1 x) c.in_default-choice_at.is c.choice_at-2.ensures)
    (following A es c.args.otherwise c.in-Some-choice_at-4.chosen 2 (subst (λ x. IsChoiceAt A es 2 x) c.in_default-choice_at-2.is c.choice_at-3.ensures)
    (following A es c.args.otherwise c.in-Some-choice_at-4.chosen 3 (subst (λ x. IsChoiceAt A es 3 x) c.in_default-choice_at-3.is c.choice_at-4.ensures)
    (here A es c.args.otherwise c.in-Some-choice_at-4.chosen 4 (subst (λ x. IsChoiceAt A es 4 x) c.in-Some-choice_at-4.is c.choice_at-5.ensures))))))

pub returns : goal.returns
returns g c =
    let A = (EntryApplies g.K.RewriteSet.are_at g.K.Relocation.RelocationName.row_of g.K.RewriteSet.tables.after c.args.section.now c.args.offset c.args.facts.now) in
    let es = c.args.entries.now in
    (following A es c.args.otherwise c.args.otherwise 0 (subst (λ x. IsChoiceAt A es 0 x) c.in_default.is c.choice_at.ensures)
    (following A es c.args.otherwise c.args.otherwise 1 (subst (λ x. IsChoiceAt A es 1 x) c.in_default-choice_at.is c.choice_at-2.ensures)
    (following A es c.args.otherwise c.args.otherwise 2 (subst (λ x. IsChoiceAt A es 2 x) c.in_default-choice_at-2.is c.choice_at-3.ensures)
    (following A es c.args.otherwise c.args.otherwise 3 (subst (λ x. IsChoiceAt A es 3 x) c.in_default-choice_at-3.is c.choice_at-4.ensures)
    (following A es c.args.otherwise c.args.otherwise 4 (subst (λ x. IsChoiceAt A es 4 x) c.in_default-choice_at-4.is c.choice_at-5.ensures)
    (nowhere A es c.args.otherwise c.requires))))))
