use Rattle.linker_rewriting.proofs.Imports.{IsWrittenAs, Some, pos, subst, sym, ◌∙◌}
use Rattle.linker_rewriting.proofs.Numbers.{decided_in}
use Rattle.linker_rewriting.proofs.decisions.numbers.DecisionNumbers.from_decision.Goals as goal

pub returns-in-Rewritten-clause-decision : goal.returns-in-Rewritten-clause-decision
returns-in-Rewritten-clause-decision c =
    decided_in c.of_choice.result 1 (record { symbol = 0; addend = pos 0 }) (Some c.in-Rewritten.choice) c.of_choice.ensures.fate c.of_choice.ensures.subject c.of_choice.ensures.choice
    ∙ sym c.in-Rewritten.is

pub returns-in-Rewritten-clause-form : goal.returns-in-Rewritten-clause-form
returns-in-Rewritten-clause-form c =
    let is = decided_in c.of_choice.result 1 (record { symbol = 0; addend = pos 0 }) (Some c.in-Rewritten.choice) c.of_choice.ensures.fate c.of_choice.ensures.subject c.of_choice.ensures.choice in
    subst (λ d. IsWrittenAs d c.of_choice.result) (sym is) (c.of_choice.ensures.fate, c.of_choice.ensures.subject)

pub returns-in-RewrittenWithSymbol-clause-decision : goal.returns-in-RewrittenWithSymbol-clause-decision
returns-in-RewrittenWithSymbol-clause-decision c =
    let made = c.of_choice-in-RewrittenWithSymbol in
    decided_in made.result 3 c.in-RewrittenWithSymbol.subject (Some c.in-RewrittenWithSymbol.choice) made.ensures.fate made.ensures.subject made.ensures.choice
    ∙ sym c.in-RewrittenWithSymbol.is

pub returns-in-RewrittenWithSymbol-clause-form : goal.returns-in-RewrittenWithSymbol-clause-form
returns-in-RewrittenWithSymbol-clause-form c =
    let made = c.of_choice-in-RewrittenWithSymbol in
    let is = decided_in made.result 3 c.in-RewrittenWithSymbol.subject (Some c.in-RewrittenWithSymbol.choice) made.ensures.fate made.ensures.subject made.ensures.choice in
    subst (λ d. IsWrittenAs d made.result) (sym is) made.ensures.fate
