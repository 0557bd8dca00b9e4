use Rattle.linker_runs.proofs.Imports.{CALL36, IsTrue, arith, false, false≢true, nat_eq, nat_tests, refl, sym, true, ℕ, ◌%◌, ◌↔◌, ◌∙◌, ◌≡◌}
use Rattle.linker_runs.proofs.Same.{shapes_decide}
use Rattle.linker_runs.proofs.relaxation.Site.is_in_words.Goals as goal

same : (a b : ℕ) → IsTrue (nat_eq a b) ↔ (a ≡ b)
same a b = (λ yes. grind (arith, nat_tests), λ is. grind (arith, nat_tests))

pub returns-then-eq : goal.returns-then-eq
returns-then-eq c =
    let words = same (c.args.self.now.target % 4) (c.args.self.now.offset % 4) in
    (λ yes is. words.0 yes, λ met. words.1 (met ((shapes_decide c.args.self.now.shapes CALL36 c.eq.result c.eq.ensures).0 c.if-eq.true)))

pub returns-else-eq : goal.returns-else-eq
returns-else-eq c =
    (λ yes is. absurd (false≢true (sym c.if-eq.false ∙ (shapes_decide c.args.self.now.shapes CALL36 c.eq.result c.eq.ensures).1 is)), λ words. refl)
