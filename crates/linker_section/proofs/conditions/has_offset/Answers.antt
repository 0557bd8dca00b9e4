use Rattle.linker_section.proofs.Imports.{arith, nat_tests, take_rest}
use Rattle.linker_section.proofs.conditions.has_offset.Goals as goal

pub returns-then-there-window : goal.returns-then-there-window
returns-then-there-window c =
    (λ _ _ fits. absurd (omega (arith, (rw (take_rest c.args.section.now c.args.offset) at c.if-there-window.true), fits)), λ _. grind (arith, nat_tests, c.if-there-window.true))
