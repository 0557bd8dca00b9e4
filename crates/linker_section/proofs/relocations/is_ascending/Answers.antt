use Rattle.linker_section.proofs.Imports.{arith, cases_eq, inl, inr, sym, true≢false, ◌-◌}
use Rattle.linker_section.proofs.relocations.is_ascending.Goals as goal

pub returns-then-offset-least : goal.returns-then-offset-least
returns-then-offset-least c = (
  (λ is. absurd (true≢false (sym is))),
  (λ ascending.
      let k = c.loop-index.index in
      let test = c.if-offset-least.true in
      let e = c.offset_at-offset.ensures in
      let n = c.relocations_len-index-end.ensures in
      elim (cases_eq k 0) [
        | inl first ↦ let z = c.loop-index.invariant.first first in absurd (omega (arith, test, z))
        | inr some ↦
            absurd (omega (arith, test, e, (c.loop-index.invariant.reached (k - 1) (omega (arith, some))), (ascending (k - 1) k (omega arith) (omega (arith, c.loop-index-test.true, n)))))
      ]),
)
