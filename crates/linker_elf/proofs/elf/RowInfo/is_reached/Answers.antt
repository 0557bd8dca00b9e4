use Rattle.linker_elf.proofs.Imports.{IsEncoded, IsTrue, arith, ints, reach_of, subst, sym, to_z-of_z, w64, ◌↔◌, ◌≤ℤ◌}
use Rattle.linker_elf.proofs.Reached.{ends_of, within_from}
use Rattle.linker_elf.proofs.elf.RowInfo.is_reached.Goals.{then-value-tests-via-then-value-tests, then-value-tests-via-else-value-tests+then-tests-value}
use Rattle.linker_elf.proofs.elf.RowInfo.is_reached.Goals as goal

pub returns-then-value-tests : goal.returns-then-value-tests
returns-then-value-tests c =
    let v = c.args.value in (
      λ yes. cc,
      λ reached.
          let ends = subst (λ t. (t.least ≤ℤ v) × (v ≤ℤ t.last)) (sym c.requires) (ends_of (reach_of c.args.self.now) v c.ranges.value reached.0) in
          elim c.then-value-tests.branch [
            | then-value-tests-via-then-value-tests w ↦ absurd (omega (arith, ints, ends.0, w.if-value-tests.true))
            | then-value-tests-via-else-value-tests+then-tests-value w ↦ absurd (omega (arith, ints, ends.1, w.if-tests-value.true))
          ],
    )

pub returns : goal.returns
returns c =
    let row = c.args.self.now in
    let v = c.args.value in
    let low : c.args.tests.now.least ≤ℤ v = omega (arith, ints, c.if-value-tests.false) in
    let high : v ≤ℤ c.args.tests.now.last = omega (arith, ints, c.if-tests-value.false) in
    let within = within_from (reach_of row) v (subst (λ t. t.least ≤ℤ v) c.requires low) (subst (λ t. v ≤ℤ t.last) c.requires high) c.ranges.value in
    let encoded = subst (λ z. IsTrue c.is_encoded.result ↔ IsEncoded row.size z) (to_z-of_z w64 v c.ranges.value) c.is_encoded.ensures in
    (λ yes. (within, encoded.0 yes), λ reached. encoded.1 reached.1)
