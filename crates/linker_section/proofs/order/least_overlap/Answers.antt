use Rattle.linker_section.proofs.Imports.{IsOverlapped, arith, cases_eq, inl, inr, subst}
use Rattle.linker_section.proofs.order.least_overlap.Goals as goal

pub returns-then-are_apart : goal.returns-then-are_apart
returns-then-are_apart c = (
  c.are_apart.ensures.yes c.if-are_apart.true,
  (λ under. absurd (let n = c.relocations_len-len.ensures in omega (arith, under, n))),
)

pub loop-high-preserved-then-are_apart-2 : goal.loop-high-preserved-then-are_apart-2
loop-high-preserved-then-are_apart-2 c =
    let inv = c.loop-high.invariant in
    record {
      order = let t = c.loop-high-test.true in let o = inv.order in omega (arith, t, o);
      within = inv.within;
      apart = c.are_apart-in-loop-high.ensures.yes c.if-are_apart-2.true;
      overlapped = inv.overlapped;
    }

pub returns : goal.returns
returns c =
    let a = c.args in
    let inv = c.loop-high.invariant in
    let j = inv.overlapped.0 in
    let at = inv.overlapped.2 in (
      inv.apart,
      (λ under. elim (cases_eq j c.loop-high.low) [
        | inl is ↦ subst (IsOverlapped a.architecture a.relocations.now a.section.now) is at
        | inr isnt ↦
            let below = inv.overlapped.1 in let o = inv.order in let t = c.loop-high-test.false in
            absurd (at.apart (inv.apart at.earlier j at.row at.other at.order (omega (arith, isnt, below, o, t)) at.is_field at.is_other at.overlap))
      ]),
    )
