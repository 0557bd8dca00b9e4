use Rattle.linker_runs.proofs.Imports.{CALL, TAIL_C, false, false≢true, inl, inr, sym, ⊎_elim, ◌∙◌}
use Rattle.linker_runs.proofs.Same.{shapes_decide}
use Rattle.linker_runs.proofs.packing.riscv64.are_of_link.Goals as goal

pub returns-then-eq : goal.returns-then-eq
returns-then-eq c =
    (λ is. inl ((shapes_decide c.args.shapes.now CALL c.eq.result c.eq.ensures).0 is), λ h. c.if-eq.true)

pub returns-then-links_short : goal.returns-then-links_short
returns-then-links_short c =
    let tail = shapes_decide c.args.shapes.now TAIL_C c.eq-then-links_short.result c.eq-then-links_short.ensures in (
      λ is. inr (tail.0 is, sym c.links_short.ensures ∙ c.if-links_short.true),
      λ h. ⊎_elim (λ is. absurd (false≢true (sym c.if-eq.false ∙ (shapes_decide c.args.shapes.now CALL c.eq.result c.eq.ensures).1 is))) (λ is. tail.1 is.0) h,
    )
