use Rattle.linker_section.proofs.Imports.{below_more, false, is_upper, relocation_in, subst, sym, ◌∙◌, ◌≡◌, ◌≤◌}
use Rattle.linker_section.proofs.conditions.has_upper_among.Goals as goal

pub loop-index-preserved : goal.loop-index-preserved
loop-index-preserved c k from below =
    let a = c.args in
    below_more (λ j. a.from ≤ j → is_upper a.high.now (relocation_in a.relocations.now j) ≡ false)
    c.loop-index.index (λ j under first. c.loop-index.invariant j first under)
    (λ _. subst (λ r. is_upper a.high.now r ≡ false) c.relocation_in.ensures (sym c.is_upper.ensures ∙ c.if-is_upper.false))
    k below from
