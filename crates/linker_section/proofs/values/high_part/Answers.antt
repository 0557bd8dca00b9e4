use Rattle.linker_section.proofs.Imports.{IfNone, IsNoHighPart, below_more, relocation_in, subst}
use Rattle.linker_section.proofs.values.high_part.Goals as goal

pub loop-index-preserved : goal.loop-index-preserved
loop-index-preserved c k below =
    let a = c.args in
    let none = IsNoHighPart a.architecture a.low a.at in
    below_more (λ j. none (relocation_in a.relocations.now j)) c.loop-index.index c.loop-index.invariant
    (subst (λ x. IfNone x (none (relocation_in a.relocations.now c.loop-index.index))) c.in_default-high_part_in.is c.high_part_in.ensures.none)
    k below
