use Rattle.linker_base.proofs.Imports.{ap, arith, deletion_of, length-map, map, sym, ℕ, ◌∙◌}
use Rattle.linker_base.proofs.Search.{blank, deletion_at, only_at, none_at}
use Rattle.linker_base.proofs.relaxation.delta_slice.DeltaSlice.delta_at.Goals as goal
use Rattle.linker_base.proofs.relaxation.delta_slice.DeltaSlice.delta_at.Goals.{else-below-deltas-via-then-below-deltas+else-deltas-below, else-below-deltas-via-else-below-deltas}

pub returns-then-deltas-below : goal.returns-then-deltas-below
returns-then-deltas-below c valid =
    let deltas = c.deltas-deltas.result.now in
    let listed = rw (← c.deltas-deltas.ensures) at valid.valid in
    let k = c.count_below-below.result in
    let here = deletion_at deltas k blank (0, 0) c.if-below-deltas.true in
    rw (← c.deltas-deltas.ensures) (rw here at (only_at (map deletion_of deltas) listed.valid c.args.offset k (0, 0) (omega (arith, length-map deltas deletion_of)) (ap (λ (d : ℕ × ℕ). d.0) here ∙ c.if-deltas-below.true)))

-- the first delta that does not begin below the offset begins above it, or there is none
pub returns-else-below-deltas : goal.returns-else-below-deltas
returns-else-below-deltas c valid =
    let deltas = c.deltas-deltas.result.now in
    let listed = rw (← c.deltas-deltas.ensures) at valid.valid in
    let k = c.count_below-below.result in
    rw (← c.deltas-deltas.ensures) (none_at (map deletion_of deltas) listed.valid c.args.offset k (rw (← c.deltas-deltas.ensures) at (c.count_below-below.ensures.below valid.valid.valid valid.heads)) (λ e within at. elim c.else-below-deltas.branch [
      | else-below-deltas-via-then-below-deltas+else-deltas-below w ↦ w.if-deltas-below.false (ap (λ (d : ℕ × ℕ). d.0) (sym (deletion_at deltas k blank e w.if-below-deltas.true)) ∙ at)
      | else-below-deltas-via-else-below-deltas w ↦ omega (arith, length-map deltas deletion_of)
    ]))
