use Rattle.linker_runs.proofs.Imports.{arith, length-map, refl}
use Rattle.linker_runs.proofs.items.rewritten.rewritten_items_into.Goals as goal

pub returns-in-Err-clause-unchanged : goal.returns-in-Err-clause-unchanged
returns-in-Err-clause-unchanged g c = λ other. absurd (other c.in-Err.index refl)

pub returns-in-Err-clause-cause : goal.returns-in-Err-clause-cause
returns-in-Err-clause-cause g c =
    let relocations = length-map c.args.relocations.now g.R.AsRelocation.relocation in
    let overlaps = c.in-Err.ensures.overlaps in (
      λ k below. (rw c.in_default.is at c.first_malformed.ensures) k (omega (arith, below, relocations)),
      λ k below. (rw c.in_default-first_misplaced.is at c.first_misplaced.ensures) k (omega (arith, below, (length-map c.args.deleted.now g.L.AsDeletion.deletion))),
      omega (arith, overlaps.0, relocations),
      overlaps.1,
    )
