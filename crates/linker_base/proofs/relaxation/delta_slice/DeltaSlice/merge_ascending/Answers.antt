use Rattle.linker_base.proofs.Imports.{arith, deletion_of, length-map, refl}
use Rattle.linker_base.proofs.Fronts.{fits_step, merged_step, merged_all}
use Rattle.linker_base.proofs.relaxation.delta_slice.DeltaSlice.merge_ascending.Goals as goal

pub overflow_add-bytes : goal.overflow_add-bytes
overflow_add-bytes g c =
    let valid = rw (← c.deltas-deltas.ensures) at c.requires.valid in
    let step = fits_step _ _ _ _ _ _ _ _ c.loop-passed.invariant valid.disjoint c.lower-is_old.ensures in
    record { fits = omega (arith, step.1) }

pub loop-passed-preserved : goal.loop-passed-preserved
loop-passed-preserved g c =
    merged_step _ _ _ _ _ _ _ _ _ _ _ c.loop-passed.invariant (rw c.deltas-deltas.ensures c.requires.valid) c.lower-is_old.ensures refl (omega arith) (omega arith) (omega arith)

pub overflow_add-bytes-in-Some : goal.overflow_add-bytes-in-Some
overflow_add-bytes-in-Some g c =
    let valid = rw (← c.deltas-deltas.ensures) at c.requires.valid in
    let step = fits_step _ _ _ _ _ _ _ _ c.loop-deletion.invariant valid.disjoint c.in-Some.ensures in
    record { fits = omega (arith, step.1) }

pub loop-deletion-preserved : goal.loop-deletion-preserved
loop-deletion-preserved g c =
    merged_step _ _ _ _ _ _ _ _ _ _ _ c.loop-deletion.invariant (rw c.deltas-deltas.ensures c.requires.valid) c.in-Some.ensures refl (omega arith) (omega arith) (omega arith)

pub returns : goal.returns
returns g c =
    let valid = rw (← c.deltas-deltas.ensures) at c.requires.valid in
    let all = merged_all _ _ _ _ _ _ valid.disjoint c.loop-deletion.invariant (omega (arith, length-map c.deltas-deltas.result.now deletion_of, c.in_default.ensures)) (omega (arith, length-map c.args.additional.now g.D.AsDeletion.deletion, c.in_default.ensures)) in
    record { union = rw (← c.deltas-deltas.ensures) all.0; listed = all.1 }
