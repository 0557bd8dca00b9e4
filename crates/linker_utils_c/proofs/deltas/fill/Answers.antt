use Rattle.linker_utils_c.proofs.Imports.{RecordsDeletions-set, arith, length, length-map, length-set, pair_of, pairs_in, sym, taken_up_to, ◌<◌}
use Rattle.linker_utils_c.proofs.DeltaLists.{pair_at}
use Rattle.linker_utils_c.proofs.deltas.fill.Goals as goal

-- the sum is below the deletion's end
pub overflow_add-cumulative_deleted : goal.overflow_add-cumulative_deleted
overflow_add-cumulative_deleted c =
    let ds = c.args.deletions.now in
    let k = c.loop-at.at in
    let inside : k < length (pairs_in ds) = omega (arith, length-map ds pair_of) in
    let up_to = rw (pair_at ds k c.loop-at-test.true) at (taken_up_to (pairs_in ds) c.requires.valid k (0, 0) inside) in
    record { fits = omega (arith, up_to) }

pub loop-at-preserved : goal.loop-at-preserved
loop-at-preserved c =
    let ds = c.args.deletions.now in
    let k = c.loop-at.at in
    let inside : k < length (pairs_in ds) = omega (arith, length-map ds pair_of) in
    let here = pair_at ds k c.loop-at-test.true in
    let up_to = rw here at (taken_up_to (pairs_in ds) c.requires.valid k (0, 0) inside) in
    let place : k < length c.loop-at.deltas = omega arith in
    record {
      room = simp length-set (omega arith);
      listing = RecordsDeletions-set (pairs_in ds) c.loop-at.deltas _ k inside place c.loop-at.invariant.listing (sym here) (omega (arith, up_to));
      sum = omega (arith, up_to);
    }
