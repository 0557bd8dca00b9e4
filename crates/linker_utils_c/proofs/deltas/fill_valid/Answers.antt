use Rattle.linker_utils_c.proofs.Imports.{EndFits, IsRun, List, RecordsDeletions-set, ap, arith, bytes_fit, bytes_of, get_or, length, length-map, length-set, max, pair_of, pairs_in, sum_by_more, sym, take, take_more, ℕ, ◌+◌, ◌<◌, ◌^◌, ◌≡◌, ◌≤◌}
use Rattle.linker_base.proofs.Batches.{IsRun-push}
use Rattle.linker_utils_c.proofs.DeltaLists.{pair_at}
use Rattle.linker_utils_c.proofs.deltas.fill_valid.Goals as goal

-- one more deletion of the list, which begins where the next may
run_more : (ds : List (ℕ × ℕ)) (from k : ℕ) → k < length ds → IsRun 0 from (take k ds) → from ≤ (get_or ds k (0, 0)).0 → EndFits (get_or ds k (0, 0)) → IsRun 0 ((get_or ds k (0, 0)).0 + max (get_or ds k (0, 0)).1 1) (take (k + 1) ds)
run_more ds from k within run begins fits = rw (take_more ds k (0, 0) within) (IsRun-push 0 from (take k ds) (get_or ds k (0, 0)) run begins fits)

-- up to and including it 64 bits hold the bytes
sum_more : (ds : List (ℕ × ℕ)) (next k : ℕ) → k < length ds → IsRun 0 next (take (k + 1) ds) → (bytes_of (take k ds) + (get_or ds k (0, 0)).1 ≡ bytes_of (take (k + 1) ds)) × (bytes_of (take (k + 1) ds) < 2 ^ 64)
sum_more ds next k within run = (sym (sum_by_more (λ (e : ℕ × ℕ). e.1) ds k (0, 0) within), bytes_fit (take (k + 1) ds) run.valid)

pub overflow_add-cumulative_deleted : goal.overflow_add-cumulative_deleted
overflow_add-cumulative_deleted c =
    let xs = c.args.deletions.now in
    let ds = pairs_in xs in
    let k = c.loop-at.at in
    let inside : k < length ds = omega (arith, length-map xs pair_of, c.loop-at-test.true) in
    let here = pair_at xs k c.loop-at-test.true in
    let first = ap (λ (e : ℕ × ℕ). e.0) here in
    let second = ap (λ (e : ℕ × ℕ). e.1) here in
    let run = run_more ds c.loop-at.from k inside c.loop-at.invariant.run (omega (arith, first, c.if-deletion-from.false)) (omega (arith, first, second, c.in-Some.ensures, c.max.ensures, c.from.ensures)) in
    let up_to = sum_more ds _ k inside run in
    record { fits = omega (arith, up_to.0, up_to.1, second, c.loop-at.invariant.sum, c.from-cumulative_deleted.ensures) }

pub loop-at-preserved : goal.loop-at-preserved
loop-at-preserved c =
    let xs = c.args.deletions.now in
    let ds = pairs_in xs in
    let k = c.loop-at.at in
    let inside : k < length ds = omega (arith, length-map xs pair_of, c.loop-at-test.true) in
    let here = pair_at xs k c.loop-at-test.true in
    let first = ap (λ (e : ℕ × ℕ). e.0) here in
    let second = ap (λ (e : ℕ × ℕ). e.1) here in
    let run = run_more ds c.loop-at.from k inside c.loop-at.invariant.run (omega (arith, first, c.if-deletion-from.false)) (omega (arith, first, second, c.in-Some.ensures, c.max.ensures, c.from.ensures)) in
    let up_to = sum_more ds _ k inside run in
    let next : c.in-Some.next ≡ (get_or ds k (0, 0)).0 + max (get_or ds k (0, 0)).1 1 = omega (arith, first, second, c.in-Some.ensures, c.max.ensures, c.from.ensures) in
    let place : k < length c.loop-at.deltas = omega (arith, c.loop-at.invariant.room, c.loop-at-test.true) in
    let sum : c.loop-at.cumulative_deleted + c.from-cumulative_deleted.result ≡ bytes_of (take (k + 1) ds) = omega (arith, up_to.0, second, c.loop-at.invariant.sum, c.from-cumulative_deleted.ensures) in
    record {
      room = simp length-set c.loop-at.invariant.room;
      run = rw next run;
      listing = RecordsDeletions-set ds c.loop-at.deltas _ k inside place c.loop-at.invariant.listing (sym here) sum;
      sum = sum;
    }
