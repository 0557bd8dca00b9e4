use Rattle.linker_base.proofs.Imports.{AreFirstDisjoint, arith, drop, drop-drop, drop-map, false≢true, length-drop, length-map, map, pairs_of, take_rest, ◌+◌, ◌≡◌}
use Rattle.linker_base.proofs.Apart.{beside_drop, beside_rest}
use Rattle.linker_base.proofs.relaxation.overlap.are_disjoint_beside.Goals as goal

pub loop-at-preserved : goal.loop-at-preserved
loop-at-preserved g c =
    let f = g.D.AsDeletion.deletion in
    let xs = c.args.deletions.now in
    let ds = map f xs in
    let ys = pairs_of c.args.batches.now in
    let at = c.loop-at.at in
    let count = c.in-Some.count in
    let first : AreFirstDisjoint (drop at ds) ys count = rw (drop-map f at xs, ← take_rest xs at) c.in-Some.ensures in
    let next : drop count (drop at ds) ≡ drop (at + count) ds = drop-drop count at ds in
    record {
      within = omega (arith, first.within, length-drop at ds, length-map xs f, c.loop-at-test.true);
      rest = λ last. c.loop-at.invariant.rest (beside_rest (drop at ds) ys count first.first (rw next last));
    }

-- where the rest aren't, all aren't
pub returns-in-None : goal.returns-in-None
returns-in-None g c =
    let f = g.D.AsDeletion.deletion in
    let xs = c.args.deletions.now in
    let at = c.loop-at.at in
    (λ none. absurd (false≢true none), λ all. absurd (c.in-None.ensures (rw (take_rest xs at, ← drop-map f at xs) (beside_drop (map f xs) (pairs_of c.args.batches.now) at all))))
