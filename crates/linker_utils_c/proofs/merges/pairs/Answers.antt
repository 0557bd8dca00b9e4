use Rattle.linker_utils_c.proofs.Imports.{List, ap, arith, get_or, refl, ℕ, ◌∙◌, ◌≡◌}
use Rattle.linker_utils_c.proofs.DeltaLists.{take_more_map}
use Rattle.linker_utils_c.proofs.merges.pairs.Goals as goal

pub loop-deletion-preserved : goal.loop-deletion-preserved
loop-deletion-preserved g c =
    let deletion = g.D.AsDeletion.deletion in
    let item = c.deletion-item.result in
    let pair : c.as_deletion.result ≡ deletion (get_or c.args.deletions.now c.loop-deletion.deletion-index item) = c.as_deletion.ensures ∙ ap deletion c.deletion-item.is in
    record {
      room = omega arith;
      pushed = omega arith;
      same = rw (c.push_reserved.ensures.items, take_more_map deletion c.args.deletions.now c.loop-deletion.deletion-index item c.loop-deletion-test.true, c.loop-deletion.invariant.same, pair) (refl {A = List (ℕ × ℕ)});
    }
