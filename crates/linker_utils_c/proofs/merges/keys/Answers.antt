use Rattle.linker_utils_c.proofs.Imports.{List, [], ap, arith, get_or, map, map-append, pair_of, pair_of_key, pairs_in, sym, take, ℕ, ◌++◌, ◌∙◌, ◌∷◌, ◌≡◌}
use Rattle.linker_utils_c.proofs.DeltaLists.{no_deletion, take_more_map}
use Rattle.linker_utils_c.proofs.merges.keys.Goals as goal

pub loop-deletion-preserved : goal.loop-deletion-preserved
loop-deletion-preserved c =
    let ds = c.args.deletions.now in
    let k = c.loop-deletion.deletion-index in
    let key = c.in-Some.key in
    let here : pair_of_key key ≡ pair_of (get_or ds k no_deletion) = c.in-Some.ensures in
    record {
      room = omega arith;
      pushed = omega arith;
      same = ap (map pair_of_key) c.push_reserved.ensures.items ∙ map-append pair_of_key c.loop-deletion.keys.items (key ∷ []) ∙ ap (λ (ps : List (ℕ × ℕ)). ps ++ pair_of_key key ∷ []) c.loop-deletion.invariant.same ∙ ap (λ (p : ℕ × ℕ). take k (pairs_in ds) ++ p ∷ []) here ∙ sym (take_more_map pair_of ds k no_deletion c.loop-deletion-test.true);
    }
