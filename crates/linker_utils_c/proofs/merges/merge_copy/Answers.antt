use Rattle.linker_utils_c.proofs.Imports.{AreValidTogether, IsSortedUnion, IsValid, arith, deletions_of, disjoint_back, length-map, length_permutation, map, pair_of, pairs_in, ◌++◌}
use Rattle.linker_base.proofs.Unions.{disjoint_moved, union_moved, valid_from_disjoint}
use Rattle.linker_utils_c.proofs.merges.merge_copy.Goals as goal
use Rattle.linker_utils_c.proofs.merges.merge_copy.Goals.{then-not-can_merge_ascending+in_default, else-not-can_merge_ascending}

pub merge_ascending-requires-clause-places : goal.merge_ascending-requires-clause-places
merge_ascending-requires-clause-places g c =
    let f = g.D.AsDeletion.deletion in
    let xs = c.args.sorted.now in
    let ys = c.args.additional.now in
    rw c.new-slice.ensures.same (omega (arith, c.requires.places, length-map xs f, length-map ys pair_of, length_permutation (pairs_in ys) (map f xs) c.requires.same))

pub merge_ascending-requires-clause-valid : goal.merge_ascending-requires-clause-valid
merge_ascending-requires-clause-valid g c =
    let old = deletions_of c.args.deltas.now in
    let more = pairs_in c.args.additional.now in
    let sorted = map g.D.AsDeletion.deletion c.args.sorted.now in
    let together : AreValidTogether old sorted = elim c.if-not-can_merge_ascending.branch [
      | then-not-can_merge_ascending+in_default w ↦
          let both = (disjoint_moved old more sorted c.requires.same).1 w.in_default.ensures.1 in
          record { old = w.in_default.ensures.0; added = valid_from_disjoint sorted (disjoint_back old sorted both) c.requires.rise; disjoint = both }
      | else-not-can_merge_ascending w ↦ rw c.new-slice.ensures.same at (c.can_merge_ascending.ensures.0 w.if-not-can_merge_ascending.false)
    ] in
    rw c.new-slice.ensures.same together

pub returns-clause-outcome : goal.returns-clause-outcome
returns-clause-outcome g c =
    let old = deletions_of c.args.deltas.now in
    let more = pairs_in c.args.additional.now in
    let sorted = map g.D.AsDeletion.deletion c.args.sorted.now in
    let merged = deletions_of c.merge_ascending.new.merged in
    let valid : IsValid old = elim c.if-not-can_merge_ascending.branch [
      | then-not-can_merge_ascending+in_default w ↦ w.in_default.ensures.0
      | else-not-can_merge_ascending w ↦
          let together : AreValidTogether old sorted = rw c.new-slice.ensures.same at (c.can_merge_ascending.ensures.0 w.if-not-can_merge_ascending.false) in
          together.old
    ] in
    let union : IsSortedUnion (old ++ sorted) merged = rw c.new-slice.ensures.same at c.merge_ascending.ensures.union in
    (valid, record { union = union_moved old more sorted c.requires.same merged union; listed = c.merge_ascending.ensures.listed })
