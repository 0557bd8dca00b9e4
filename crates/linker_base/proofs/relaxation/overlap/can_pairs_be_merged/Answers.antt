use Rattle.linker_base.proofs.Imports.{IsNonDecreasingBy-from_sort_by_key, deletion_of, map, map-id, rules}
use Rattle.linker_base.proofs.Merging.{disjoint_back}
use Rattle.linker_base.proofs.Unions.{disjoint_moved, valid_from_disjoint}
use Rattle.linker_base.proofs.relaxation.overlap.can_pairs_be_merged.Goals as goal

-- the pairs sorted, by whichever test
pub returns-then-len-deltas : goal.returns-then-len-deltas
returns-then-len-deltas c listed =
    let sorted = c.sort_unstable_by_key.new.self.items in
    let moved = disjoint_moved (map deletion_of c.args.deltas.now) _ _ c.sort_unstable_by_key.ensures.permutation in
    let rise = IsNonDecreasingBy-from_sort_by_key (λ d. d.0) sorted c.sort_unstable_by_key.ensures.sorted (λ a r f called. search rules) in
    let together = rw (c.as_slice.ensures.value, map-id sorted) at c.are_valid_together.ensures in (
      λ holds. moved.0 (together.0 holds).disjoint,
      λ all.
          let both = moved.1 all in
          together.1 (record { old = listed; added = valid_from_disjoint sorted (disjoint_back _ sorted both) rise; disjoint = both }),
    )

pub returns : goal.returns
returns c listed =
    let moved = disjoint_moved (map deletion_of c.args.deltas.now) _ _ c.sort_unstable_by_key.ensures.permutation in
    let merged = rw (c.as_slice-2.ensures.value, map-id c.sort_unstable_by_key.new.self.items) at (c.can_be_merged.ensures listed) in
    (λ holds. moved.0 (merged.0 holds), λ all. merged.1 (moved.1 all))
