use Rattle.linker_base.proofs.Imports.{IsNonDecreasingBy-from_sort_by_key, IsPermutation-sym, drop, drop-map, false≢true, map, map-id, pairs_of, rules, sym, take, take_rest, ◌++◌, ◌∙◌}
use Rattle.linker_base.proofs.Apart.{apart_permutation_left}
use Rattle.linker_base.proofs.Unions.{disjoint_permutation, disjoint_from_valid, valid_from_disjoint}
use Rattle.linker_base.proofs.relaxation.overlap.are_sorted_apart.Goals as goal

-- the copy that isn't valid once sorted denies it
pub returns-else-are_valid : goal.returns-else-are_valid
returns-else-are_valid g c =
    let sorted = c.sort_unstable_by_key.new.self in
    let same = rw c.copy_first.ensures at c.sort_unstable_by_key.ensures.permutation in
    let rise = IsNonDecreasingBy-from_sort_by_key (λ d. d.0) sorted c.sort_unstable_by_key.ensures.sorted (λ a r f called. search rules) in
    let valid = rw (map-id sorted) at c.are_valid.ensures in
    (λ none. absurd (false≢true (sym c.if-are_valid.false ∙ none)), λ all. valid.1 (valid_from_disjoint sorted (disjoint_permutation _ sorted same all.disjoint) rise))

pub returns-then-are_valid : goal.returns-then-are_valid
returns-then-are_valid g c =
    let f = g.D.AsDeletion.deletion in
    let xs = c.args.deletions.now in
    let n = c.args.count in
    let first = take n (map f xs) in
    let others = drop n (map f xs) ++ pairs_of c.args.batches.now in
    let sorted = c.sort_unstable_by_key.new.self in
    let same = rw c.copy_first.ensures at c.sort_unstable_by_key.ensures.permutation in
    let back = IsPermutation-sym first sorted same in
    let listed = c.are_valid.ensures.0 c.if-are_valid.true in
    let apart = rw (take_rest xs n, ← drop-map f n xs, map-id sorted) at (c.are_apart.ensures listed) in (
      λ holds. record { disjoint = disjoint_permutation sorted first back (disjoint_from_valid sorted (rw (map-id sorted) at listed)); apart = apart_permutation_left sorted first others back (apart.0 holds) },
      λ all. apart.1 (apart_permutation_left first sorted others same all.apart),
    )
