use Rattle.linker_utils_c.proofs.Imports.{IsNonDecreasingBy, IsNonDecreasingBy-from_sort_by_key, IsPermutation, IsPermutation-map, map, map-id, pair_of_key, pairs_in, rules, subst, sym, ◌∙◌}
use Rattle.linker_utils_c.proofs.DeltaLists.{keys_rise}
use Rattle.linker_utils_c.proofs.merges.merge_sorted.Goals as goal

pub merge_copy-requires-clause-same : goal.merge_copy-requires-clause-same
merge_copy-requires-clause-same c =
    let more = pairs_in c.args.additional.now in
    let sorted = c.sort_unstable_by_key.new.self.items in
    let moved : IsPermutation more (map pair_of_key sorted) = rw c.in-Some.ensures at (IsPermutation-map pair_of_key c.in-Some.keys.items sorted c.sort_unstable_by_key.ensures.permutation) in
    subst (λ keys. IsPermutation more (map pair_of_key keys)) (sym c.deref.ensures.value) moved

pub merge_copy-requires-clause-rise : goal.merge_copy-requires-clause-rise
merge_copy-requires-clause-rise c =
    let sorted = c.sort_unstable_by_key.new.self.items in
    let rise : IsNonDecreasingBy (λ key. key.bits) sorted = IsNonDecreasingBy-from_sort_by_key (λ key. key.bits) sorted c.sort_unstable_by_key.ensures.sorted (λ a r f called. search rules) in
    subst (λ keys. IsNonDecreasingBy (λ d. d.0) (map pair_of_key keys)) (sym c.deref.ensures.value) (keys_rise sorted rise)

pub merge_copy-requires-2-clause-same : goal.merge_copy-requires-2-clause-same
merge_copy-requires-2-clause-same c =
    let more = pairs_in c.args.additional.now in
    let sorted = c.sort_unstable_by_key-2.new.self.items in
    let same : IsPermutation more sorted = rw c.in-Ok.ensures at c.sort_unstable_by_key-2.ensures.permutation in
    subst (IsPermutation more) (sym (map-id c.deref-2.result.now ∙ c.deref-2.ensures.value)) same

pub merge_copy-requires-2-clause-rise : goal.merge_copy-requires-2-clause-rise
merge_copy-requires-2-clause-rise c =
    let sorted = c.sort_unstable_by_key-2.new.self.items in
    let rise : IsNonDecreasingBy (λ d. d.0) sorted = IsNonDecreasingBy-from_sort_by_key (λ d. d.0) sorted c.sort_unstable_by_key-2.ensures.sorted (λ a r f called. search rules) in
    subst (IsNonDecreasingBy (λ d. d.0)) (sym (map-id c.deref-2.result.now ∙ c.deref-2.ensures.value)) rise
