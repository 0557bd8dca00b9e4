use Rattle.linker_section.proofs.Imports.{IsNonDecreasingBy-from_sort_by_key, arith, length, place_of, rules, ◌<◌, ◌^◌, ◌∙◌}
use Rattle.linker_section.proofs.Sorted.{order_sorted}
use Rattle.linker_section.proofs.order.sort_indexes.Goals as goal

pub returns : goal.returns
returns c =
    let a = c.args in
    let bytes = a.relocations.now in
    let same = c.list_indexes.ensures.len in
    let short : length a.order.now < 2 ^ 63 = search rules in
    order_sorted bytes c.list_indexes.new.order c.sort_unstable_by_key.new.self (same ∙ c.requires) (omega (arith, same, short))
    c.list_indexes.ensures.indexes c.sort_unstable_by_key.ensures.permutation
    (IsNonDecreasingBy-from_sort_by_key (place_of bytes) c.sort_unstable_by_key.new.self c.sort_unstable_by_key.ensures.sorted (λ a r f called. search rules))
