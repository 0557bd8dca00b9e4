use Rattle.linker_base.proofs.Imports.{IsNonDecreasingBy-from_sort_by_key, rules}
use Rattle.linker_base.proofs.Unions.{union_from_sort}
use Rattle.linker_base.proofs.relaxation.merge.sorted.Goals as goal

pub returns-then-not-are_valid : goal.returns-then-not-are_valid
returns-then-not-are_valid c =
    let sorted = c.sort_unstable_by_key.new.self.items in
    union_from_sort c.args.pairs.items sorted c.sort_unstable_by_key.ensures.permutation c.requires (IsNonDecreasingBy-from_sort_by_key (λ d. d.0) sorted c.sort_unstable_by_key.ensures.sorted (λ a r f called. search rules))
