use Rattle.linker_base.proofs.Imports.{answers_always, rules}
use Rattle.linker_base.proofs.Sections.{searched_at, searched_gap}
use Rattle.linker_base.proofs.relaxation.map.search.Goals as goal

-- the closure gives an entry's index
pub returns-clause-found : goal.returns-clause-found
returns-clause-found c =
    searched_at c.args.entries.now c.args.section_index c.binary_search_by_key.result c.binary_search_by_key.ensures.bound (c.binary_search_by_key.ensures.position (λ entry. entry.0) (answers_always _ _ _ (λ f a r g called. search rules)))

pub returns-clause-absent : goal.returns-clause-absent
returns-clause-absent c =
    searched_gap c.args.entries.now c.args.section_index c.binary_search_by_key.result c.requires c.binary_search_by_key.ensures.bound (c.binary_search_by_key.ensures.position (λ entry. entry.0) (answers_always _ _ _ (λ f a r g called. search rules)))
