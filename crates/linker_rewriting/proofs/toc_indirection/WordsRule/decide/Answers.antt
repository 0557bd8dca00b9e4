use Rattle.linker_rewriting.proofs.Deciding.{ends_within}
use Rattle.linker_rewriting.proofs.Imports.{Rewritten, arith}
use Rattle.linker_rewriting.proofs.toc_indirection.WordsRule.decide.Goals as goal

pub returns-clause-within : goal.returns-clause-within
returns-clause-within c = λ some. (omega arith, omega arith)

pub returns-clause-ends : goal.returns-clause-ends
returns-clause-ends c limit low long =
    let a = c.args in
    ends_within (Rewritten c.in_ok-chosen.chosen) a.site.now.section.now a.site.now.relocation.offset limit low long c.in_ok-chosen.ensures.there.0
