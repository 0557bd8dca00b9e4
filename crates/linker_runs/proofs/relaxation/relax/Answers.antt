use Rattle.linker_runs.proofs.Imports.{arith, rules, with_items_is}
use Rattle.linker_runs.proofs.relaxation.relax.Goals as goal

pub returns-clause-relaxed : goal.returns-clause-relaxed
returns-clause-relaxed c =
    let new = c.relax_into.new in
    rw (
      with_items_is c.in_ok-shapes.shapes new.shapes (search (rules, arith)),
      with_items_is c.in_ok-kept.kept new.kept (search (rules, arith)),
      with_items_is c.in_ok-freed.freed new.freed (search (rules, arith)),
    ) c.relax_into.ensures
