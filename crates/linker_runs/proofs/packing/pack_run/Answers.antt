use Rattle.linker_runs.proofs.Imports.{AreMoved, deletions_of, section_of, subst}
use Rattle.linker_runs.proofs.packing.pack_run.Goals as goal

pub returns-clause-moved : goal.returns-clause-moved
returns-clause-moved c valid =
    let s = section_of c.args.section.now c.args.base (deletions_of c.args.deltas.now) c.args.start in
    let begun = c.position_of-begin.ensures.position valid in
    subst (λ items. AreMoved c.args.machine s items c.args.relocations.now c.move_relocations.new.relocations) c.new-list.ensures
    (c.move_relocations.ensures valid begun c.args.start (c.in_ok-test_items.ensures.ok valid begun).0)
