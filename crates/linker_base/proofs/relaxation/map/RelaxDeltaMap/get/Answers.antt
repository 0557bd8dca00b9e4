use Rattle.linker_base.proofs.Imports.{Sections, ap, sym, ◌∙◌}
use Rattle.std.specs.FinMap as finite
use Rattle.linker_base.proofs.Sections.{value_read, get-gap}
use Rattle.linker_base.proofs.relaxation.map.RelaxDeltaMap.get.Goals as goal

-- the entry that was found has the value
pub returns-in-Ok : goal.returns-in-Ok
returns-in-Ok c =
    let found = rw c.deref.ensures.value at c.in-Ok.ensures.found in
    value_read _ _ c.args.section_index c.in-Ok.at _ c.self.invariant c.self.view_is found c.index.ensures

-- there is no such entry
pub returns-in-Err : goal.returns-in-Err
returns-in-Err c =
    let absent = rw c.deref.ensures.value at c.in-Err.ensures.absent in
    sym (get-gap _ c.args.section_index _ absent) ∙ ap (λ (m : Sections). finite.get m c.args.section_index) c.self.view_is
