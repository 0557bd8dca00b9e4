use Rattle.linker_base.proofs.Imports.{Sections, ap, inr, sym, ◌∙◌}
use Rattle.std.specs.FinMap as finite
use Rattle.linker_base.proofs.Sections.{value_read, rise_lent, held_lent, same_loan, get-gap}
use Rattle.linker_base.proofs.relaxation.map.RelaxDeltaMap.get_mut.Goals as goal

-- whatever is written, the indices stay as they are
pub invariant_of-self-lent : goal.invariant_of-self-lent
invariant_of-self-lent c =
    let found = rw c.deref.ensures.value at c.in-Ok.ensures.found in
    rise_lent _ _ c.args.section_index c.in-Ok.at _ c.self.invariant c.self.view_is found c.index_mut.ensures.value

-- the entry that was found is the one that is lent
pub returns-in-Ok : goal.returns-in-Ok
returns-in-Ok c =
    let found = rw c.deref.ensures.value at c.in-Ok.ensures.found in (
      same_loan _ _ _ (λ w. held_lent _ _ c.args.section_index c.in-Ok.at _ c.self.invariant c.self.view_is found c.index_mut.ensures.value w),
      record { lends = tt; value = value_read _ _ c.args.section_index c.in-Ok.at _ c.self.invariant c.self.view_is found c.index_mut.ensures.value },
    )

-- there is no such entry
pub returns-in-Err : goal.returns-in-Err
returns-in-Err c =
    let absent = rw c.deref.ensures.value at c.in-Err.ensures.absent in
    (ap inr c.self.view_is, record { lends = tt; value = sym (get-gap _ c.args.section_index _ absent) ∙ ap (λ (m : Sections). finite.get m c.args.section_index) c.self.view_is })
