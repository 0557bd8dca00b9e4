use Rattle.linkfix.proofs.CallLemmas.{call_errors}
use Rattle.linkfix.proofs.program.SectionState.jump.Goals as goal

pub returns-clause-errors : goal.returns-clause-errors
returns-clause-errors c error =
    let each = c.relax_call.ensures in
    rw c.as_mut_slice.ensures.value at (call_errors c.as_mut_slice.result.now c.args.self.now.deltas c.args.site c.args.target c.relax_call.result each.out_of_section each.site_deleted each.odd_distance each.too_far error)
