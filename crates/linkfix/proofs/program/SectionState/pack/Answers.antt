use Rattle.linkfix.proofs.Imports.{OfAuipc, inl}
use Rattle.linkfix.proofs.Rejected.{first_rejected_once, none_rejected}
use Rattle.linkfix.proofs.program.SectionState.pack.Goals as goal

pub returns-in-Ok-clause-causes : goal.returns-in-Ok-clause-causes
returns-in-Ok-clause-causes c error (at, cause, is, first) =
    let can = rw (c.deref.ensures.value, c.deref-2.ensures.value, c.in_ok-calls.ensures.calls) at c.in-Ok.ensures.accepted in
    absurd (none_rejected OfAuipc c.args.self.now.deltas c.args.self.now.section.items c.args.self.now.calls at cause can first)

pub returns-clause-causes : goal.returns-clause-causes
returns-clause-causes c error (at, cause, is, first) =
    let here = rw (c.deref.ensures.value, c.deref-2.ensures.value, c.in_ok-calls.ensures.calls, c.in-Err-Call.field-0-is) at c.in-Err-Call.ensures.rejected in
    let same = first_rejected_once OfAuipc c.args.self.now.deltas c.args.self.now.section.items c.args.self.now.calls _ at _ cause here first in
    inl (cc (same, is))
