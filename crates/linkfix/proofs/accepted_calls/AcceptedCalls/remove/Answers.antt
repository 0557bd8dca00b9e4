use Rattle.linkfix.proofs.Imports.{ap, is_at, nat_cmp, remove_entry, ◌∙◌}
use Rattle.linkfix.proofs.CallLemmas.{apart_removed, removed_placed}
use Rattle.linkfix.proofs.accepted_calls.AcceptedCalls.remove.Goals as goal

pub invariant_of-self : goal.invariant_of-self
invariant_of-self c =
    let apart = apart_removed (is_at (nat_cmp c.args.site)) c.self.inside.targets.entries c.self.invariant in
    rw c.remove.ensures.entries apart

pub returns : goal.returns
returns c target calls far was =
    c.remove.ensures.entries ∙ ap (λ l. remove_entry (is_at (nat_cmp c.args.site)) l) (c.self.view_is ∙ was) ∙ removed_placed calls c.args.site target far
