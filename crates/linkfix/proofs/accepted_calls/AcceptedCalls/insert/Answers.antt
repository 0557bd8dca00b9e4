use Rattle.linkfix.proofs.Imports.{All, IsFarFrom, ap, placed, ◌∙◌}
use Rattle.linkfix.proofs.CallLemmas.{by_site_placed, inserted_placed}
use Rattle.linkfix.proofs.accepted_calls.AcceptedCalls.insert.Goals as goal

pub invariant_of-self-2 : goal.invariant_of-self-2
invariant_of-self-2 c =
    let calls = c.self.inside.targets.entries in
    let far : All (IsFarFrom c.args.site) calls = rw c.self.view_is c.requires in
    let is = c.in_ok-insert.ensures.entries ∙ inserted_placed calls c.args.site c.args.target far in
    rw is ((by_site_placed calls (c.args.site, c.args.target) c.self.invariant far).apart)

pub returns-clause-ok : goal.returns-clause-ok
returns-clause-ok c =
    let calls = c.self.inside.targets.entries in
    let far : All (IsFarFrom c.args.site) calls = rw c.self.view_is c.requires in
    let is = c.in_ok-insert.ensures.entries ∙ inserted_placed calls c.args.site c.args.target far in
    rw (is, ← c.self.view_is) (by_site_placed calls (c.args.site, c.args.target) c.self.invariant far)

pub returns-clause-placed : goal.returns-clause-placed
returns-clause-placed c =
    let calls = c.self.inside.targets.entries in
    let far : All (IsFarFrom c.args.site) calls = rw c.self.view_is c.requires in
    c.in_ok-insert.ensures.entries ∙ inserted_placed calls c.args.site c.args.target far ∙ ap (λ l. placed (c.args.site, c.args.target) l) c.self.view_is
