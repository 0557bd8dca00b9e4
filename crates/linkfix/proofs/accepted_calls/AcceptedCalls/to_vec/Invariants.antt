use Rattle.linkfix.proofs.Imports.{vec_items, ◌++◌, ◌≡◌}
use Rattle.linkfix.proofs.accepted_calls.AcceptedCalls.to_vec.Given as goal

abbrev pub invariant-loop-site : goal.invariant-loop-site
invariant-loop-site l = vec_items l.calls ++ l.site-iterator ≡ l.self
