use Rattle.linker_output.proofs.Imports.{Branch, ap, arith, cases_lt, get_or_past, length, ⊎_elim, ◌<◌, ◌≤◌}
use Rattle.linker_output.proofs.placement.Code.has_low_branches.Goals as goal

pub returns-clause-low : goal.returns-clause-low
returns-clause-low c =
    let bs = c.args.self.now.branches.now in
    λ _ k. ⊎_elim
    (λ (inside : k < length bs). c.loop-branch.invariant k (omega arith))
    (λ (past : length bs ≤ k). let e = ap (λ (b : Branch). b.offset) (get_or_past bs k (record { offset = 0; target = 0; max_backward = 0; max_forward = 0 }) past) in omega arith)
    (cases_lt k (length bs))
