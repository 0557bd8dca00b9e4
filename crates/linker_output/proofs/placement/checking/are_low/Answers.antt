use Rattle.linker_output.proofs.Imports.{arith, cases_lt, get_or_past, length, ⊎_elim, ◌<◌, ◌≤◌}
use Rattle.linker_output.proofs.placement.checking.are_low.Goals as goal

pub returns-clause-low : goal.returns-clause-low
returns-clause-low c = λ _ k. ⊎_elim
    (λ (inside : k < length c.args.numbers.now). c.loop-number.invariant k (omega arith))
    (λ (past : length c.args.numbers.now ≤ k). let e = get_or_past c.args.numbers.now k 0 past in omega arith)
    (cases_lt k (length c.args.numbers.now))
