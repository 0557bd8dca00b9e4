use Rattle.linker_runs.proofs.Imports.{and_mask, bit_and, subst, sym, ◌%◌, ◌-◌, ◌≡◌}
use Rattle.linker_runs.proofs.relaxation.remainder.Goals as goal

pub returns-then-is_power_of_two : goal.returns-then-is_power_of_two
returns-then-is_power_of_two c =
    let power = c.is_power_of_two.ensures.0 c.if-is_power_of_two.true in
    subst (λ d. bit_and c.args.number (d - 1) ≡ c.args.number % d) (sym power.1) (and_mask c.args.number power.0)
