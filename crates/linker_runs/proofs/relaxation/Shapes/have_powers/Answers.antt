use Rattle.linker_runs.proofs.Imports.{HasUnit, arith}
use Rattle.linker_runs.proofs.Firsts.{of_both}
use Rattle.linker_runs.proofs.relaxation.Shapes.have_powers.Goals as goal

pub returns-then-has_granularity : goal.returns-then-has_granularity
returns-then-has_granularity c = (
  λ passed. of_both c.args.self.now HasUnit (omega arith) (c.has_granularity.ensures.0 c.if-has_granularity.true) (c.has_granularity-then-has_granularity.ensures.0 passed),
  λ met. c.has_granularity-then-has_granularity.ensures.1 (met 1),
)

pub returns-else-has_granularity : goal.returns-else-has_granularity
returns-else-has_granularity c = (λ passed. (let no_unit = c.if-has_granularity.false in cc), λ met. c.has_granularity.ensures.1 (met 0))
