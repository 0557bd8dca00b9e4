use Rattle.linker_runs.proofs.Imports.{arith}
use Rattle.linker_runs.proofs.Firsts.{next_unit}
use Rattle.linker_runs.proofs.relaxation.Shapes.have_units.Goals as goal

pub returns-then-have_powers : goal.returns-then-have_powers
returns-then-have_powers c = λ len. (
  λ passed. (c.have_powers.ensures.0 c.if-have_powers.true, next_unit c.args.self.now (omega arith) (c.units_descend.ensures.0 passed)),
  λ met. c.units_descend.ensures.1 (λ two. met.1 0 (omega arith)),
)
