use Rattle.linkfix.proofs.Determined.{rejected_inputs}
use Rattle.linkfix.proofs.program.rejected_inputs_are_not_executed.Goals as goal

pub returns : goal.returns
returns c = rejected_inputs
