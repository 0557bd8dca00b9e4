use Rattle.linker_runs.proofs.Packed.{none_out_of_reach}
use Rattle.linker_runs.proofs.laws.none_is_out_of_reach.Goals as goal

pub returns : goal.returns
returns c = none_out_of_reach
