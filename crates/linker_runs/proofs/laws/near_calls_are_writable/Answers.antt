use Rattle.linker_runs.proofs.RiscVLongCalls.{near_calls}
use Rattle.linker_runs.proofs.laws.near_calls_are_writable.Goals as goal

pub returns : goal.returns
returns c = near_calls
