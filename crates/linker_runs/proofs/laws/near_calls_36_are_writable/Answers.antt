use Rattle.linker_runs.proofs.LoongArchCalls36.{near_calls_36}
use Rattle.linker_runs.proofs.laws.near_calls_36_are_writable.Goals as goal

pub returns : goal.returns
returns c = near_calls_36
