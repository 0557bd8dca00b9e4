use Rattle.linker_runs.proofs.Shrunk.{shrunk_alike}
use Rattle.linker_runs.proofs.laws.calls_are_shrunk_alike.Goals as goal

pub returns : goal.returns
returns c = shrunk_alike
