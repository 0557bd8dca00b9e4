use Rattle.linker_runs.proofs.First.{first_bytes}
use Rattle.linker_runs.proofs.laws.first_bytes_are_kept.Goals as goal

pub returns : goal.returns
returns c = first_bytes
