use Rattle.linker_runs.proofs.RewrittenSites.{deleted_bytes}
use Rattle.linker_runs.proofs.laws.deleted_bytes_go.Goals as goal

pub returns : goal.returns
returns c = deleted_bytes
