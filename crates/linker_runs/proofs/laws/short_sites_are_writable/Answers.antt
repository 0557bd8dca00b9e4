use Rattle.linker_runs.proofs.Writable.{short_sites}
use Rattle.linker_runs.proofs.laws.short_sites_are_writable.Goals as goal

pub returns : goal.returns
returns c = short_sites
