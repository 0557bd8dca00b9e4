use Rattle.linker_runs.proofs.MadeSites.{made_sites}
use Rattle.linker_runs.proofs.laws.made_sites_have_instructions.Goals as goal

pub returns : goal.returns
returns c = made_sites
