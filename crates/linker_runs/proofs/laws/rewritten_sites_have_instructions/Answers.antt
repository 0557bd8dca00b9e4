use Rattle.linker_runs.proofs.RewrittenSites.{rewritten_sites}
use Rattle.linker_runs.proofs.laws.rewritten_sites_have_instructions.Goals as goal

pub returns : goal.returns
returns c = rewritten_sites
