use Rattle.linker_laws.proofs.Ppc64GroupsWorked.{is_worked}
use Rattle.linker_laws.proofs.simulation.ppc64_worked.Goals as goal

pub returns : goal.returns
returns c = record { worked = is_worked c.ppc64.ensures.groups }
