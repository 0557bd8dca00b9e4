use Rattle.linker_laws.proofs.X86GroupsWorked.{is_worked}
use Rattle.linker_laws.proofs.simulation.x86_64_worked.Goals as goal

pub returns : goal.returns
returns c = record { worked = is_worked c.x86_64.ensures.groups }
