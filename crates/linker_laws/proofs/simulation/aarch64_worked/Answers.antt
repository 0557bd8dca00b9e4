use Rattle.linker_laws.proofs.AArch64GroupsWorked.{is_worked}
use Rattle.linker_laws.proofs.simulation.aarch64_worked.Goals as goal

pub returns : goal.returns
returns c = record { worked = is_worked c.aarch64.ensures.groups }
