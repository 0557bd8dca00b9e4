use Rattle.linker_laws.proofs.LoongArchGroupsWorked.{is_worked}
use Rattle.linker_laws.proofs.simulation.loongarch64_worked.Goals as goal

pub returns : goal.returns
returns c = record { worked = is_worked c.loongarch64.ensures.groups }
