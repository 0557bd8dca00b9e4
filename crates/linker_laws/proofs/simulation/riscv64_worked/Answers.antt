use Rattle.linker_laws.proofs.RiscVGroupsWorked.{is_worked}
use Rattle.linker_laws.proofs.simulation.riscv64_worked.Goals as goal

pub returns : goal.returns
returns c = record { worked = is_worked c.riscv64.ensures.groups }
