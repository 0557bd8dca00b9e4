use Rattle.linker_output.proofs.RiscVLazyLaws.{enters_so, resolves}
use Rattle.linker_output.proofs.RiscVStubLaws.{loads_go}
use Rattle.linker_output.proofs.laws.riscv64.Goals as goal

pub returns-clause-loads : goal.returns-clause-loads
returns-clause-loads c = loads_go c.riscv64.ensures.relative

pub returns-clause-enters : goal.returns-clause-enters
returns-clause-enters c = enters_so c.riscv64.ensures.relative

pub returns-clause-resolves : goal.returns-clause-resolves
returns-clause-resolves c = resolves c.riscv64.ensures.relative
