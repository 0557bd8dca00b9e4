use Rattle.linker_output.proofs.LoongArchLazyLaws.{enters_so, resolves}
use Rattle.linker_output.proofs.LoongArchStubLaws.{loads_go, jumps_go}
use Rattle.linker_output.proofs.laws.loongarch64.Goals as goal

pub returns-clause-loads : goal.returns-clause-loads
returns-clause-loads c = loads_go c.loongarch64.ensures.relative

pub returns-clause-jumps : goal.returns-clause-jumps
returns-clause-jumps c = jumps_go c.loongarch64.ensures.calls

pub returns-clause-enters : goal.returns-clause-enters
returns-clause-enters c = enters_so c.loongarch64.ensures.thread

pub returns-clause-resolves : goal.returns-clause-resolves
returns-clause-resolves c = resolves c.loongarch64.ensures.thread
