use Rattle.linker_output.proofs.X86LazyLaws.{enters, resolves, landing_resolves}
use Rattle.linker_output.proofs.X86StubLaws.{loads_go, landing_loads_go}
use Rattle.linker_output.proofs.laws.x86_64.Goals as goal

pub returns-clause-loads : goal.returns-clause-loads
returns-clause-loads c = loads_go

pub returns-clause-landing_loads : goal.returns-clause-landing_loads
returns-clause-landing_loads c = landing_loads_go

pub returns-clause-enters : goal.returns-clause-enters
returns-clause-enters c = enters

pub returns-clause-resolves : goal.returns-clause-resolves
returns-clause-resolves c = resolves

pub returns-clause-landing_resolves : goal.returns-clause-landing_resolves
returns-clause-landing_resolves c = landing_resolves
