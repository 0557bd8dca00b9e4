use Rattle.linker_output.proofs.AArch64FarLaws.{reaches_go, reaches_relative_go}
use Rattle.linker_output.proofs.AArch64LazyLaws.{enters, landing_enters, resolves, landing_resolves}
use Rattle.linker_output.proofs.AArch64StubLaws.{loads_go, landing_loads_go, jumps_go}
use Rattle.linker_output.proofs.laws.aarch64.Goals as goal

pub returns-clause-loads : goal.returns-clause-loads
returns-clause-loads c = loads_go c.aarch64.ensures.relative

pub returns-clause-landing_loads : goal.returns-clause-landing_loads
returns-clause-landing_loads c = landing_loads_go c.aarch64.ensures.relative

pub returns-clause-jumps : goal.returns-clause-jumps
returns-clause-jumps c = jumps_go c.aarch64.ensures.relative

pub returns-clause-reaches : goal.returns-clause-reaches
returns-clause-reaches c = reaches_go c.aarch64.ensures.fields

pub returns-clause-reaches_relative : goal.returns-clause-reaches_relative
returns-clause-reaches_relative c = reaches_relative_go c.aarch64.ensures.fields

pub returns-clause-enters : goal.returns-clause-enters
returns-clause-enters c = enters c.aarch64.ensures.relative

pub returns-clause-resolves : goal.returns-clause-resolves
returns-clause-resolves c = resolves c.aarch64.ensures.relative

pub returns-clause-landing_enters : goal.returns-clause-landing_enters
returns-clause-landing_enters c = landing_enters c.aarch64.ensures.relative

pub returns-clause-landing_resolves : goal.returns-clause-landing_resolves
returns-clause-landing_resolves c = landing_resolves c.aarch64.ensures.relative
