use Rattle.linker_output.proofs.Ppc64LazyLaws.{resolves}
use Rattle.linker_output.proofs.Ppc64StubLaws.{loads_go, jumps_go, first_stores}
use Rattle.linker_output.proofs.Ppc64TocLaws.{toc_loads_go, toc_reaches_go, prefixed_loads_go, prefixed_jumps_go}
use Rattle.linker_output.proofs.laws.ppc64.Goals as goal

pub returns-clause-loads : goal.returns-clause-loads
returns-clause-loads c = loads_go c.ppc64.ensures.toc

pub returns-clause-jumps : goal.returns-clause-jumps
returns-clause-jumps c = jumps_go c.ppc64.ensures.toc

pub returns-clause-first : goal.returns-clause-first
returns-clause-first c = first_stores

pub returns-clause-toc_loads : goal.returns-clause-toc_loads
returns-clause-toc_loads c = toc_loads_go c.ppc64.ensures.toc

pub returns-clause-toc_reaches : goal.returns-clause-toc_reaches
returns-clause-toc_reaches c = toc_reaches_go c.ppc64.ensures.toc

pub returns-clause-prefixed_loads : goal.returns-clause-prefixed_loads
returns-clause-prefixed_loads c = prefixed_loads_go c.ppc64.ensures.prefixed

pub returns-clause-prefixed_jumps : goal.returns-clause-prefixed_jumps
returns-clause-prefixed_jumps c = prefixed_jumps_go c.ppc64.ensures.prefixed

pub returns-clause-resolves : goal.returns-clause-resolves
returns-clause-resolves c = resolves c.ppc64.ensures.branches c.ppc64.ensures.fields
