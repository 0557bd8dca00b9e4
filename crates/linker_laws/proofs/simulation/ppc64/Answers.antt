use Rattle.linker_laws.proofs.Ppc64Groups.{are_groups}
use Rattle.linker_laws.proofs.simulation.ppc64.Goals as goal

pub returns : goal.returns
returns c =
    let laws = c.ppc64.ensures in
    record {
      groups = are_groups laws.absolute laws.relative laws.toc laws.entries laws.got laws.thread laws.prefixed
          laws.displacements;
    }
