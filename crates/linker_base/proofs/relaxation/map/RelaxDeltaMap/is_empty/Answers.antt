use Rattle.linker_base.proofs.Imports.{arith}
use Rattle.linker_base.proofs.Sections.{is_empty_of}
use Rattle.linker_base.proofs.relaxation.map.RelaxDeltaMap.is_empty.Goals as goal

pub returns : goal.returns
returns c = is_empty_of c.self.inside.entries.items c.args.self.now _ _ (omega arith) c.is_empty.ensures c.self.view_is
