use Rattle.linker_output.proofs.Imports.{refl}
use Rattle.linker_output.proofs.Adding.{taken}
use Rattle.linker_output.proofs.placement.State.take.Goals as goal

pub returns-clause-state : goal.returns-clause-state
returns-clause-state c = taken c.args.code.now c.args.self.now _ c.args.index c.args.way c.requires.state c.requires.within c.requires.way c.requires.higher c.requires.needed refl
