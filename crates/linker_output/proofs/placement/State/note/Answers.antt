use Rattle.linker_output.proofs.Imports.{rules}
use Rattle.linker_output.proofs.Adding.{noted}
use Rattle.linker_output.proofs.placement.State.note.Goals as goal

pub returns-in-Far-clause-state : goal.returns-in-Far-clause-state
returns-in-Far-clause-state c = noted c.args.code.now c.args.self.now _ c.requires.state (search rules)

pub returns-in-Near-clause-state : goal.returns-in-Near-clause-state
returns-in-Near-clause-state c = noted c.args.code.now c.args.self.now _ c.requires.state (search rules)
