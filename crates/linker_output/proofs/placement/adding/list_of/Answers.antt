use Rattle.linker_output.proofs.Imports.{list_of, refl}
use Rattle.linker_output.proofs.placement.adding.list_of.Goals as goal

pub returns-clause-list : goal.returns-clause-list
unfolding list_of
returns-clause-list c = refl
