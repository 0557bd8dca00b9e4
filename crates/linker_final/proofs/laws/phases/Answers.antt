use Rattle.linker_final.proofs.Written.{left_alone_is_the_same}
use Rattle.linker_final.proofs.laws.phases.Goals as goal

pub returns : goal.returns
returns c = left_alone_is_the_same
