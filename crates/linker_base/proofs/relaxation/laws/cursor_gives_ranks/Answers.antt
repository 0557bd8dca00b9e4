use Rattle.linker_base.proofs.Laws.{cursor_ranks}
use Rattle.linker_base.proofs.relaxation.laws.cursor_gives_ranks.Goals as goal

pub returns : goal.returns
returns c = cursor_ranks
