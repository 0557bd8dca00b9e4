use Rattle.linker_base.proofs.Rank.{rank-mono}
use Rattle.linker_base.proofs.relaxation.laws.output_offsets_never_decrease.Goals as goal

pub returns : goal.returns
returns c = rank-mono
