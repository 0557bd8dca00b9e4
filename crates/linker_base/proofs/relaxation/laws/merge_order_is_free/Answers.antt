use Rattle.linker_base.proofs.Laws.{merge_order}
use Rattle.linker_base.proofs.relaxation.laws.merge_order_is_free.Goals as goal

pub returns : goal.returns
returns c = merge_order
