use Rattle.linker_base.proofs.Imports.{BeginsBelow, view_subject}
use Rattle.linker_base.proofs.Search.{view_heads_agree, parted_from_point}
use Rattle.linker_base.proofs.relaxation.delta_slice.DeltaSlice.count_below.Goals as goal

pub returns-clause-below : goal.returns-clause-below
returns-clause-below c valid heads =
    let find = rw c.copy.ensures at c.count_passing.ensures.point in
    let within = rw c.copy.ensures at c.count_passing.ensures.within in
    parted_from_point (view_subject c.args.self.now) c.args.offset c.count_passing.result valid within (λ parted. find parted (view_heads_agree c.args.self.now (BeginsBelow c.args.offset) heads))
