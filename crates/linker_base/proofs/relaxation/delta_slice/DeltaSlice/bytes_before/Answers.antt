use Rattle.linker_base.proofs.Imports.{IsPlacedUpTo, view_subject}
use Rattle.linker_base.proofs.Search.{searched, view_heads_agree}
use Rattle.linker_base.proofs.relaxation.delta_slice.DeltaSlice.bytes_before.Goals as goal

pub returns-clause-selected : goal.returns-clause-selected
returns-clause-selected c valid =
    let find = rw c.copy.ensures at c.count_passing-placed.ensures.point in
    let within = rw c.copy.ensures at c.count_passing-placed.ensures.within in
    let sum = rw c.deltas.ensures at c.bytes_of_first.ensures in
    rw (sum valid.valid) (searched (view_subject c.args.self.now) valid.valid c.args.output_offset c.count_passing-placed.result within (λ parted. find parted (view_heads_agree c.args.self.now (IsPlacedUpTo c.args.output_offset) valid.heads))).0

pub returns-clause-fits : goal.returns-clause-fits
returns-clause-fits c valid =
    let find = rw c.copy.ensures at c.count_passing-placed.ensures.point in
    let within = rw c.copy.ensures at c.count_passing-placed.ensures.within in
    let sum = rw c.deltas.ensures at c.bytes_of_first.ensures in
    rw (sum valid.valid) (searched (view_subject c.args.self.now) valid.valid c.args.output_offset c.count_passing-placed.result within (λ parted. find parted (view_heads_agree c.args.self.now (IsPlacedUpTo c.args.output_offset) valid.heads))).1
