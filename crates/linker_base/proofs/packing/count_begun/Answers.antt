use Rattle.linker_base.proofs.Imports.{arith, deletion_of, length-map, no_delta, ◌-◌}
use Rattle.linker_base.proofs.Search.{deletion_at}
use Rattle.linker_base.proofs.packing.count_begun.Goals as goal

pub returns-clause-begun : goal.returns-clause-begun
returns-clause-begun c valid =
    let deltas = c.args.deltas.now in
    let k = c.count_below.result in
    let parted = (rw c.new.ensures.same at c.count_below.ensures.below) valid.valid (λ some. absurd (omega arith)) in
    let within = rw c.new.ensures.same at c.count_below.ensures.within in
    record {
      within = within;
      below = λ some. rw (deletion_at deltas (k - 1) no_delta (0, 0) (omega arith)) at (parted.0 (k - 1) (0, 0) (omega arith) (omega arith));
      above = λ more. rw (deletion_at deltas k no_delta (0, 0) more) at (parted.1 k (0, 0) (omega arith) (omega (arith, length-map deltas deletion_of)));
    }
