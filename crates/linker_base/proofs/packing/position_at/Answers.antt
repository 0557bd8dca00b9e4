use Rattle.linker_base.proofs.Copied.{begin_below, begin_above}
use Rattle.linker_base.proofs.packing.position_at.Goals as goal

pub returns-clause-position : goal.returns-clause-position
returns-clause-position c valid begun =
    let deltas = c.args.deltas.now in
    let i = c.args.input_offset in
    record {
      begun = begun;
      output = c.rank_past.ensures valid begun.within (λ j d from low. begin_below deltas i c.args.begun valid begun j d low, λ j d up inside. begin_above deltas i c.args.begun valid begun j d up inside);
    }
