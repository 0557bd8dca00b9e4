use Rattle.linker_base.proofs.Imports.{map-id}
use Rattle.linker_base.proofs.relaxation.overlap.is_batch_beside.Goals as goal

pub returns : goal.returns
returns g c valid = rw (c.as_slice.ensures.value, map-id c.args.batch.now.items) at (c.are_beside.ensures valid)
