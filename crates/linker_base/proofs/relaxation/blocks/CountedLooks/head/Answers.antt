use Rattle.linker_base.proofs.Imports.{Counts, ap, arith, length, ◌*◌, ◌<◌}
use Rattle.linker_base.proofs.Search.{blank, first_is_placed}
use Rattle.linker_base.proofs.relaxation.blocks.CountedLooks.head.Goals as goal

pub returns-clause-output : goal.returns-clause-output
returns-clause-output c d =
    let listed = ap (λ (v : Counts). v.listed) c.self.view_is in
    let within : 64 * c.args.block < length c.self.inside.deltas.now = rw listed c.requires.within in
    rw (← listed) (first_is_placed c.self.inside.deltas.now c.self.invariant.deltas c.args.block d blank within (omega (arith, c.if-self-gt-BLOCK_LEN.false)))
