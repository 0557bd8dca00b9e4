use Rattle.linker_output.proofs.Imports.{Front, StubAt, get_or_read, subst, sym, ◌*◌, ◌+◌, ◌<◌, ◌^◌}
use Rattle.linker_output.proofs.Bounds.{index_fits}
use Rattle.linker_output.proofs.placement.State.is_near.Goals as goal

pub is_near-requires-clause-index : goal.is_near-requires-clause-index
is_near-requires-clause-index c =
    let h = index_fits c.args.code.now c.args.self.now c.args.stub c.requires.code c.requires.state c.requires.stub in
    let e = get_or_read c.args.self.now.stubs.items c.args.stub c.index.result.now c.requires.stub c.index.ensures (record { boundary = 0; part = Front; index = 0; target = 0 }) in
    subst (λ (t : StubAt). c.args.code.now.shape.len * (t.index + 1) < 2 ^ 62) (sym e) h
