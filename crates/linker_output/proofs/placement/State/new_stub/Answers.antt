use Rattle.linker_output.proofs.Imports.{ap, arith, get_or_read, group_at, part_of, subst, sym, ◌*◌, ◌+◌, ◌<◌, ◌^◌, ◌∙◌, ◌≡◌}
use Rattle.linker_output.proofs.Bounds.{part_fits}
use Rattle.linker_output.proofs.placement.State.new_stub.Goals as goal

pub returns-clause-stub : goal.returns-clause-stub
returns-clause-stub c =
    let g = c.requires.state.groups in
    let b = c.requires.boundary in
    let group : c.index-group.result.now ≡ group_at c.args.self.now.groups.items c.args.boundary = get_or_read c.args.self.now.groups.items c.args.boundary c.index-group.result.now (omega arith) c.index-group.ensures (record { front = 0; middle = 0; back = 0 }) in
    ap (λ n. record { boundary = c.args.boundary; part = c.args.part; index = n; target = c.args.branch.now.target }) (c.stubs_of.ensures ∙ ap (part_of c.args.part) group)

pub returns-clause-fits : goal.returns-clause-fits
returns-clause-fits c =
    let g = c.requires.state.groups in
    let b = c.requires.boundary in
    let group : c.index-group.result.now ≡ group_at c.args.self.now.groups.items c.args.boundary = get_or_read c.args.self.now.groups.items c.args.boundary c.index-group.result.now (omega arith) c.index-group.ensures (record { front = 0; middle = 0; back = 0 }) in
    subst (λ n. c.args.code.now.shape.len * (n + 1) < 2 ^ 62) (sym (c.stubs_of.ensures ∙ ap (part_of c.args.part) group))
    (part_fits c.args.code.now c.args.self.now c.args.boundary c.args.part c.requires.code c.requires.state c.requires.boundary)
