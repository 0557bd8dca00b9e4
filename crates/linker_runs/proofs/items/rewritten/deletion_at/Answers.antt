use Rattle.linker_runs.proofs.Imports.{ap, get_or-map, sym, ◌∙◌}
use Rattle.linker_runs.proofs.items.rewritten.deletion_at.Goals as goal

pub returns : goal.returns
returns g c =
    let f = g.L.AsDeletion.deletion in
    let at = c.index-deleted-index in
    c.as_deletion.ensures ∙ ap f at.is ∙ sym (get_or-map f c.args.deleted.now c.args.index at.result (0, 0) c.requires)
