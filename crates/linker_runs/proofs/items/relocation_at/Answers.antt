use Rattle.linker_runs.proofs.Imports.{ap, get_or-map, no_relocation, sym, ◌∙◌}
use Rattle.linker_runs.proofs.items.relocation_at.Goals as goal

pub returns : goal.returns
returns g c =
    let f = g.R.AsRelocation.relocation in
    let at = c.index-relocations-index in
    c.as_relocation.ensures ∙ ap f at.is ∙ sym (get_or-map f c.args.relocations.now c.args.index at.result no_relocation c.requires)
