use Rattle.linker_runs.proofs.Imports.{ap, arith, item_of, length, length-map, rules, sym, ◌<◌, ◌∙◌, ◌≡◌}
use Rattle.linker_runs.proofs.items.list.ItemList.at.Goals as goal

pub offset_bounds-elements-index : goal.offset_bounds-elements-index
offset_bounds-elements-index c =
    let elements = c.self.inside.elements.now in
    let len : length c.args.self.now ≡ length elements = ap length (sym c.self.view_is) ∙ length-map elements item_of in
    let within : c.args.index < length elements = omega arith in
    search rules
