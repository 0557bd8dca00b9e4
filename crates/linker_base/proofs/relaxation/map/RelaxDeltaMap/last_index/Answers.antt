use Rattle.linker_base.proofs.Imports.{ap, option_copied, option_map, rules, ◌∙◌, ◌≡◌}
use Rattle.linker_base.proofs.Sections.{last_of, above_last}
use Rattle.linker_base.proofs.relaxation.map.RelaxDeltaMap.last_index.Goals as goal

pub returns : goal.returns
returns c =
    let read : c.map.result ≡ option_map (λ e. e.0) (option_copied c.last.result) = search rules in
    let last = last_of c.self.inside.entries.items c.args.self.now c.map.result c.self.invariant c.self.view_is (read ∙ ap (option_map (λ e. e.0)) (rw c.deref.ensures.value at c.last.ensures.value)) in
    record { last = last; above = above_last c.args.self.now c.map.result last }
