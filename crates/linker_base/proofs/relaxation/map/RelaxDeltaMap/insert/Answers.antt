use Rattle.linker_base.proofs.Imports.{sym, ◌∙◌}
use Rattle.linker_base.proofs.Sections.{rise_pushed, held_pushed, OnOk_from}
use Rattle.linker_base.proofs.relaxation.map.RelaxDeltaMap.insert.Goals as goal

pub invariant_of-self : goal.invariant_of-self
invariant_of-self c = rise_pushed _ _ _ c.args.section_index c.args.deltas _ c.self.invariant c.self.view_is c.push.ensures.items c.requires

pub returns-clause-ok : goal.returns-clause-ok
returns-clause-ok c =
    OnOk_from c.map_err.result _ (λ ok. held_pushed _ _ _ c.args.section_index c.args.deltas _ c.self.invariant c.self.view_is c.push.ensures.items c.requires (sym c.map_err.ensures.variant ∙ ok))
