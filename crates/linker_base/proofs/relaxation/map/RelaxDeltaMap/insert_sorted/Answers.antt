use Rattle.linker_base.proofs.Imports.{IsGap, sym, ◌∙◌}
use Rattle.linker_base.proofs.Sections.{rise_inserted, held_inserted, not_fresh, OnOk_from}
use Rattle.linker_base.proofs.relaxation.map.RelaxDeltaMap.insert_sorted.Goals as goal
use Rattle.linker_base.proofs.relaxation.map.RelaxDeltaMap.insert_sorted.Goals.{in-Ok, in-Ok-2}

-- a fresh index is not found, so the place is a gap
pub invariant_of-self : goal.invariant_of-self
invariant_of-self c =
    let gap : IsGap c.self.inside.entries.items c.args.section_index c.match-search.at = elim c.match-search.branch [
      | in-Ok w ↦ let there = rw c.deref.ensures.value at w.in-Ok.ensures.found in absurd (not_fresh _ _ c.args.section_index w.in-Ok.at c.self.invariant c.self.view_is there c.requires)
      | in-Ok-2 w ↦ let gap = rw c.deref.ensures.value at w.in-Ok.ensures.absent in rw w.at-is gap
    ] in
    rise_inserted _ _ _ c.args.section_index c.args.deltas _ c.self.invariant c.self.view_is c.match-search.at gap c.insert.ensures.items

pub returns-clause-ok : goal.returns-clause-ok
returns-clause-ok c =
    let gap : IsGap c.self.inside.entries.items c.args.section_index c.match-search.at = elim c.match-search.branch [
      | in-Ok w ↦ let there = rw c.deref.ensures.value at w.in-Ok.ensures.found in absurd (not_fresh _ _ c.args.section_index w.in-Ok.at c.self.invariant c.self.view_is there c.requires)
      | in-Ok-2 w ↦ let gap = rw c.deref.ensures.value at w.in-Ok.ensures.absent in rw w.at-is gap
    ] in
    OnOk_from c.map_err.result _ (λ ok. held_inserted _ _ _ c.args.section_index c.args.deltas _ c.self.invariant c.self.view_is c.match-search.at gap c.insert.ensures.items (sym c.map_err.ensures.variant ∙ ok))
