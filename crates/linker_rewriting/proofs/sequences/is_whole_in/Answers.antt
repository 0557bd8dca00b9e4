use Rattle.linker_rewriting.proofs.Imports.{false, sym, true, ◌∙◌}
use Rattle.linker_rewriting.proofs.SequenceMembers.{places_left, no_member}
use Rattle.linker_rewriting.proofs.sequences.is_whole_in.Goals as goal

pub returns-then-is_place : goal.returns-then-is_place
returns-then-is_place c =
    let a = c.args in
    c.is_among.ensures
    ∙ sym (c.loop-place.invariant
    ∙ places_left a.members.now a.members.now a.site.now.relocations.now a.site.now.index a.site.now.relocation c.loop-place.place no_member true
    c.loop-place-test.true (sym c.if-is_place.true ∙ c.is_place.ensures))

pub loop-place-preserved : goal.loop-place-preserved
loop-place-preserved c =
    let a = c.args in
    c.loop-place.invariant
    ∙ places_left a.members.now a.members.now a.site.now.relocations.now a.site.now.index a.site.now.relocation c.loop-place.place no_member false
    c.loop-place-test.true (sym c.if-is_place.false ∙ c.is_place.ensures)
