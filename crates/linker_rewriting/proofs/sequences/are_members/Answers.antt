use Rattle.linker_rewriting.proofs.Imports.{false, sym, true, ◌∙◌}
use Rattle.linker_rewriting.proofs.SequenceMembers.{members_left, no_member}
use Rattle.linker_rewriting.proofs.sequences.are_members.Goals as goal

pub returns-then-not-is_member : goal.returns-then-not-is_member
returns-then-not-is_member c =
    let a = c.args in
    sym (c.loop-place.invariant
    ∙ members_left a.members.now a.relocations.now a.first a.offset a.relocation.now c.loop-place.place no_member
    c.relocation_at-found.result false c.loop-place-test.true c.relocation_at-found.ensures
    (sym c.if-not-is_member.true ∙ c.is_member.ensures))

pub loop-place-preserved : goal.loop-place-preserved
loop-place-preserved c =
    let a = c.args in
    c.loop-place.invariant
    ∙ members_left a.members.now a.relocations.now a.first a.offset a.relocation.now c.loop-place.place no_member
    c.relocation_at-found.result true c.loop-place-test.true c.relocation_at-found.ensures
    (sym c.if-not-is_member.false ∙ c.is_member.ensures)
