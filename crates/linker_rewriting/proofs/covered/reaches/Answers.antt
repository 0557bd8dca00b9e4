use Rattle.linker_rewriting.proofs.Imports.{drop, field_len, offset_at, subst, ◌-◌, ◌≡◌}
use Rattle.linker_rewriting.proofs.Places.{is_far}
use Rattle.linker_section.proofs.Sized.{field_short}
use Rattle.linker_rewriting.proofs.covered.reaches.Goals as goal

pub returns-then-distance-ge-LONGEST-clause-no : goal.returns-then-distance-ge-LONGEST-clause-no
returns-then-distance-ge-LONGEST-clause-no c _ row is_field =
    let a = c.args in
    let o = offset_at a.relocations.now a.index in
    is_far o a.start c.saturating_sub-distance.result (field_len row (drop o a.section.now))
    (subst (λ r. c.saturating_sub-distance.result ≡ a.start - r.offset) c.relocation_in.ensures c.saturating_sub-distance.ensures)
    c.if-distance-ge-LONGEST.true
    (field_short a.architecture a.relocations.now a.section.now a.index row is_field)
