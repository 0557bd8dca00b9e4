use Rattle.linker_final.proofs.Imports.{IfErr, IsPackCause, deletions_of, deletions_of_run, length, packed_offset, refl, section_of, subst, sym, ◌+◌, ◌∙◌, ◌≡◌}
use Rattle.linker_runs.specs.Relaxing.{items_in}
use Rattle.linker_final.proofs.PackedBytes.{listed_deltas, packed_run}
use Rattle.std.proofs.lemmas.Result.{on_ok_weaker}
use Rattle.linker_final.proofs.packed.pack_relaxed_section.Goals as goal

pub pack_section-requires-clause-room : goal.pack_section-requires-clause-room
pack_section-requires-clause-room c valid =
    let lost : deletions_of c.deltas.result.now ≡ deletions_of_run (items_in c.args.items.now) c.args.plan.now.kept.items = c.deltas.ensures.listing.same ∙ c.requires.deleted in
    let s = c.args.section.now in
    c.requires.room ∙ sym (subst (λ d. packed_offset (section_of s.bytes.now s.base (deletions_of c.deltas.result.now) c.args.start) (s.base + length s.bytes.now) ≡ packed_offset (section_of s.bytes.now s.base d c.args.start) (s.base + length s.bytes.now)) lost refl)

pub returns-clause-packed : goal.returns-clause-packed
returns-clause-packed c =
    let plan = c.args.plan.now in
    let listed = c.deltas.ensures in
    let valid = listed_deltas plan.deletions c.deltas.result.now listed.valid listed.listing in
    on_ok_weaker _ (packed_run c.args.section.now (items_in c.args.items.now) c.args.start c.args.relocations.now c.pack_section.new.relocations c.args.addresses.now c.args.symbols.now
    plan.shapes.items plan.kept.items plan.freed.items (deletions_of c.deltas.result.now) c.requires.items
    c.requires.relaxed (listed.listing.same ∙ c.requires.deleted) c.pack_section.new.out) (c.pack_section.ensures.packed valid)

pub returns-clause-cause : goal.returns-clause-cause
returns-clause-cause c =
    let plan = c.args.plan.now in
    let listed = c.deltas.ensures in
    let valid = listed_deltas plan.deletions c.deltas.result.now listed.valid listed.listing in
    let lost : deletions_of c.deltas.result.now ≡ deletions_of_run (items_in c.args.items.now) plan.kept.items = listed.listing.same ∙ c.requires.deleted in
    let s = c.args.section.now in
    subst (λ d. IfErr c.pack_section.result (IsPackCause s.machine (section_of s.bytes.now s.base d c.args.start) (items_in s.items.now) c.args.relocations.now c.pack_section.new.relocations
    c.args.addresses.now c.args.symbols.now c.args.out.now c.pack_section.new.out)) lost (c.pack_section.ensures.cause valid)
