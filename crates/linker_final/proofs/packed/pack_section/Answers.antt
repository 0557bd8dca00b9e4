use Rattle.linker_final.proofs.Imports.{AreWritten, rules, subst, ◌/◌, ◌<◌}
use Rattle.linker_final.proofs.PackedBytes.{are_bytes}
use Rattle.linker_final.proofs.packed.pack_section.Goals as goal

pub returns-in-Ok-clause-packed : goal.returns-in-Ok-clause-packed
returns-in-Ok-clause-packed c valid =
    let packed = c.pack_run.new.out in
    let moves = c.in_default.ensures.moved valid in (
      packed,
      record {
        run = c.in_default.ensures.packed valid;
        moved = λ i below. moves.each i (subst (λ n. i < n / 24) moves.as_many below);
        address = search (rules, valid);
        written = subst (λ a. AreWritten a c.args.addresses.now c.pack_run.new.relocations c.args.symbols.now packed c.relocate_section.new.section) c.architecture_of.ensures c.in-Ok.ensures.fields;
        as_many = moves.as_many;
        section_bytes = are_bytes c.args.section.now (λ i. search rules);
        final_bytes = are_bytes c.relocate_section.new.section (λ i. search rules);
      },
    )

pub returns-in-Err-relocate_section-clause-cause : goal.returns-in-Err-relocate_section-clause-cause
returns-in-Err-relocate_section-clause-cause c valid =
    let stopped = c.in-Err-relocate_section.ensures in
    rw (stopped.unchanged, ← c.architecture_of.ensures)
    (search (rules, valid), c.in_default.ensures.packed valid, c.in_default.ensures.moved valid, stopped.fault)

pub returns-in-Err-clause-cause : goal.returns-in-Err-clause-cause
returns-in-Err-clause-cause c valid = (
  search (rules, valid),
  c.in-Err.ensures.rejected valid,
  c.in-Err.ensures.unchanged.0,
  c.in-Err.ensures.unchanged.1,
)
