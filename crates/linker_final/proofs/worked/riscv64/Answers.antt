use Rattle.linker_final.proofs.Imports.{decisions_in, refl, ◌∙◌}
use Rattle.linker_final.proofs.PackedBytes.{listed_deltas}
use Rattle.linker_final.proofs.SectionRuns.{moved_with, packed_with, written_over}
use Rattle.linker_final.proofs.worked.riscv64.Goals as goal

pub returns : goal.returns
returns c so =
    let plan = c.in_ok-plan.plan in
    let listed = c.deltas-deltas.ensures in
    let valid = listed_deltas plan.deletions c.deltas-deltas.result.now listed.valid listed.listing in
    let lost = listed.listing.same ∙ c.in_ok-plan.ensures.deleted in
    record {
      addresses = _;
      symbols = _;
      old_is = c.is_relocated.ensures c.if-not-is_relocated.false;
      relocations_after = c.is_rewritten.new.relocations;
      rewritten = c.is_rewritten.new.section;
      is_rewritten = c.is_rewritten.ensures c.if-not-is_rewritten.false;
      decisions = decisions_in c.rewrite_global_pointer.new.decisions;
      without_base = c.rewrite_global_pointer.new.relocations;
      by_pointer = c.in-Ok-eq1.ensures.rewritten.relocations;
      items = _;
      shapes = plan.shapes.items;
      kept = plan.kept.items;
      freed = plan.freed.items;
      relaxed = c.in_ok-plan.ensures.relaxed;
      moved = c.pack_run.new.relocations;
      packed = c.pack_run.new.out;
      is_packed = packed_with _ _ _ _ _ _ _ _ lost (c.in-Ok.ensures.packed valid);
      are_moved = moved_with _ _ _ _ _ _ _ _ _ lost (c.in-Ok.ensures.moved valid);
      symbols_then = _;
      gp = 0x20000;
      based = c.finish_gp_relaxation.new.relocations;
      are_based = c.in-Ok-finish_gp_relaxation.ensures.relocations;
      final = _;
      written = written_over _ _ _ _ _ _ _ c.in-Ok-finish_gp_relaxation.ensures.section (c.is_relocated-2.ensures so);
      new_is = refl;
    }
