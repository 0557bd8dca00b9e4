use Rattle.linker_rewriting.proofs.Imports.{AreKeptToo, IsGroupOf, IsKeeping, IsUnmarked, context_of, subst, ◌+◌}
use Rattle.linker_rewriting.proofs.Surveying.{more_surveyed, none_surveyed}
use Rattle.linker_rewriting.proofs.Untouched.{left_between}
use Rattle.linker_rewriting.proofs.surveys.survey_in.Goals as goal

pub loop-index-preserved : goal.loop-index-preserved
loop-index-preserved c =
    let a = c.args in
    let k = c.loop-index.index in
    let s = context_of a.context.now in
    let same = c.relocation_in.ensures in
    record {
      within = c.next_keeping-index-in-loop-index.ensures.within;
      surveyed = left_between s a.relocations.now a.section.now a.kept.now c.keep_threads.new.kept (k + 1) c.next_keeping-index-in-loop-index.result c.next_keeping-index-in-loop-index.ensures.from
          (more_surveyed s a.relocations.now a.section.now
          a.kept.now c.loop-index.kept c.keep_group.new.kept c.keep_threads.new.kept k
          c.keeping-group.result c.is_unmarked-unmarked.result c.loop-index.invariant.surveyed
          (subst (λ r. IsKeeping s a.relocations.now a.section.now k r c.keeping-group.result) same c.keeping-group.ensures)
          (subst (λ r. AreKeptToo c.loop-index.kept c.keep_group.new.kept (IsGroupOf c.keeping-group.result r.symbol)) same c.keep_group.ensures)
          (subst (λ r. IsUnmarked s a.relocations.now k r c.is_unmarked-unmarked.result) same c.is_unmarked-unmarked.ensures)
          c.keep_threads.ensures)
          c.next_keeping-index-in-loop-index.ensures.between;
    }

pub loop-index-init : goal.loop-index-init
loop-index-init c =
    let a = c.args in
    let s = context_of a.context.now in
    record {
      within = c.next_keeping-index.ensures.within;
      surveyed = left_between s a.relocations.now a.section.now a.kept.now a.kept.now 0 c.next_keeping-index.result c.next_keeping-index.ensures.from
          (none_surveyed s a.relocations.now a.section.now a.kept.now)
          c.next_keeping-index.ensures.between;
    }
