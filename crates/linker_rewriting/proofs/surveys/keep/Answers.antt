use Rattle.linker_rewriting.proofs.Keeping.{past_kept, set_kept}
use Rattle.linker_rewriting.proofs.surveys.keep.Goals as goal

pub returns-then-index-kept : goal.returns-then-index-kept
returns-then-index-kept c =
    set_kept c.args.kept.now c.args.group c.args.symbol c.with_kept.result _ c.if-index-kept.true
    c.with_kept.ensures

pub returns-else-index-kept : goal.returns-else-index-kept
returns-else-index-kept c =
    past_kept c.args.kept.now c.args.group c.args.symbol c.if-index-kept.false
