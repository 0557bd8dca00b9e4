use Rattle.linker_utils.proofs.Imports.{◌∙◌}
use Rattle.linker_utils.proofs.RewriteRows.{second_of_window}
use Rattle.linker_utils.proofs.rewrite_rows.word_of.Goals as goal

pub returns-then-second : goal.returns-then-second
returns-then-second c =
    rw c.if-second.true (c.word_at.ensures ∙ second_of_window c.args.section.now c.args.start)
