use Rattle.linker_utils.proofs.Imports.{sym}
use Rattle.linker_utils.proofs.AArch64Choices.{same_operands}
use Rattle.linker_utils.proofs.aarch64.choices.RewriteKindRewriteSet.operands_after.Goals as goal

pub returns-clause-rewrite : goal.returns-clause-rewrite
returns-clause-rewrite c =
    λ place. sym (same_operands c.args.self c.args.offset c.args.operands.now place c.ranges.offset.fits)
