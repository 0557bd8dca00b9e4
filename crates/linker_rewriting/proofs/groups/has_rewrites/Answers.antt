use Rattle.linker_rewriting.proofs.PhaseTables.{unlisted}
use Rattle.linker_rewriting.proofs.groups.has_rewrites.Goals as goal

pub returns-clause-unlisted : goal.returns-clause-unlisted
returns-clause-unlisted c =
    unlisted c.args.architecture c.args.phase c.is_listed.result c.is_listed.ensures
