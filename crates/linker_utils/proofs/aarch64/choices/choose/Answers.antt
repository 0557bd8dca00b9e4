use Rattle.linker_utils.proofs.AArch64Choices.{chosen_matches, chosen_rewritable}
use Rattle.linker_utils.proofs.aarch64.choices.choose.Goals as goal

pub returns-clause-matches : goal.returns-clause-matches
returns-clause-matches c =
    chosen_matches c.args.name c.args.section.now c.args.offset c.args.facts.now c.choose.result c.choose.ensures

pub returns-clause-rewritable : goal.returns-clause-rewritable
returns-clause-rewritable c =
    chosen_rewritable c.args.name c.args.section.now c.args.offset c.args.facts.now c.choose.result c.choose.ensures
