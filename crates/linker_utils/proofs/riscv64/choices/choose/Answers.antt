use Rattle.linker_utils.proofs.RiscVChoices.{chosen_matches, chosen_rewritable, chosen_compressed}
use Rattle.linker_utils.proofs.riscv64.choices.choose.Goals as goal

pub returns-clause-matches : goal.returns-clause-matches
returns-clause-matches c =
    chosen_matches c.args.name c.args.section.now c.args.offset c.args.facts.now c.choose.result c.choose.ensures

pub returns-clause-rewritable : goal.returns-clause-rewritable
returns-clause-rewritable c =
    chosen_rewritable c.args.name c.args.section.now c.args.offset c.args.facts.now c.choose.result c.choose.ensures

pub returns-clause-compressed : goal.returns-clause-compressed
returns-clause-compressed c =
    chosen_compressed c.args.name c.args.section.now c.args.offset c.args.facts.now c.choose.result c.choose.ensures
