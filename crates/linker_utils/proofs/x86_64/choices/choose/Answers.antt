use Rattle.linker_utils.proofs.Imports.{opcode_at, x86_64_table}
use Rattle.linker_utils.proofs.X86Choices.{chosen_matches}
use Rattle.linker_utils.proofs.x86_64.choices.choose.Goals as goal

pub returns-clause-matches : goal.returns-clause-matches
returns-clause-matches c =
    chosen_matches (x86_64_table c.args.name (opcode_at c.args.name c.args.section.now c.args.offset)) c.args.name c.args.section.now c.args.offset c.args.facts.now c.choose.result c.choose.ensures
