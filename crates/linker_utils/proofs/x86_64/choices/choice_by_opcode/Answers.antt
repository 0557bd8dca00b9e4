use Rattle.linker_utils.proofs.Imports.{subst, x86_64_table}
use Rattle.linker_elf.specs.Inner.ChoiceTables.{IsTableOf}
use Rattle.linker_utils.specs.Inner.X86Tables.{MatchesPattern}
use Rattle.linker_utils.specs.X86Rewrites.{HasPattern}
use Rattle.linker_utils.proofs.x86_64.choices.choice_by_opcode.Goals as goal

pub choice_by-requires-clause-table : goal.choice_by-requires-clause-table
choice_by-requires-clause-table c =
    λ κs. subst (λ opcode. IsTableOf MatchesPattern (HasPattern (x86_64_table c.args.name opcode).instructions) c.args.table.now (x86_64_table c.args.name opcode).entries)
    c.requires.opcode c.requires.table
