use Rattle.linker_elf.proofs.ChoiceTables.{is_listed}
use Rattle.linker_elf.proofs.elf.choice_table.ChoiceTable.may_be_listed.Goals as goal

pub returns : goal.returns
returns g c =
    is_listed g.Self.RewriteSet.are_at g.Self.RewriteSet.tables.required g.Self.RewriteSet.tables.entries
    g.met.Self.ChoiceTable.sampled c.args.name c.entries.result.now c.has_entries.result c.entries.ensures.table c.has_entries.ensures
