use Rattle.linker_elf.proofs.Imports.{EntryApplies, IsFirstOf, choice, subst}
use Rattle.linker_elf.proofs.ChoiceTables.{first_of_table}
use Rattle.linker_elf.proofs.elf.choice_table.choice_by.Goals as goal

pub returns : goal.returns
returns g c =
    let it = g.K.RewriteSet.tables in
    let row = g.K.Relocation.RelocationName.row_of in
    let section = c.args.section.now in
    let o = c.args.offset in
    let facts = c.args.facts.now in
    let es = c.args.entries.now in
    first_of_table g.K.RewriteSet.are_at (it.required c.args.name section o) row it.after section o facts es
    (it.entries c.args.name section o) (choice it.no_op c.args.name) c.first_entry.result c.requires.table
    (subst (λ otherwise. IsFirstOf (EntryApplies g.K.RewriteSet.are_at row it.after section o facts) es otherwise c.first_entry.result)
    c.unchanged.ensures c.first_entry.ensures)
