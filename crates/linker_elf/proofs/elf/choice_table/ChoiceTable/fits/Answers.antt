use Rattle.linker_elf.proofs.Imports.{Applies, choice, with_group}
use Rattle.linker_elf.proofs.ChoiceTables.{isnt_last, unchanged_is}
use Rattle.linker_elf.proofs.elf.choice_table.ChoiceTable.fits.Goals as goal

pub returns : goal.returns
returns g c =
    let it = g.Self.RewriteSet.tables in
    let name = c.args.name in
    let section = c.args.section.now in
    let o = c.args.offset in
    isnt_last (Applies (it.required name section o) g.Self.Relocation.RelocationName.row_of it.after section o (with_group c.args.facts.now))
    (it.entries name section o) (choice it.no_op name) c.choose.result c.is_unchanged.result c.choose.ensures
    (unchanged_is g.met.Self.RewriteSet.laws name c.choose.result c.is_unchanged.result c.is_unchanged.ensures)
