use Rattle.linker_elf.proofs.Imports.{IfSome, LoongArchRowAgrees, LoongArchRowReadsNoOther, subst, sym, ◌∙◌}
use Rattle.linker_elf.proofs.Readings.{loongarch_reads_no_other}
use Rattle.linker_elf.proofs.RowsAgree.{loongarch_rows as loongarch_agree}
use Rattle.linker_elf.proofs.RowTables.{sound_from, loongarch_rows}
use Rattle.linker_elf.proofs.RowsFit.{loongarch_fits}
use Rattle.linker_elf.proofs.loongarch64.relocations.row.Goals as goal

pub row_in-requires : goal.row_in-requires
row_in-requires c = sound_from _ _ (loongarch_rows c.args.name _ c.index.ensures) (loongarch_fits c.args.name)

pub returns-clause-row : goal.returns-clause-row
returns-clause-row c = c.row_in.ensures ∙ (loongarch_rows c.args.name _ c.index.ensures).row_is

pub returns-clause-agrees : goal.returns-clause-agrees
returns-clause-agrees c = subst (λ row. IfSome row (LoongArchRowAgrees c.args.name)) (sym (returns-clause-row c)) (loongarch_agree c.args.name)

pub returns-clause-others : goal.returns-clause-others
returns-clause-others c =
    subst (λ row. IfSome row (LoongArchRowReadsNoOther c.args.name)) (sym (returns-clause-row c)) (loongarch_reads_no_other c.args.name)
