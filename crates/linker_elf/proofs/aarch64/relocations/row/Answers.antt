use Rattle.linker_elf.proofs.Imports.{IfSome, RowAgrees, RowReadsNoOther, subst, sym, ◌∙◌}
use Rattle.linker_elf.proofs.Readings.{aarch64_reads_no_other}
use Rattle.linker_elf.proofs.RowsAgree.{aarch64_rows as aarch64_agree}
use Rattle.linker_elf.proofs.RowTables.{sound_from, aarch64_rows}
use Rattle.linker_elf.proofs.RowsFit.{aarch64_fits}
use Rattle.linker_elf.proofs.aarch64.relocations.row.Goals as goal

pub row_in-requires : goal.row_in-requires
row_in-requires c = sound_from _ _ (aarch64_rows c.args.name _ c.index.ensures) (aarch64_fits c.args.name)

pub returns-clause-row : goal.returns-clause-row
returns-clause-row c = c.row_in.ensures ∙ (aarch64_rows c.args.name _ c.index.ensures).row_is

pub returns-clause-agrees : goal.returns-clause-agrees
returns-clause-agrees c = subst (λ row. IfSome row (RowAgrees)) (sym (returns-clause-row c)) (aarch64_agree c.args.name)

pub returns-clause-others : goal.returns-clause-others
returns-clause-others c =
    subst (λ row. IfSome row (RowReadsNoOther)) (sym (returns-clause-row c)) (aarch64_reads_no_other c.args.name)
