use Rattle.linker_elf.proofs.Imports.{IfSome, RowAgrees, RowReadsNoOther, ppc64_relocation, subst, sym, ◌∙◌}
use Rattle.linker_elf.proofs.Readings.{ppc64_reads_no_other}
use Rattle.linker_elf.proofs.RowsAgree.{ppc64_rows as ppc64_agree}
use Rattle.linker_elf.proofs.RowTables.{sound_from, unless, ppc64_rows, ppc64_raw_rows}
use Rattle.linker_elf.proofs.RowsFit.{ppc64_fits}
use Rattle.linker_elf.proofs.ppc64.relocations.upstream_row.Goals as goal

pub raw_info_in-requires : goal.raw_info_in-requires
raw_info_in-requires c = sound_from _ _ (ppc64_rows c.args.name _ c.index.ensures) (ppc64_fits c.args.name)

pub returns-clause-row : goal.returns-clause-row
returns-clause-row c = c.raw_info_in.ensures.row ∙ ppc64_raw_rows c.args.name _ c.index.ensures

pub returns-clause-agrees : goal.returns-clause-agrees
returns-clause-agrees c = subst (λ row. IfSome row RowAgrees) (sym (returns-clause-row c))
    (unless RowAgrees (ppc64_relocation c.args.name).is_own _ (ppc64_agree c.args.name))

pub returns-clause-others : goal.returns-clause-others
returns-clause-others c = subst (λ row. IfSome row RowReadsNoOther) (sym (returns-clause-row c))
    (unless RowReadsNoOther (ppc64_relocation c.args.name).is_own _ (ppc64_reads_no_other c.args.name))
