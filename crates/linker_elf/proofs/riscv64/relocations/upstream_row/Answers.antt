use Rattle.linker_elf.proofs.Imports.{IfSome, RowAgrees, RowReadsNoOther, riscv_relocation, subst, sym, ◌∙◌}
use Rattle.linker_elf.proofs.Readings.{riscv_reads_no_other}
use Rattle.linker_elf.proofs.RowsAgree.{riscv_rows as riscv_agree}
use Rattle.linker_elf.proofs.RowTables.{sound_from, unless, riscv_rows, riscv_raw_rows}
use Rattle.linker_elf.proofs.RowsFit.{riscv_fits}
use Rattle.linker_elf.proofs.riscv64.relocations.upstream_row.Goals as goal

pub raw_info_in-requires : goal.raw_info_in-requires
raw_info_in-requires c = sound_from _ _ (riscv_rows c.args.name _ c.index.ensures) (riscv_fits c.args.name)

pub returns-clause-row : goal.returns-clause-row
returns-clause-row c = c.raw_info_in.ensures.row ∙ riscv_raw_rows c.args.name _ c.index.ensures

pub returns-clause-agrees : goal.returns-clause-agrees
returns-clause-agrees c = subst (λ row. IfSome row RowAgrees) (sym (returns-clause-row c))
    (unless RowAgrees (riscv_relocation c.args.name).is_own _ (riscv_agree c.args.name))

pub returns-clause-others : goal.returns-clause-others
returns-clause-others c = subst (λ row. IfSome row RowReadsNoOther) (sym (returns-clause-row c))
    (unless RowReadsNoOther (riscv_relocation c.args.name).is_own _ (riscv_reads_no_other c.args.name))
