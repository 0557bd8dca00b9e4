use Rattle.linker_utils.proofs.Imports.{RowFits, RowInfo, RowReadsNoOther, ap, clui_row, row_size, subst, sym, ◌∙◌}
use Rattle.linker_elf.proofs.Readings.{clui_reads_no_other}
use Rattle.linker_utils.specs.declared.elf.RelocationSize.{RelocationSize}
use Rattle.linker_utils.proofs.riscv64.relaxation_kind.RelaxationKind.clui_rel_info.Goals as goal

abbrev with_size : RowInfo → RelocationSize → RowInfo
with_size row size = record row { size = row_size size }

pub returns-clause-row : goal.returns-clause-row
returns-clause-row c =
    c.of_size.ensures
    ∙ ap (λ row. with_size row c.bit_mask_riscv-bits.result) (c.info-row.ensures.row ∙ c.clui_row.ensures)
    ∙ ap (λ size. with_size clui_row size) c.bit_mask_riscv-bits.ensures

pub returns-clause-others : goal.returns-clause-others
returns-clause-others c = subst RowReadsNoOther (sym (returns-clause-row c)) clui_reads_no_other

pub returns-clause-fits : goal.returns-clause-fits
returns-clause-fits c =
    subst RowFits (sym (returns-clause-row c ∙ sym (c.info-row.ensures.row ∙ c.clui_row.ensures))) c.info-row.ensures.fits
