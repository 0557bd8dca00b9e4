use Rattle.linker_elf.proofs.Imports.{IfSome, LoongArch64Relocation, LoongArchRowAgrees, LoongArchRowReadsNoOther, RowFits, ap, loongarch_raw_row, loongarch_relocation, subst, sym, with_raw_kind, ◌∙◌}
use Rattle.linker_elf.specs.declared.loongarch64.relocations.LoongArch64Relocation.TheVariants as r
use Rattle.linker_elf.proofs.Readings.{loongarch_reads_no_other}
use Rattle.linker_elf.proofs.RowsAgree.{loongarch_rows as loongarch_agree}
use Rattle.linker_elf.proofs.RowTables.{sound_from, unless, loongarch_rows, loongarch_raw_rows, raw_kind_fits}
use Rattle.linker_elf.proofs.RowsFit.{loongarch_fits}
use Rattle.linker_elf.proofs.loongarch64.relocations.upstream_row.Goals as goal

agrees : (name : LoongArch64Relocation) → IfSome (loongarch_raw_row name) (LoongArchRowAgrees name)
agrees r.R_LARCH_NONE = loongarch_agree r.R_LARCH_NONE
agrees r.R_LARCH_ALIGN = (tt, tt)
agrees name = unless (LoongArchRowAgrees name) (loongarch_relocation name).is_own (loongarch_relocation name).row (loongarch_agree name)

reads_no_other : (name : LoongArch64Relocation)
    → IfSome (loongarch_raw_row name) (LoongArchRowReadsNoOther name)
reads_no_other r.R_LARCH_NONE = loongarch_reads_no_other r.R_LARCH_NONE
reads_no_other r.R_LARCH_ALIGN = tt
reads_no_other name =
    unless (LoongArchRowReadsNoOther name) (loongarch_relocation name).is_own (loongarch_relocation name).row (loongarch_reads_no_other name)

pub raw_info_in-requires : goal.raw_info_in-requires
raw_info_in-requires c =
    sound_from _ _ (loongarch_rows c.args.name _ c.index.ensures) (loongarch_fits c.args.name)

pub returns-clause-row : goal.returns-clause-row
returns-clause-row c =
    c.with_raw_kind.ensures ∙ ap with_raw_kind c.raw_info_in.ensures.row
    ∙ loongarch_raw_rows c.args.name _ c.index.ensures

pub returns-clause-agrees : goal.returns-clause-agrees
returns-clause-agrees c =
    subst (λ row. IfSome row (LoongArchRowAgrees c.args.name)) (sym (returns-clause-row c))
    (agrees c.args.name)

pub returns-clause-others : goal.returns-clause-others
returns-clause-others c =
    subst (λ row. IfSome row (LoongArchRowReadsNoOther c.args.name)) (sym (returns-clause-row c))
    (reads_no_other c.args.name)

pub returns-clause-fits : goal.returns-clause-fits
returns-clause-fits c =
    subst (λ row. IfSome row RowFits) (sym c.with_raw_kind.ensures)
    (raw_kind_fits c.raw_info_in.result c.raw_info_in.ensures.fits)
