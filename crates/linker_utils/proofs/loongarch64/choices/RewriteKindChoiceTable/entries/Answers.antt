use Rattle.linker_utils.proofs.Imports.{refl}
use Rattle.linker_elf.specs.declared.loongarch64.relocations.LoongArch64Relocation.TheVariants as r
use Rattle.linker_utils.specs.declared.loongarch64.rewrites.RewriteKind.TheVariants as kinds
use Rattle.linker_utils.proofs.LoongArchChoices.{same_pattern}
use Rattle.linker_utils.proofs.loongarch64.choices.RewriteKindChoiceTable.entries.Goals as goal

pub returns-in-R_LARCH_GOT_PC_HI20-by_table-clause-table : goal.returns-in-R_LARCH_GOT_PC_HI20-by_table-clause-table
returns-in-R_LARCH_GOT_PC_HI20-by_table-clause-table c =
    let is = c.in-R_LARCH_GOT_PC_HI20-by_table.is in
    let same = same_pattern c.args.name r.R_LARCH_GOT_PC_HI20 in
    rw is (refl, (same kinds.PcalaToPcaddi is, (refl, (same kinds.NoOp is, tt))))

pub returns-in-R_LARCH_PCALA_HI20-by_table-clause-table : goal.returns-in-R_LARCH_PCALA_HI20-by_table-clause-table
returns-in-R_LARCH_PCALA_HI20-by_table-clause-table c =
    let is = c.in-R_LARCH_PCALA_HI20-by_table.is in
    rw is (refl, (same_pattern c.args.name r.R_LARCH_PCALA_HI20 kinds.PcalaToPcaddi is, tt))

pub returns-in-R_LARCH_TLS_GD_PC_HI20-by_table-clause-table : goal.returns-in-R_LARCH_TLS_GD_PC_HI20-by_table-clause-table
returns-in-R_LARCH_TLS_GD_PC_HI20-by_table-clause-table c =
    let is = c.in-R_LARCH_TLS_GD_PC_HI20-by_table.is in
    rw is (refl, (same_pattern c.args.name r.R_LARCH_TLS_GD_PC_HI20 kinds.PcalaToPcaddi is, tt))

pub returns-in-R_LARCH_TLS_LD_PC_HI20-by_table-clause-table : goal.returns-in-R_LARCH_TLS_LD_PC_HI20-by_table-clause-table
returns-in-R_LARCH_TLS_LD_PC_HI20-by_table-clause-table c =
    let is = c.in-R_LARCH_TLS_LD_PC_HI20-by_table.is in
    rw is (refl, (same_pattern c.args.name r.R_LARCH_TLS_LD_PC_HI20 kinds.PcalaToPcaddi is, tt))

pub returns-in-R_LARCH_TLS_DESC_PC_HI20-by_table-clause-table : goal.returns-in-R_LARCH_TLS_DESC_PC_HI20-by_table-clause-table
returns-in-R_LARCH_TLS_DESC_PC_HI20-by_table-clause-table c =
    let is = c.in-R_LARCH_TLS_DESC_PC_HI20-by_table.is in
    let same = same_pattern c.args.name r.R_LARCH_TLS_DESC_PC_HI20 in
    rw is (
      refl,
      (
        same kinds.Delete is,
        (
          refl,
          (
            same kinds.ReplaceWithNop is,
            (
              refl,
              (
                same kinds.PcalaToLu12i is,
                (refl, (same kinds.NoOp is, (refl, (same kinds.PcalaToPcaddi is, tt)))),
              ),
            ),
          ),
        ),
      ),
    )
