use Rattle.linker_utils.proofs.Imports.{refl}
use Rattle.linker_elf.specs.declared.loongarch64.relocations.LoongArch64Relocation.TheVariants as r
use Rattle.linker_utils.specs.declared.loongarch64.rewrites.RewriteKind.TheVariants as kinds
use Rattle.linker_utils.proofs.LoongArchChoices.{same_pattern}
use Rattle.linker_utils.proofs.loongarch64.choices.RewriteKindChoiceTable.choose_listed.Goals as goal

pub choice_by-requires-clause-table : goal.choice_by-requires-clause-table
choice_by-requires-clause-table c =
    λ κs. let is = c.in-R_LARCH_GOT_PC_HI20-by_table.is in
    let same = same_pattern c.args.name r.R_LARCH_GOT_PC_HI20 in
    rw is (refl, (same kinds.PcalaToPcaddi is, (refl, (same kinds.NoOp is, tt))))

pub choice_by-requires-3-clause-table : goal.choice_by-requires-3-clause-table
choice_by-requires-3-clause-table c =
    λ κs. let is = c.in-R_LARCH_PCALA_HI20-by_table.is in
    rw is (refl, (same_pattern c.args.name r.R_LARCH_PCALA_HI20 kinds.PcalaToPcaddi is, tt))

pub choice_by-requires-5-clause-table : goal.choice_by-requires-5-clause-table
choice_by-requires-5-clause-table c =
    λ κs. let is = c.in-R_LARCH_TLS_GD_PC_HI20-by_table.is in
    rw is (refl, (same_pattern c.args.name r.R_LARCH_TLS_GD_PC_HI20 kinds.PcalaToPcaddi is, tt))

pub choice_by-requires-6-clause-table : goal.choice_by-requires-6-clause-table
choice_by-requires-6-clause-table c =
    λ κs. let is = c.in-R_LARCH_TLS_LD_PC_HI20-by_table.is in
    rw is (refl, (same_pattern c.args.name r.R_LARCH_TLS_LD_PC_HI20 kinds.PcalaToPcaddi is, tt))

pub choice_by-requires-10-clause-table : goal.choice_by-requires-10-clause-table
choice_by-requires-10-clause-table c =
    λ κs. let is = c.in-R_LARCH_TLS_DESC_PC_HI20-by_table.is in
    let same = same_pattern c.args.name r.R_LARCH_TLS_DESC_PC_HI20 in
    rw is (
      refl,
      (
        same kinds.Delete is,
        (
          refl,
          (
            same kinds.ReplaceWithNop is,
            (
              refl,
              (
                same kinds.PcalaToLu12i is,
                (refl, (same kinds.NoOp is, (refl, (same kinds.PcalaToPcaddi is, tt)))),
              ),
            ),
          ),
        ),
      ),
    )
