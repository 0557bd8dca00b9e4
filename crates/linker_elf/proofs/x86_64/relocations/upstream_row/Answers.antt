use Rattle.linker_elf.proofs.Imports.{◌∙◌}
use Rattle.linker_elf.proofs.RowTables.{sound_from, x86_64_rows, x86_64_raw_rows}
use Rattle.linker_elf.proofs.RowsFit.{x86_64_fits}
use Rattle.linker_elf.proofs.x86_64.relocations.upstream_row.Goals as goal

pub raw_info_in-requires : goal.raw_info_in-requires
raw_info_in-requires c = sound_from _ _ (x86_64_rows c.args.name _ c.index.ensures) (x86_64_fits c.args.name)

pub returns : goal.returns
returns c = c.raw_info_in.ensures.row ∙ x86_64_raw_rows c.args.name _ c.index.ensures
