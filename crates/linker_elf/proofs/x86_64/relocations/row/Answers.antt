use Rattle.linker_elf.proofs.Imports.{◌∙◌}
use Rattle.linker_elf.proofs.RowTables.{sound_from, x86_64_rows}
use Rattle.linker_elf.proofs.RowsFit.{x86_64_fits}
use Rattle.linker_elf.proofs.x86_64.relocations.row.Goals as goal

pub row_in-requires : goal.row_in-requires
row_in-requires c = sound_from _ _ (x86_64_rows c.args.name _ c.index.ensures) (x86_64_fits c.args.name)

pub returns : goal.returns
returns c = c.row_in.ensures ∙ (x86_64_rows c.args.name _ c.index.ensures).row_is
