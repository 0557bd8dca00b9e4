use Rattle.linker_elf.proofs.Imports.{◌∙◌}
use Rattle.linker_elf.proofs.NameTables.{riscv_texts}
use Rattle.linker_elf.proofs.riscv64.relocations.RiscVRelocation.name.Goals as goal

pub returns-in_default : goal.returns-in_default
returns-in_default c = c.text_at.ensures ∙ riscv_texts c.args.self _ c.in_default.not-Other c.index.ensures
