use Rattle.linker_elf.proofs.Imports.{◌∙◌}
use Rattle.linker_elf.proofs.NameTables.{aarch64_texts}
use Rattle.linker_elf.proofs.aarch64.relocations.AArch64Relocation.name.Goals as goal

pub returns-in_default : goal.returns-in_default
returns-in_default c = c.text_at.ensures ∙ aarch64_texts c.args.self _ c.in_default.not-Other c.index.ensures
