use Rattle.linker_elf.proofs.Imports.{◌∙◌}
use Rattle.linker_elf.proofs.NameTables.{loongarch_texts}
use Rattle.linker_elf.proofs.loongarch64.relocations.LoongArch64Relocation.name.Goals as goal

pub returns-in_default : goal.returns-in_default
returns-in_default c = c.text_at.ensures ∙ loongarch_texts c.args.self _ c.in_default.not-Other c.index.ensures
