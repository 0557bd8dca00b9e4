use Rattle.linker_elf.proofs.Imports.{◌∙◌}
use Rattle.linker_elf.proofs.NameTables.{x86_64_texts}
use Rattle.linker_elf.proofs.x86_64.relocations.X86_64Relocation.name.Goals as goal

pub returns-in_default : goal.returns-in_default
returns-in_default c = c.text_at.ensures ∙ x86_64_texts c.args.self _ c.in_default.not-Other c.index.ensures
