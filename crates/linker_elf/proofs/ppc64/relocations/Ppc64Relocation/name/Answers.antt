use Rattle.linker_elf.proofs.Imports.{◌∙◌}
use Rattle.linker_elf.proofs.NameTables.{ppc64_texts}
use Rattle.linker_elf.proofs.ppc64.relocations.Ppc64Relocation.name.Goals as goal

pub returns-in_default : goal.returns-in_default
returns-in_default c = c.text_at.ensures ∙ ppc64_texts c.args.self _ c.in_default.not-Other c.index.ensures
