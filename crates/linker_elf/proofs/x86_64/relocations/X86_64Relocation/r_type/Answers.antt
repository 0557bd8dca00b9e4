use Rattle.linker_elf.proofs.NameTables.{x86_64_r_types}
use Rattle.linker_elf.proofs.x86_64.relocations.X86_64Relocation.r_type.Goals as goal

pub returns-in_default : goal.returns-in_default
returns-in_default c = rw c.index.ensures (x86_64_r_types c.args.self c.in_default.not-Other)
