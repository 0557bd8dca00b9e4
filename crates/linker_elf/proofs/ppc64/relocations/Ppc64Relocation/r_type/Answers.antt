use Rattle.linker_elf.proofs.NameTables.{ppc64_r_types}
use Rattle.linker_elf.proofs.ppc64.relocations.Ppc64Relocation.r_type.Goals as goal

pub returns-in_default : goal.returns-in_default
returns-in_default c = rw c.index.ensures (ppc64_r_types c.args.self c.in_default.not-Other)
