use Rattle.linker_elf.proofs.NameTables.{aarch64_r_types}
use Rattle.linker_elf.proofs.aarch64.relocations.AArch64Relocation.r_type.Goals as goal

pub returns-in_default : goal.returns-in_default
returns-in_default c = rw c.index.ensures (aarch64_r_types c.args.self c.in_default.not-Other)
