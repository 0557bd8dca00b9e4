use Rattle.linker_elf.proofs.NameTables.{loongarch_r_types}
use Rattle.linker_elf.proofs.loongarch64.relocations.LoongArch64Relocation.r_type.Goals as goal

pub returns-in_default : goal.returns-in_default
returns-in_default c = rw c.index.ensures (loongarch_r_types c.args.self c.in_default.not-Other)
