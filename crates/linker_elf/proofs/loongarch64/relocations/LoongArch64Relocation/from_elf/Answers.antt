use Rattle.linker_elf.proofs.NameTables.{loongarch_is_name}
use Rattle.linker_elf.proofs.loongarch64.relocations.LoongArch64Relocation.from_elf.Goals as goal

pub returns : goal.returns
returns c = rw c.name_at.ensures (loongarch_is_name c.args.r_type c.ranges.r_type.fits)
