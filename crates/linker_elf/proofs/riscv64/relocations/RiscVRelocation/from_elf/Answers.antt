use Rattle.linker_elf.proofs.NameTables.{riscv_is_name}
use Rattle.linker_elf.proofs.riscv64.relocations.RiscVRelocation.from_elf.Goals as goal

pub returns : goal.returns
returns c = rw c.name_at.ensures (riscv_is_name c.args.r_type c.ranges.r_type.fits)
