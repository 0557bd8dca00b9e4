use Rattle.linker_elf.proofs.NameTables.{riscv_r_types}
use Rattle.linker_elf.proofs.riscv64.relocations.RiscVRelocation.r_type.Goals as goal

pub returns-in_default : goal.returns-in_default
returns-in_default c = rw c.index.ensures (riscv_r_types c.args.self c.in_default.not-Other)
