use Rattle.linker_elf.proofs.NameTables.{aarch64_is_name}
use Rattle.linker_elf.proofs.aarch64.relocations.AArch64Relocation.from_elf.Goals as goal

pub returns : goal.returns
returns c = rw (c.name_at-3.ensures, c.name_at-2.ensures, c.name_at.ensures) (aarch64_is_name c.args.r_type c.ranges.r_type.fits)
