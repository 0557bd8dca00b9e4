use Rattle.linker_elf.proofs.Imports.{rules}
use Rattle.linker_elf.proofs.PlainRows.{unit_tells}
use Rattle.linker_elf.proofs.elf.rows.has_no_bits.Goals as goal

pub returns : goal.returns
returns c =
    rw c.requires.bits
    (unit_tells c.args.value c.cast_unsigned.result c.args._alignment c.ranges.value (search rules) c.requires.unit)
