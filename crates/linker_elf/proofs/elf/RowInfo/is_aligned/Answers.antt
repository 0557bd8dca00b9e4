use Rattle.linker_elf.proofs.Imports.{arith, rules, trailing_zeros, w64, ◌%◌}
use Rattle.linker_elf.proofs.Taken.{is_multiple}
use Rattle.linker_elf.proofs.elf.RowInfo.is_aligned.Goals as goal

pub returns-then-self-unit : goal.returns-then-self-unit
returns-then-self-unit c =
    let row = c.args.self.now in
    is_multiple c.args.value c.cast_unsigned.result row.alignment
    (trailing_zeros w64 row.alignment % 64) c.ranges.value (search rules) (omega arith)
    (search rules)
