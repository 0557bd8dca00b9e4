use Rattle.linker_reading.proofs.Imports.{arith}
use Rattle.linker_reading.proofs.Ranges.{no_bits, none_above, all_above}
use Rattle.linker_reading.proofs.fields.bits_of.Goals as goal

pub returns-then-start-end : goal.returns-then-start-end
returns-then-start-end c = no_bits c.args.number c.args.start c.args.end (omega arith)

pub returns-then-start-gt63 : goal.returns-then-start-gt63
returns-then-start-gt63 c =
    none_above c.args.number c.args.start c.args.end (omega arith) (omega arith)

pub returns-then-end-gt63 : goal.returns-then-end-gt63
returns-then-end-gt63 c =
    all_above c.args.number c.args.start c.args.end (omega arith) (omega arith) (omega arith)
