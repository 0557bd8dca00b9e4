use Rattle.linker_elf.proofs.Imports.{arith, ◌-◌, ◌∙◌}
use Rattle.linker_elf.proofs.Bounds.{negated, signed_bounds, unsigned_bounds}
use Rattle.linker_elf.proofs.elf.AllowedRange.from_bit_size.Goals as goal

pub overflow_sub-n-in-Signed : goal.overflow_sub-n-in-Signed
overflow_sub-n-in-Signed c = negated (c.args.n - 1) (omega arith)

pub returns-in-Signed : goal.returns-in-Signed
returns-in-Signed c = c.new.ensures ∙ signed_bounds c.args.n c.args.sign c.requires.some c.requires.short c.in-Signed.is

pub returns-in-Unsigned : goal.returns-in-Unsigned
returns-in-Unsigned c = c.new-in-Unsigned.ensures ∙ unsigned_bounds c.args.n c.args.sign c.requires.short c.in-Unsigned.is
