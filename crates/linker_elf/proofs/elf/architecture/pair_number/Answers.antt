use Rattle.linker_elf.proofs.Imports.{arith, refl}
use Rattle.linker_elf.proofs.elf.architecture.pair_number.Goals as goal

pub returns-in-Adds : goal.returns-in-Adds
returns-in-Adds c =
    record {
      number = rw c.in-Adds.is (λ old rest is. rw (c.number_or_zero.ensures.some old rest is) refl);
      none = λ none. rw (c.number_or_zero.ensures.none none) (omega arith);
    }
