-- The examples of RISC-V.
use Rattle.linker_laws.proofs.Imports.{adds, auipc, jal, jumps, negsuc, place_sum, pos, refl, sums}
use Rattle.linker_laws.specs.RiscVExamples.{some_hart}
use Rattle.linker_laws.specs.RiscVMachine.{executed}
use Rattle.linker_laws.proofs.rewrites.riscv64.Goals as goal

pub returns-clause-words : goal.returns-clause-words
unfolding place_sum
returns-clause-words c = (refl, refl, refl, refl, refl, refl, refl, refl)

pub returns-clause-halves : goal.returns-clause-halves
unfolding place_sum
returns-clause-halves c = (refl, refl, refl, refl, refl, refl, refl)

pub returns-clause-execution : goal.returns-clause-execution
returns-clause-execution c =
    (refl, refl, refl, refl, refl, refl, refl, refl, refl, refl, refl, refl)

pub returns-clause-sequences : goal.returns-clause-sequences
unfolding place_sum
returns-clause-sequences c =
    let first = executed 4 (auipc 1 (pos 0x2000)) some_hart in
    let nop = executed 2 (sums adds 0 0 0 (pos 0)) some_hart in (
      (
        executed 4 (sums jumps 1 1 0 (pos 16)) first,
        (first, refl, (executed 4 (sums jumps 1 1 0 (pos 16)) first, refl, refl)),
        refl,
        refl,
      ),
      (
        executed 4 (jal 1 (pos 0x2010)) some_hart,
        (executed 4 (jal 1 (pos 0x2010)) some_hart, refl, refl),
        refl,
        refl,
      ),
      (
        executed 2 (jal 0 (negsuc 1)) nop,
        (nop, refl, (executed 2 (jal 0 (negsuc 1)) nop, refl, refl)),
        refl,
        refl,
      ),
    )
