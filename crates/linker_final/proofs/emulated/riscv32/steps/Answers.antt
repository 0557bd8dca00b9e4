-- The steps of RV32: by computation.
use Rattle.linker_final.proofs.Imports.{AllPass, place_sum, refl}
use Rattle.linker_final.specs.RiscV32Executed.{made_32, passes_32}
use Rattle.linker_final.specs.RiscV32Steps.{riscv32_groups}
use Rattle.linker_final.proofs.emulated.riscv32.steps.Goals as goal

pass : AllPass made_32 passes_32 riscv32_groups
unfolding place_sum riscv32_groups
pass = refl

pub returns : goal.returns
returns c = record { steps = pass }
