use Rattle.linker_final.proofs.RiscV32.{addends, pairs_reach_all, values}
use Rattle.linker_final.proofs.laws.riscv32.values.Goals as goal

pub returns : goal.returns
returns c = record { addends = addends; values = values; pairs = pairs_reach_all }
