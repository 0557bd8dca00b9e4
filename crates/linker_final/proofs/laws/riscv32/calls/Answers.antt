use Rattle.linker_final.proofs.RiscV32Calls.{calls}
use Rattle.linker_final.proofs.RiscV32Worked.{calls_are_made}
use Rattle.linker_final.proofs.laws.riscv32.calls.Goals as goal

pub returns : goal.returns
returns c = record { calls = calls; premises = calls_are_made }
