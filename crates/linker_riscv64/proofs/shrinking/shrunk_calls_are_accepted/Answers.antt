use Rattle.linker_riscv64.proofs.Shrunk.{shrunk_calls_are_accepted}
use Rattle.linker_riscv64.proofs.shrinking.shrunk_calls_are_accepted.Goals as goal

pub returns : goal.returns
returns c = shrunk_calls_are_accepted
