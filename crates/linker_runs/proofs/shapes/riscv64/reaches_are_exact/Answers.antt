use Rattle.linker_runs.proofs.RiscVReaches.{riscv_shapes}
use Rattle.linker_runs.proofs.shapes.riscv64.reaches_are_exact.Goals as goal

pub returns : goal.returns
returns c = riscv_shapes
