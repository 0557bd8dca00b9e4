use Rattle.linker_runs.proofs.LoongArchReaches.{loongarch_shapes}
use Rattle.linker_runs.proofs.shapes.loongarch64.reaches_are_exact.Goals as goal

pub returns : goal.returns
returns c = loongarch_shapes
