use Rattle.linker_output.proofs.Imports.{arith}
use Rattle.linker_output.proofs.placement.Code.moved.Goals as goal

pub offset_bounds-before-passed : goal.offset_bounds-before-passed
offset_bounds-before-passed c = omega arith
