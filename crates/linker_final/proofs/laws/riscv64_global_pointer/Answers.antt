use Rattle.linker_final.proofs.RiscVNear.{auipc_goes, low_parts, lui_goes, values_are_distances}
use Rattle.linker_final.proofs.laws.riscv64_global_pointer.Goals as goal

pub returns : goal.returns
returns c = record {
  low_parts = low_parts;
  values = values_are_distances;
  lui = lui_goes c.riscv64.ensures.absolute;
  auipc = auipc_goes c.riscv64.ensures.relative;
}
