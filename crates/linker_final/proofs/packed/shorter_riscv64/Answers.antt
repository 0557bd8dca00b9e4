use Rattle.linker_final.proofs.PackedBytes.{riscv_branches}
use Rattle.linker_final.proofs.RiscVPacked.{high_parts, long_calls, sites, sums}
use Rattle.linker_final.proofs.packed.shorter_riscv64.Goals as goal

pub returns : goal.returns
returns c =
    let groups = c.riscv64-2.ensures.groups in
    record {
      sites = sites groups;
      long_calls = long_calls groups;
      high_parts = high_parts groups;
      sums = sums groups;
      branches = riscv_branches c.riscv64.ensures.jumps;
    }
