use Rattle.linker_final.proofs.LoongArchPacked.{addresses, calls, high_part, loaded_addresses, long_addresses, long_calls, long_loaded_addresses, sums}
use Rattle.linker_final.proofs.PackedBytes.{loongarch_branches}
use Rattle.linker_final.proofs.packed.shorter_loongarch64.Goals as goal

pub returns : goal.returns
returns c =
    let of_relocations = c.loongarch64.ensures in
    let groups = c.loongarch64-2.ensures.groups in
    record {
      calls = calls of_relocations.calls;
      addresses = addresses of_relocations.calls of_relocations.relative;
      loaded_addresses = loaded_addresses of_relocations.calls of_relocations.relative;
      high_parts = high_part groups;
      sums = sums groups;
      branches = loongarch_branches of_relocations.branches;
      long_calls = long_calls of_relocations.calls;
      long_addresses = long_addresses of_relocations.relative;
      long_loaded_addresses = long_loaded_addresses of_relocations.relative;
    }
