-- What is recognised of LoongArch.
use Rattle.linker_elf.specs.LoongArchRelocations.{loongarch_name, loongarch_row}
use Rattle.linker_elf.specs.declared.loongarch64.relocations.LoongArch64Relocation.{LoongArch64Relocation}
use Rattle.linker_utils.specs.LoongArchRewrites.{LoongArchApplies, loongarch_entries}
use Rattle.linker_utils.specs.declared.loongarch64.rewrites.RewriteKind.TheVariants as of_loongarch
use Rattle.linker_utils.specs.declared.loongarch64.rewrites.RewriteKind.{RewriteKind as LoongArchKind}
use Rattle.linker_reading.specs.Recognised.{Recogniser}
use Rattle.linker_utils.specs.declared.architecture.Relaxation.TheVariants as relaxations

abbrev pub loongarch : Recogniser LoongArchKind LoongArch64Relocation
loongarch =
    record {
      entries = λ name original o. loongarch_entries name;
      applies = LoongArchApplies;
      no_op = of_loongarch.NoOp;
      row = loongarch_row;
      elf_name = loongarch_name;
      relaxation = relaxations.LoongArch64;
    }
