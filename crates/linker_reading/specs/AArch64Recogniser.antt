-- What is recognised of AArch64.
use Rattle.linker_utils.specs.AArch64Rewrites.{AArch64Applies, aarch64_entries}
use Rattle.linker_utils.specs.declared.aarch64.rewrites.RewriteKind.TheVariants as of_aarch64
use Rattle.linker_utils.specs.declared.aarch64.rewrites.RewriteKind.{RewriteKind as AArch64Kind}
use Rattle.linker_elf.specs.AArch64Relocations.{aarch64_name, aarch64_row}
use Rattle.linker_elf.specs.declared.aarch64.relocations.AArch64Relocation.{AArch64Relocation}
use Rattle.linker_reading.specs.Recognised.{Recogniser}
use Rattle.linker_utils.specs.declared.architecture.Relaxation.TheVariants as relaxations

abbrev pub aarch64 : Recogniser AArch64Kind AArch64Relocation
aarch64 =
    record {
      entries = λ name original o. aarch64_entries name;
      applies = AArch64Applies;
      no_op = of_aarch64.NoOp;
      row = aarch64_row;
      elf_name = aarch64_name;
      relaxation = relaxations.AArch64;
    }
