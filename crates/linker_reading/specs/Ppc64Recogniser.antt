-- What is recognised of PowerPC64.
use Rattle.linker_elf.specs.Ppc64Relocations.{ppc64_name, ppc64_row}
use Rattle.linker_elf.specs.declared.ppc64.relocations.Ppc64Relocation.{Ppc64Relocation}
use Rattle.linker_utils.specs.Ppc64Rewrites.{Ppc64Applies, ppc64_entries}
use Rattle.linker_utils.specs.declared.ppc64.rewrites.RewriteKind.TheVariants as of_ppc64
use Rattle.linker_utils.specs.declared.ppc64.rewrites.RewriteKind.{RewriteKind as Ppc64Kind}
use Rattle.linker_reading.specs.Recognised.{Recogniser}
use Rattle.linker_utils.specs.declared.architecture.Relaxation.TheVariants as relaxations

abbrev pub ppc64 : Recogniser Ppc64Kind Ppc64Relocation
ppc64 =
    record {
      entries = λ name original o. ppc64_entries name;
      applies = λ name. Ppc64Applies;
      no_op = of_ppc64.NoOp;
      row = ppc64_row;
      elf_name = ppc64_name;
      relaxation = relaxations.Ppc64;
    }
