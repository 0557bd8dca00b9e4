-- What is recognised of RISC-V.
use Rattle.linker_elf.specs.RiscVRelocations.{riscv_name}
use Rattle.linker_elf.specs.declared.riscv64.relocations.RiscVRelocation.{RiscVRelocation}
use Rattle.linker_reading.specs.Recognised.{Recogniser}
use Rattle.linker_utils.specs.RiscVRewrites.{AppliesToRiscV, HasPattern}
use Rattle.linker_utils.specs.RiscVRewrites.{riscv_entries, riscv_row_of}
use Rattle.linker_utils.specs.declared.riscv64.rewrites.RewriteKind.TheVariants as of_riscv
use Rattle.linker_utils.specs.declared.riscv64.rewrites.RewriteKind.{RewriteKind as RiscVKind}
use Rattle.linker_utils.specs.declared.architecture.Relaxation.TheVariants as relaxations

abbrev pub riscv : Recogniser RiscVKind RiscVRelocation
riscv =
    record {
      entries = λ name original o. riscv_entries name;
      applies = λ name. AppliesToRiscV (HasPattern name);
      no_op = of_riscv.NoOp;
      row = riscv_row_of;
      elf_name = riscv_name;
      relaxation = relaxations.RiscV;
    }
