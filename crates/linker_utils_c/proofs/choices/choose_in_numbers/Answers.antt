use Rattle.linker_utils_c.proofs.Imports.{refl}
use Rattle.linker_elf.specs.Choices.{choice}
use Rattle.linker_utils.specs.declared.architecture.Relaxation.TheVariants as relaxations
use Rattle.linker_utils_c.proofs.choices.choose_in_numbers.Goals as goal

pub returns-in-AArch64 : goal.returns-in-AArch64
returns-in-AArch64 c =
    rw c.in-AArch64.is (
      choice (relaxations.AArch64 c.choose-chosen.result.kind) c.r_type.result,
      record { name = c.from_elf-name.result; named = c.choose-chosen.result; is_name = c.from_elf-name.ensures; is_choice = c.choose-chosen.ensures.chosen; kind_is = refl; r_type_is = c.r_type.ensures },
      c.in_numbers.ensures,
    )

pub returns-in-RiscV : goal.returns-in-RiscV
returns-in-RiscV c =
    rw c.in-RiscV.is (
      choice (relaxations.RiscV c.choose-chosen-in-RiscV.result.kind) c.r_type-in-RiscV.result,
      record { name = c.from_elf-name-in-RiscV.result; named = c.choose-chosen-in-RiscV.result; is_name = c.from_elf-name-in-RiscV.ensures; is_choice = c.choose-chosen-in-RiscV.ensures.chosen; kind_is = refl; r_type_is = c.r_type-in-RiscV.ensures },
      c.in_numbers-in-RiscV.ensures,
    )

pub returns-in-LoongArch64 : goal.returns-in-LoongArch64
returns-in-LoongArch64 c =
    rw c.in-LoongArch64.is (
      choice (relaxations.LoongArch64 c.choose-chosen-in-LoongArch64.result.kind) c.r_type-in-LoongArch64.result,
      record { name = c.from_elf-name-in-LoongArch64.result; named = c.choose-chosen-in-LoongArch64.result; is_name = c.from_elf-name-in-LoongArch64.ensures; is_choice = c.choose-chosen-in-LoongArch64.ensures.chosen; kind_is = refl; r_type_is = c.r_type-in-LoongArch64.ensures },
      c.in_numbers-in-LoongArch64.ensures,
    )

pub returns-in-Ppc64 : goal.returns-in-Ppc64
returns-in-Ppc64 c =
    rw c.in-Ppc64.is (
      choice (relaxations.Ppc64 c.choose-chosen-in-Ppc64.result.kind) c.r_type-in-Ppc64.result,
      record { name = c.from_elf-name-in-Ppc64.result; named = c.choose-chosen-in-Ppc64.result; is_name = c.from_elf-name-in-Ppc64.ensures; is_choice = c.choose-chosen-in-Ppc64.ensures.chosen; kind_is = refl; r_type_is = c.r_type-in-Ppc64.ensures },
      c.in_numbers-in-Ppc64.ensures,
    )

pub returns-in-X86_64 : goal.returns-in-X86_64
returns-in-X86_64 c =
    rw c.in-X86_64.is (
      choice (relaxations.X86_64 c.choose-chosen-in-X86_64.result.kind) c.r_type-in-X86_64.result,
      record { name = c.from_elf-name-in-X86_64.result; named = c.choose-chosen-in-X86_64.result; is_name = c.from_elf-name-in-X86_64.ensures; is_choice = c.choose-chosen-in-X86_64.ensures.chosen; kind_is = refl; r_type_is = c.r_type-in-X86_64.ensures },
      c.in_numbers-in-X86_64.ensures,
    )
