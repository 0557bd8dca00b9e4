use Rattle.linker_utils.proofs.Imports.{refl}
use Rattle.linker_utils.proofs.architecture.choose.Goals as goal

pub returns-in-AArch64-by_architecture-clause-chosen : goal.returns-in-AArch64-by_architecture-clause-chosen
returns-in-AArch64-by_architecture-clause-chosen c =
    rw c.in-AArch64-by_architecture.is (record { name = c.from_elf-name.result; named = c.choose-chosen.result; is_name = c.from_elf-name.ensures; is_choice = c.choose-chosen.ensures.chosen; kind_is = refl; r_type_is = c.r_type.ensures })

pub returns-in-RiscV-by_architecture-clause-chosen : goal.returns-in-RiscV-by_architecture-clause-chosen
returns-in-RiscV-by_architecture-clause-chosen c =
    rw c.in-RiscV-by_architecture.is (record { name = c.from_elf-name-2.result; named = c.choose-chosen-2.result; is_name = c.from_elf-name-2.ensures; is_choice = c.choose-chosen-2.ensures.chosen; kind_is = refl; r_type_is = c.r_type-2.ensures })

pub returns-in-LoongArch64-by_architecture-clause-chosen : goal.returns-in-LoongArch64-by_architecture-clause-chosen
returns-in-LoongArch64-by_architecture-clause-chosen c =
    rw c.in-LoongArch64-by_architecture.is (record { name = c.from_elf-name-3.result; named = c.choose-chosen-3.result; is_name = c.from_elf-name-3.ensures; is_choice = c.choose-chosen-3.ensures.chosen; kind_is = refl; r_type_is = c.r_type-3.ensures })

pub returns-in-Ppc64-by_architecture-clause-chosen : goal.returns-in-Ppc64-by_architecture-clause-chosen
returns-in-Ppc64-by_architecture-clause-chosen c =
    rw c.in-Ppc64-by_architecture.is (record { name = c.from_elf-name-4.result; named = c.choose-chosen-4.result; is_name = c.from_elf-name-4.ensures; is_choice = c.choose-chosen-4.ensures.chosen; kind_is = refl; r_type_is = c.r_type-4.ensures })

pub returns-in-X86_64-by_architecture-clause-chosen : goal.returns-in-X86_64-by_architecture-clause-chosen
returns-in-X86_64-by_architecture-clause-chosen c =
    rw c.in-X86_64-by_architecture.is (record { name = c.from_elf-name-5.result; named = c.choose-chosen-5.result; is_name = c.from_elf-name-5.ensures; is_choice = c.choose-chosen-5.ensures.chosen; kind_is = refl; r_type_is = c.r_type-5.ensures })
