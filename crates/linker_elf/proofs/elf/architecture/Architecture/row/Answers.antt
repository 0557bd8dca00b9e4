use Rattle.linker_elf.proofs.elf.architecture.Architecture.row.Goals as goal

pub returns-in-AArch64 : goal.returns-in-AArch64
returns-in-AArch64 c =
    rw c.in-AArch64.is (record { name = c.from_elf.result; is_name = c.from_elf.ensures; value_is = c.row.ensures.row })

pub returns-in-RiscV : goal.returns-in-RiscV
returns-in-RiscV c =
    rw c.in-RiscV.is (record { name = c.from_elf-in-RiscV.result; is_name = c.from_elf-in-RiscV.ensures; value_is = c.row-in-RiscV.ensures.row })

pub returns-in-LoongArch64 : goal.returns-in-LoongArch64
returns-in-LoongArch64 c =
    rw c.in-LoongArch64.is (record { name = c.from_elf-in-LoongArch64.result; is_name = c.from_elf-in-LoongArch64.ensures; value_is = c.row-in-LoongArch64.ensures.row })

pub returns-in-Ppc64 : goal.returns-in-Ppc64
returns-in-Ppc64 c =
    rw c.in-Ppc64.is (record { name = c.from_elf-in-Ppc64.result; is_name = c.from_elf-in-Ppc64.ensures; value_is = c.row-in-Ppc64.ensures.row })

pub returns-in-X86_64 : goal.returns-in-X86_64
returns-in-X86_64 c =
    rw c.in-X86_64.is (record { name = c.from_elf-in-X86_64.result; is_name = c.from_elf-in-X86_64.ensures; value_is = c.row-in-X86_64.ensures })
