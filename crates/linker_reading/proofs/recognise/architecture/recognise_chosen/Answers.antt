use Rattle.linker_reading.proofs.recognise.architecture.recognise_chosen.Goals as goal

pub returns-in-AArch64-by_architecture : goal.returns-in-AArch64-by_architecture
returns-in-AArch64-by_architecture c =
    rw c.in-AArch64-by_architecture.is (record { found = c.chosen_by_type.ensures c.args.r_type c.from_elf-name.ensures })

pub returns-in-RiscV-by_architecture : goal.returns-in-RiscV-by_architecture
returns-in-RiscV-by_architecture c =
    rw c.in-RiscV-by_architecture.is (record { found = c.chosen_by_type-2.ensures c.args.r_type c.from_elf-name-2.ensures })

pub returns-in-LoongArch64-by_architecture : goal.returns-in-LoongArch64-by_architecture
returns-in-LoongArch64-by_architecture c =
    rw c.in-LoongArch64-by_architecture.is (record { found = c.chosen_by_type-3.ensures c.args.r_type c.from_elf-name-3.ensures })

pub returns-in-Ppc64-by_architecture : goal.returns-in-Ppc64-by_architecture
returns-in-Ppc64-by_architecture c =
    rw c.in-Ppc64-by_architecture.is (record { found = c.chosen_by_type-4.ensures c.args.r_type c.from_elf-name-4.ensures })

pub returns-in-X86_64-by_architecture : goal.returns-in-X86_64-by_architecture
returns-in-X86_64-by_architecture c =
    rw c.in-X86_64-by_architecture.is (record { found = c.chosen_by_type-5.ensures c.args.r_type c.from_elf-name-5.ensures })
