use Rattle.linker_reading.proofs.recognise.architecture.window_of.Goals as goal

pub returns-in-AArch64-by_architecture : goal.returns-in-AArch64-by_architecture
returns-in-AArch64-by_architecture c =
    rw c.in-AArch64-by_architecture.is (record { name = c.from_elf-name.result; is_name = c.from_elf-name.ensures; least = c.least_window.ensures })

pub returns-in-RiscV-by_architecture : goal.returns-in-RiscV-by_architecture
returns-in-RiscV-by_architecture c =
    rw c.in-RiscV-by_architecture.is (record { name = c.from_elf-name-2.result; is_name = c.from_elf-name-2.ensures; least = c.least_window-2.ensures })

pub returns-in-LoongArch64-by_architecture : goal.returns-in-LoongArch64-by_architecture
returns-in-LoongArch64-by_architecture c =
    rw c.in-LoongArch64-by_architecture.is (record { name = c.from_elf-name-3.result; is_name = c.from_elf-name-3.ensures; least = c.least_window-3.ensures })

pub returns-in-Ppc64-by_architecture : goal.returns-in-Ppc64-by_architecture
returns-in-Ppc64-by_architecture c =
    rw c.in-Ppc64-by_architecture.is (record { name = c.from_elf-name-4.result; is_name = c.from_elf-name-4.ensures; least = c.least_window-4.ensures })

pub returns-in-X86_64-by_architecture : goal.returns-in-X86_64-by_architecture
returns-in-X86_64-by_architecture c =
    rw c.in-X86_64-by_architecture.is (record { name = c.from_elf-name-5.result; is_name = c.from_elf-name-5.ensures; least = c.least_window-5.ensures })
