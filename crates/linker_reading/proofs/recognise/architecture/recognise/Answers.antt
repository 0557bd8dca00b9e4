use Rattle.linker_reading.proofs.recognise.architecture.recognise.Goals as goal

pub returns-in-AArch64-by_architecture : goal.returns-in-AArch64-by_architecture
returns-in-AArch64-by_architecture c =
    rw c.in-AArch64-by_architecture.is (record { found = record { name = c.from_elf-name.result; named = c.recognise.result; is_name = c.from_elf-name.ensures; those = c.recognise.ensures.found; placed = c.recognise.ensures.placed; found_are = c.all_by_type.ensures } })

pub returns-in-RiscV-by_architecture : goal.returns-in-RiscV-by_architecture
returns-in-RiscV-by_architecture c =
    rw c.in-RiscV-by_architecture.is (record { found = record { name = c.from_elf-name-2.result; named = c.recognise-2.result; is_name = c.from_elf-name-2.ensures; those = c.recognise-2.ensures.found; placed = c.recognise-2.ensures.placed; found_are = c.all_by_type-2.ensures } })

pub returns-in-LoongArch64-by_architecture : goal.returns-in-LoongArch64-by_architecture
returns-in-LoongArch64-by_architecture c =
    rw c.in-LoongArch64-by_architecture.is (record { found = record { name = c.from_elf-name-3.result; named = c.recognise-3.result; is_name = c.from_elf-name-3.ensures; those = c.recognise-3.ensures.found; placed = c.recognise-3.ensures.placed; found_are = c.all_by_type-3.ensures } })

pub returns-in-Ppc64-by_architecture : goal.returns-in-Ppc64-by_architecture
returns-in-Ppc64-by_architecture c =
    rw c.in-Ppc64-by_architecture.is (record { found = record { name = c.from_elf-name-4.result; named = c.recognise-4.result; is_name = c.from_elf-name-4.ensures; those = c.recognise-4.ensures.found; placed = c.recognise-4.ensures.placed; found_are = c.all_by_type-4.ensures } })

pub returns-in-X86_64-by_architecture : goal.returns-in-X86_64-by_architecture
returns-in-X86_64-by_architecture c =
    rw c.in-X86_64-by_architecture.is (record { found = record { name = c.from_elf-name-5.result; named = c.recognise-5.result; is_name = c.from_elf-name-5.ensures; those = c.recognise-5.ensures.found; placed = c.recognise-5.ensures.placed; found_are = c.all_by_type-5.ensures } })
