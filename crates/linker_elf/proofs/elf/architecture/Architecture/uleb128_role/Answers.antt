use Rattle.linker_elf.proofs.elf.architecture.Architecture.uleb128_role.Goals as goal

pub returns-in-RiscV : goal.returns-in-RiscV
returns-in-RiscV c =
    rw c.in-RiscV.is (record {
      name = c.from_elf.result;
      is_name = c.from_elf.ensures;
      value_is = c.uleb128_role.ensures;
    })

pub returns-in-LoongArch64 : goal.returns-in-LoongArch64
returns-in-LoongArch64 c =
    rw c.in-LoongArch64.is (record {
      name = c.from_elf-in-LoongArch64.result;
      is_name = c.from_elf-in-LoongArch64.ensures;
      value_is = c.uleb128_role-in-LoongArch64.ensures;
    })
