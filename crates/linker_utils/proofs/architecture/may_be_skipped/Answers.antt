use Rattle.linker_utils.proofs.architecture.may_be_skipped.Goals as goal

pub returns-in-RiscV : goal.returns-in-RiscV
returns-in-RiscV c =
    rw c.in-RiscV.is (record {
      name = c.from_elf.result;
      is_name = c.from_elf.ensures;
      value_is = c.may_be_skipped.ensures;
    })

pub returns-in-Ppc64 : goal.returns-in-Ppc64
returns-in-Ppc64 c =
    rw c.in-Ppc64.is (record {
      name = c.from_elf-in-Ppc64.result;
      is_name = c.from_elf-in-Ppc64.ensures;
      value_is = c.may_be_skipped-in-Ppc64.ensures;
    })

pub returns-in-X86_64 : goal.returns-in-X86_64
returns-in-X86_64 c =
    rw c.in-X86_64.is (record {
      name = c.from_elf-in-X86_64.result;
      is_name = c.from_elf-in-X86_64.ensures;
      value_is = c.may_be_skipped-in-X86_64.ensures;
    })
