use Rattle.linker_elf.proofs.Imports.{aarch64_name, ap, loongarch_name, ppc64_name, riscv_name, x86_64_name}
use Rattle.linker_elf.proofs.RelocationNames.{of_named, of_unnamed, aarch64_is_short, riscv64_is_short, loongarch64_is_short, ppc64_is_short, x86_64_is_short}
use Rattle.linker_elf.proofs.elf.architecture.Architecture.name.Goals as goal

pub returns-in-Other-clause-unknown : goal.returns-in-Other-clause-unknown
returns-in-Other-clause-unknown c =
    rw c.in-AArch64.is (of_unnamed aarch64_name c.args.r_type c.from_elf.result c.in-Other.field-0 c.from_elf.ensures (ap aarch64_name c.in-Other.is))

pub returns-in_default : goal.returns-in_default
returns-in_default c =
    let short = aarch64_is_short c.from_elf.result c.in_default.not-Other in
    record {
      known = rw c.in-AArch64.is (of_named aarch64_name c.args.r_type c.from_elf.result c.name.result.now c.from_elf.ensures short.0 c.name.ensures);
      short = rw c.name.ensures short.1;
      unknown = tt;
    }

pub returns-in-Other-from_elf-clause-unknown : goal.returns-in-Other-from_elf-clause-unknown
returns-in-Other-from_elf-clause-unknown c =
    rw c.in-RiscV.is (of_unnamed riscv_name c.args.r_type c.from_elf-in-RiscV.result c.in-Other-from_elf.field-0 c.from_elf-in-RiscV.ensures (ap riscv_name c.in-Other-from_elf.is))

pub returns-in_default-from_elf : goal.returns-in_default-from_elf
returns-in_default-from_elf c =
    let short = riscv64_is_short c.from_elf-in-RiscV.result c.in_default-from_elf.not-Other in
    record {
      known = rw c.in-RiscV.is (of_named riscv_name c.args.r_type c.from_elf-in-RiscV.result c.name-in_default-from_elf.result.now c.from_elf-in-RiscV.ensures short.0 c.name-in_default-from_elf.ensures);
      short = rw c.name-in_default-from_elf.ensures short.1;
      unknown = tt;
    }

pub returns-in-Other-from_elf-2-clause-unknown : goal.returns-in-Other-from_elf-2-clause-unknown
returns-in-Other-from_elf-2-clause-unknown c =
    rw c.in-LoongArch64.is (of_unnamed loongarch_name c.args.r_type c.from_elf-in-LoongArch64.result c.in-Other-from_elf-2.field-0 c.from_elf-in-LoongArch64.ensures (ap loongarch_name c.in-Other-from_elf-2.is))

pub returns-in_default-from_elf-2 : goal.returns-in_default-from_elf-2
returns-in_default-from_elf-2 c =
    let short = loongarch64_is_short c.from_elf-in-LoongArch64.result c.in_default-from_elf-2.not-Other in
    record {
      known = rw c.in-LoongArch64.is (of_named loongarch_name c.args.r_type c.from_elf-in-LoongArch64.result c.name-in_default-from_elf-2.result.now c.from_elf-in-LoongArch64.ensures short.0 c.name-in_default-from_elf-2.ensures);
      short = rw c.name-in_default-from_elf-2.ensures short.1;
      unknown = tt;
    }

pub returns-in-Other-from_elf-3-clause-unknown : goal.returns-in-Other-from_elf-3-clause-unknown
returns-in-Other-from_elf-3-clause-unknown c =
    rw c.in-Ppc64.is (of_unnamed ppc64_name c.args.r_type c.from_elf-in-Ppc64.result c.in-Other-from_elf-3.field-0 c.from_elf-in-Ppc64.ensures (ap ppc64_name c.in-Other-from_elf-3.is))

pub returns-in_default-from_elf-3 : goal.returns-in_default-from_elf-3
returns-in_default-from_elf-3 c =
    let short = ppc64_is_short c.from_elf-in-Ppc64.result c.in_default-from_elf-3.not-Other in
    record {
      known = rw c.in-Ppc64.is (of_named ppc64_name c.args.r_type c.from_elf-in-Ppc64.result c.name-in_default-from_elf-3.result.now c.from_elf-in-Ppc64.ensures short.0 c.name-in_default-from_elf-3.ensures);
      short = rw c.name-in_default-from_elf-3.ensures short.1;
      unknown = tt;
    }

pub returns-in-Other-from_elf-4-clause-unknown : goal.returns-in-Other-from_elf-4-clause-unknown
returns-in-Other-from_elf-4-clause-unknown c =
    rw c.in-X86_64.is (of_unnamed x86_64_name c.args.r_type c.from_elf-in-X86_64.result c.in-Other-from_elf-4.field-0 c.from_elf-in-X86_64.ensures (ap x86_64_name c.in-Other-from_elf-4.is))

pub returns-in_default-from_elf-4 : goal.returns-in_default-from_elf-4
returns-in_default-from_elf-4 c =
    let short = x86_64_is_short c.from_elf-in-X86_64.result c.in_default-from_elf-4.not-Other in
    record {
      known = rw c.in-X86_64.is (of_named x86_64_name c.args.r_type c.from_elf-in-X86_64.result c.name-in_default-from_elf-4.result.now c.from_elf-in-X86_64.ensures short.0 c.name-in_default-from_elf-4.ensures);
      short = rw c.name-in_default-from_elf-4.ensures short.1;
      unknown = tt;
    }
