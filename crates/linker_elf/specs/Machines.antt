-- The architectures, by `e_machine` in the ELF header of their files.
use Rattle.linker_elf.specs.declared.elf.architecture.Architecture.{Architecture}
use Rattle.std.specs.Prelude.{None, Option, Some, ℕ, ◌==◌, if◌then◌else◌}
use Rattle.linker_elf.specs.Elf.{em_aarch64, em_riscv, em_loongarch, em_ppc64, em_x86_64}
use Rattle.linker_elf.specs.declared.elf.architecture.Architecture.TheVariants as architectures

-- e_machine in the ELF header of an architecture's files
abbrev pub machine_of : Architecture → ℕ
machine_of architectures.AArch64 = em_aarch64
machine_of architectures.RiscV = em_riscv
machine_of architectures.LoongArch64 = em_loongarch
machine_of architectures.Ppc64 = em_ppc64
machine_of architectures.X86_64 = em_x86_64

-- the architecture whose files have this e_machine
abbrev pub architecture_of : ℕ → Option Architecture
architecture_of e_machine =
    if e_machine == machine_of architectures.AArch64 then Some architectures.AArch64
    else (if e_machine == machine_of architectures.RiscV then Some architectures.RiscV
    else (if e_machine == machine_of architectures.LoongArch64 then Some architectures.LoongArch64
    else (if e_machine == machine_of architectures.Ppc64 then Some architectures.Ppc64
    else (if e_machine == machine_of architectures.X86_64 then Some architectures.X86_64
    else None))))
