-- Architectures whose code can become shorter.
use Rattle.linker_runs.specs.Imports.{Machine, None, Option, Rv64, Some}
use Rattle.linker_runs.specs.declared.packing.Machine.TheVariants as machines
use Rattle.linker_elf.specs.declared.elf.architecture.Architecture.{Architecture}
use Rattle.linker_elf.specs.declared.elf.architecture.Architecture.TheVariants as architectures

-- RISC-V of 64 bits
abbrev pub RiscV64 : Machine
RiscV64 = machines.RiscV Rv64

abbrev pub machine_of : Architecture → Option Machine
machine_of architectures.RiscV = Some RiscV64
machine_of architectures.LoongArch64 = Some machines.LoongArch64
machine_of other = None
