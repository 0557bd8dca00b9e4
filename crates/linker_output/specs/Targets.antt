-- What a linker adds to an output of each architecture.
use Rattle.linker_output.specs.AArch64Output.{aarch64_output}
use Rattle.linker_output.specs.LoongArchOutput.{loongarch_output}
use Rattle.linker_output.specs.Ppc64Output.{ppc64_output}
use Rattle.linker_output.specs.RiscVOutput.{riscv_output}
use Rattle.linker_output.specs.View.{Description}
use Rattle.linker_output.specs.X86Output.{x86_64_output}
use Rattle.linker_output.specs.Imports.{AArch64, Architecture, LoongArch64, Ppc64, RiscV, X86_64}

abbrev pub target_of : Architecture → Description
target_of AArch64 = aarch64_output
target_of RiscV = riscv_output
target_of LoongArch64 = loongarch_output
target_of Ppc64 = ppc64_output
target_of X86_64 = x86_64_output
