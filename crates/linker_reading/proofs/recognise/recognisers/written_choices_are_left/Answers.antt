use Rattle.linker_reading.proofs.X86WrittenChoices.{x86_written_is_left}
use Rattle.linker_reading.proofs.WrittenLeft.{written_choice_is_left}
use Rattle.linker_reading.specs.AArch64Recogniser.{aarch64}
use Rattle.linker_reading.specs.RiscVRecogniser.{riscv}
use Rattle.linker_reading.specs.LoongArchRecogniser.{loongarch}
use Rattle.linker_reading.specs.Ppc64Recogniser.{ppc64}
use Rattle.linker_reading.proofs.recognise.recognisers.written_choices_are_left.Goals as goal

pub returns-clause-aarch64 : goal.returns-clause-aarch64
returns-clause-aarch64 c = written_choice_is_left aarch64

pub returns-clause-riscv : goal.returns-clause-riscv
returns-clause-riscv c = written_choice_is_left riscv

pub returns-clause-loongarch : goal.returns-clause-loongarch
returns-clause-loongarch c = written_choice_is_left loongarch

pub returns-clause-ppc64 : goal.returns-clause-ppc64
returns-clause-ppc64 c = written_choice_is_left ppc64

pub returns-clause-x86_64 : goal.returns-clause-x86_64
returns-clause-x86_64 c = x86_written_is_left
