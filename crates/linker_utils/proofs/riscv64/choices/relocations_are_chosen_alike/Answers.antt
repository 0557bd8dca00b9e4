use Rattle.linker_utils.proofs.RiscVAlike.{descriptor, got_pair, absolute, thread_offset}
use Rattle.linker_utils.proofs.riscv64.choices.relocations_are_chosen_alike.Goals as goal

pub returns-clause-descriptor : goal.returns-clause-descriptor
returns-clause-descriptor c = descriptor

pub returns-clause-got : goal.returns-clause-got
returns-clause-got c = got_pair

pub returns-clause-absolute : goal.returns-clause-absolute
returns-clause-absolute c = absolute

pub returns-clause-thread : goal.returns-clause-thread
returns-clause-thread c = thread_offset
