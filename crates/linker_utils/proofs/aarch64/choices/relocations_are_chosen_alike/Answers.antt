use Rattle.linker_utils.proofs.AArch64Alike.{got_pair, initial_exec_halves, descriptor}
use Rattle.linker_utils.proofs.aarch64.choices.relocations_are_chosen_alike.Goals as goal

pub returns-clause-got : goal.returns-clause-got
returns-clause-got c = got_pair

pub returns-clause-initial_exec : goal.returns-clause-initial_exec
returns-clause-initial_exec c = initial_exec_halves

pub returns-clause-descriptor : goal.returns-clause-descriptor
returns-clause-descriptor c = descriptor
