use Rattle.linker_utils.proofs.LoongArchAlike.{got_pair, entry_pairs, address_pair, initial_exec_halves, descriptor_low, descriptor_address, descriptor_load, descriptor_call, thread_offset}
use Rattle.linker_utils.proofs.loongarch64.choices.relocations_are_chosen_alike.Goals as goal

pub returns-clause-got : goal.returns-clause-got
returns-clause-got c = got_pair

pub returns-clause-entry : goal.returns-clause-entry
returns-clause-entry c = entry_pairs

pub returns-clause-address : goal.returns-clause-address
returns-clause-address c = address_pair

pub returns-clause-initial_exec : goal.returns-clause-initial_exec
returns-clause-initial_exec c = initial_exec_halves

pub returns-clause-descriptor : goal.returns-clause-descriptor
returns-clause-descriptor c = (descriptor_low, descriptor_address, descriptor_load, descriptor_call)

pub returns-clause-thread : goal.returns-clause-thread
returns-clause-thread c = thread_offset
