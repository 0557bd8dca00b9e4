use Rattle.linker_utils.proofs.Ppc64Alike.{toc_pairs, thread_pairs, got_pair, initial_exec_pair, prefixed_initial_exec, general_dynamic, local_dynamic}
use Rattle.linker_utils.proofs.ppc64.choices.relocations_are_chosen_alike.Goals as goal

pub returns-clause-toc : goal.returns-clause-toc
returns-clause-toc c = toc_pairs

pub returns-clause-local_exec : goal.returns-clause-local_exec
returns-clause-local_exec c = thread_pairs

pub returns-clause-got : goal.returns-clause-got
returns-clause-got c = got_pair

pub returns-clause-initial_exec : goal.returns-clause-initial_exec
returns-clause-initial_exec c = initial_exec_pair

pub returns-clause-prefixed : goal.returns-clause-prefixed
returns-clause-prefixed c = prefixed_initial_exec

pub returns-clause-general_dynamic : goal.returns-clause-general_dynamic
returns-clause-general_dynamic c = general_dynamic

pub returns-clause-local_dynamic : goal.returns-clause-local_dynamic
returns-clause-local_dynamic c = local_dynamic
