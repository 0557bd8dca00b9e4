use Rattle.linker_runs.proofs.Imports.{AreItems, IsFirstFault, MatchOption, subst}
use Rattle.linker_runs.proofs.Validity.{in_order, own_first, first_of_run}
use Rattle.linker_runs.proofs.relaxation.faults.first_faulty.Goals as goal

pub first_run_fault-requires-clause-in_order : goal.first_run_fault-requires-clause-in_order
first_run_fault-requires-clause-in_order c = in_order c.args.start c.new-list.result c.in_default.ensures

pub returns-in-Some : goal.returns-in-Some
returns-in-Some c =
    subst (λ items. IsFirstFault c.args.start items c.in-Some.found) c.new-list.ensures (own_first c.args.start c.new-list.result c.in-Some.found c.in-Some.ensures)

pub returns : goal.returns
returns c =
    subst (λ items. MatchOption c.first_run_fault.result (AreItems c.args.start items) (IsFirstFault c.args.start items)) c.new-list.ensures
    (first_of_run c.args.start c.new-list.result c.first_run_fault.result c.in_default.ensures c.first_run_fault.ensures)
