use Rattle.linker_runs.proofs.Imports.{Fault, OwnMeets, arith, below_more}
use Rattle.linker_runs.proofs.relaxation.faults.first_own_fault.Goals as goal

pub loop-index-preserved : goal.loop-index-preserved
loop-index-preserved c = below_more (λ k. (fault : Fault) → OwnMeets c.args.start c.args.items.now k fault) c.loop-index.index c.loop-index.invariant c.in_default.ensures

pub returns-in-Some : goal.returns-in-Some
returns-in-Some c = record {
  within = omega arith;
  before = c.loop-index.invariant;
  first = c.in-Some.ensures;
}
