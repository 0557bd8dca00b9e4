use Rattle.linker_runs.proofs.Imports.{Fault, IsFirstAt, RunMeets, arith, below_more, length, subst, ℕ, ◌<◌}
use Rattle.linker_runs.proofs.relaxation.faults.first_run_fault.Goals as goal

pub loop-index-preserved : goal.loop-index-preserved
loop-index-preserved c = below_more (λ k. (fault : Fault) → RunMeets c.run_granularity-granularity.result c.args.start c.args.items.now k fault) c.loop-index.index c.loop-index.invariant c.in_default.ensures

pub returns-in-Some : goal.returns-in-Some
returns-in-Some c =
    let items = c.args.items.now in
    subst (λ u. IsFirstAt (RunMeets u c.args.start items) (length items) (record { index = c.loop-index.index; fault = c.in-Some.fault })) c.run_granularity-granularity.ensures.granularity
    (record {
      within = omega arith;
      before = c.loop-index.invariant;
      first = c.in-Some.ensures;
    })

pub returns : goal.returns
returns c =
    let items = c.args.items.now in
    subst (λ u. (i : ℕ) → i < length items → (fault : Fault) → RunMeets u c.args.start items i fault) c.run_granularity-granularity.ensures.granularity
    (λ i within. c.loop-index.invariant i (omega arith))
