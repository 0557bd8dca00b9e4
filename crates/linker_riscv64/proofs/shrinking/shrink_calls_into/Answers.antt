use Rattle.linker_riscv64.proofs.Imports.{arith, length-map}
use Rattle.linker_riscv64.proofs.shrinking.shrink_calls_into.Goals as goal

pub loop-runs-preserved : goal.loop-runs-preserved
loop-runs-preserved g c = record {
  runs = c.sweep.ensures.runs;
  has_others = λ valid other long reach.
      c.sweep.ensures.keeps valid (c.requires.shrinkable valid) other long reach (c.loop-runs.invariant.has_others valid other long reach);
  written = c.sweep.ensures.written c.loop-runs.invariant.written;
}

pub returns-clause-greatest : goal.returns-clause-greatest
returns-clause-greatest g c = λ valid.
    let fits = c.requires.shrinkable valid in
    let calls = length-map c.args.calls.now g.C.AsCall.call in
    let many = length-map c.sweep.new.answer g.A.AsChoice.choice in
    record {
      one_each = omega (arith, calls, many, c.requires.one_each);
      in_reach = λ i call within chosen. c.sweep.ensures.settled valid fits c.loop-runs-test.false i (omega (arith, calls)) chosen call;
      has_others = λ other long reach.
          c.sweep.ensures.keeps valid fits other long reach (c.loop-runs.invariant.has_others valid other long reach);
    }
