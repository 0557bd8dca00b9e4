use Rattle.linker_riscv64.proofs.Imports.{arith, length, length-map, length-set, map, ◌+◌, ◌/◌, ◌<◌, ◌∙◌}
use Rattle.linker_riscv64.proofs.Shrunk.{runs_more}
use Rattle.linker_riscv64.proofs.shrinking.Runs.of.Goals as goal

pub loop-run-preserved : goal.loop-run-preserved
loop-run-preserved g c =
    let h = g.A.AsChoice.choice in
    let xs = c.args.answer.now in
    let len = length xs / 1024 + 1 in
    let same = length-map xs h in
    let old = c.loop-run.invariant in
    let within : c.loop-run.run < length c.loop-run.counts = omega (arith, old.many) in
    record {
      many = length-set c.loop-run.counts c.loop-run.run c.count_between.result ∙ old.many;
      start = omega (arith, old.start, c.min.ensures);
      counted = runs_more (map h xs) c.loop-run.counts len c.loop-run.run c.loop-run.start (c.loop-run.start + c.min.result) c.count_between.result within
          (omega (arith, old.start)) (omega (arith, c.min.ensures)) c.count_between.ensures old.counted;
    }
