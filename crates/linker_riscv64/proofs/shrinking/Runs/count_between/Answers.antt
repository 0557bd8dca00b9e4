use Rattle.linker_riscv64.proofs.Imports.{arith, chosen_count, div-mul-le_self, div_below, length-map, lt-div-mul-add, map, take, ◌*◌, ◌+◌, ◌/◌, ◌<◌, ◌≡◌, ◌≤◌}
use Rattle.linker_riscv64.proofs.Shrunk.{count_between-split, run_summed}
use Rattle.linker_riscv64.proofs.shrinking.Runs.count_between.Goals as goal

pub loop-run-init : goal.loop-run-init
loop-run-init g c =
    let bs = map g.A.AsChoice.choice c.args.answer.now in
    let len = c.args.self.now.len in
    let from = c.args.from in
    let ends : from < from / len * len + len = lt-div-mul-add c.requires.runs.some in
    omega (arith, c.count_between-count.ensures, count_between-split bs from ((from / len + 1) * len) (omega arith))

pub loop-run-preserved : goal.loop-run-preserved
loop-run-preserved g c =
    let bs = map g.A.AsChoice.choice c.args.answer.now in
    let len = c.args.self.now.len in
    let last : c.args.to / len < 1024 = div_below c.args.to len 1024 c.requires.runs.some (omega (arith, c.requires.runs.reach_end, c.requires.within, length-map c.args.answer.now g.A.AsChoice.choice)) in
    let few : c.loop-run.run < 1024 = omega (arith, last) in
    run_summed c.args.self.now bs c.loop-run.run c.loop-run.count (chosen_count (take c.args.from bs)) c.requires.runs few c.loop-run.invariant

pub returns : goal.returns
returns g c =
    let bs = map g.A.AsChoice.choice c.args.answer.now in
    let len = c.args.self.now.len in
    let last = c.args.to / len in
    let ends : last * len ≤ c.args.to = div-mul-le_self c.args.to len in
    let at : c.loop-run.run ≡ last = omega arith in
    omega (arith, rw at at c.loop-run.invariant, c.count_between-2.ensures, count_between-split bs (last * len) c.args.to ends, count_between-split bs c.args.from c.args.to c.requires.ascending)
