use Rattle.linker_runs.proofs.Imports.{arith, length, ◌≡◌}
use Rattle.linker_runs.proofs.Rounds.{sum_of_shapes}
use Rattle.linker_runs.proofs.relaxation.cautious.choose_cautiously.Goals as goal

pub loop-shapes-smaller : goal.loop-shapes-smaller
loop-shapes-smaller c =
    let same : length c.sweep_ahead.new.shapes ≡ length c.loop-shapes.shapes = omega arith in
    omega (arith, c.sweep_back.ensures.longer c.loop-shapes-test.true, c.sweep_ahead.ensures.longer, sum_of_shapes c.sweep_ahead.new.shapes c.sweep_ahead.ensures.short)
