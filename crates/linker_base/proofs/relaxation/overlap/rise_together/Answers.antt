use Rattle.linker_base.proofs.Imports.{arith}
use Rattle.linker_base.proofs.Together.{walked_step}
use Rattle.linker_base.proofs.relaxation.overlap.rise_together.Goals as goal

pub loop-passed-preserved : goal.loop-passed-preserved
loop-passed-preserved g c =
    walked_step _ _ _ _ _ _ _ _ _ _ c.loop-passed.invariant c.lower-is_old.ensures
    c.if-deletion-low.false (omega (arith, c.in-Some.ensures, c.max.ensures, c.from.ensures)) (omega (arith, c.in-Some.ensures, c.max.ensures, c.from.ensures)) (omega arith) (omega arith)

pub loop-deletion-preserved : goal.loop-deletion-preserved
loop-deletion-preserved g c =
    walked_step _ _ _ _ _ _ _ _ _ _ c.loop-deletion.invariant c.in-Some-next_of.ensures
    (omega arith) (c.end_fits.ensures.0 c.if-not-end_fits.false) (omega arith) (omega arith) (omega arith)
