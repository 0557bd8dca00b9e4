use Rattle.linker_utils.specs.Form.{window_of}
use Rattle.vectors.proofs.WriteBack.{IsMask}
use Rattle.vectors.proofs.poke.truncate.Given as goal

abbrev pub invariant-loop-form : goal.invariant-loop-form
invariant-loop-form g l = IsMask ((g.F.InstructionForm.form l.form).width (window_of (g.F.InstructionForm.form l.form) l.bytes)) l.mask

abbrev pub decreases-loop-form : goal.decreases-loop-form
decreases-loop-form g l = l.mask
