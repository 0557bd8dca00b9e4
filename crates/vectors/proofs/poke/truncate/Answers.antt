use Rattle.std.proofs.Common.{rules}
use Rattle.linker_utils.specs.Form.{window_of}
use Rattle.vectors.proofs.WriteBack.{whole_mask, next_mask, truncated_by}
use Rattle.vectors.proofs.poke.truncate.Goals as goal

pub loop-form-init : goal.loop-form-init
loop-form-init g c =
    let form = g.F.InstructionForm.form c.args.form in whole_mask (form.width (window_of form c.args.bytes.now))

pub loop-form-preserved : goal.loop-form-preserved
loop-form-preserved g c =
    let form = g.F.InstructionForm.form c.args.form in
    next_mask (form.width (window_of form c.args.bytes.now)) c.loop-form.mask c.loop-form.invariant (search rules)

pub returns : goal.returns
returns g c =
    let form = g.F.InstructionForm.form c.args.form in
    truncated_by (form.width (window_of form c.args.bytes.now)) c.loop-form.mask c.args.value c.loop-form.invariant (search rules) c.ranges.value.fits
