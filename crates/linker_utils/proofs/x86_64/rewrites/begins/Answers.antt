use Rattle.linker_utils.proofs.Imports.{arith, ◌∙◌}
use Rattle.linker_utils.proofs.X86Originals.{after_byte, not_there, all_there, too_few}
use Rattle.linker_utils.proofs.x86_64.rewrites.begins.Goals as goal

pub returns-then-bytes-pattern : goal.returns-then-bytes-pattern
returns-then-bytes-pattern c = too_few c.args.pattern.now c.args.bytes.now c.if-bytes-pattern.true

pub returns-then-bytes-index : goal.returns-then-bytes-index
returns-then-bytes-index c =
    not_there c.args.pattern.now c.args.bytes.now c.loop-index.index (0, 0) c.loop-index-test.true c.if-bytes-pattern.false c.loop-index.invariant c.if-bytes-index.true

pub loop-index-preserved : goal.loop-index-preserved
loop-index-preserved c =
    c.loop-index.invariant ∙ after_byte c.args.pattern.now c.args.bytes.now c.loop-index.index (0, 0) c.loop-index-test.true c.if-bytes-pattern.false c.if-bytes-index.false

pub returns : goal.returns
returns c =
    all_there c.args.pattern.now c.args.bytes.now c.loop-index.index (omega arith) c.loop-index.invariant
