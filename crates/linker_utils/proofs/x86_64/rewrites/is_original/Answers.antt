use Rattle.linker_utils.proofs.X86Originals.{too_short, too_low}
use Rattle.linker_utils.proofs.x86_64.rewrites.is_original.Goals.{then-offset-back-via-then-offset-back, then-offset-back-via-else-offset-back+then-section-offset}
use Rattle.linker_utils.proofs.x86_64.rewrites.is_original.Goals as goal

pub returns-then-offset-back : goal.returns-then-offset-back
returns-then-offset-back c =
    let ps = c.args.pattern.now in
    let bs = c.args.section.now in
    elim c.then-offset-back.branch [
      | then-offset-back-via-then-offset-back w ↦ too_low ps bs c.args.back c.args.offset w.if-offset-back.true
      | then-offset-back-via-else-offset-back+then-section-offset w ↦ too_short ps bs c.args.back c.args.offset c.requires w.if-section-offset.true
    ]
