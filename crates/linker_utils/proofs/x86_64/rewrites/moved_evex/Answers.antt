use Rattle.linker_utils.proofs.X86Bytes.{high_then, high_else, low_then, low_else}
use Rattle.linker_utils.proofs.x86_64.rewrites.moved_evex.Goals as goal
use Rattle.linker_utils.proofs.x86_64.rewrites.moved_evex.Goals.{then-byte-eq0, else-byte-eq0}

pub returns-then-byte-eq0-2 : goal.returns-then-byte-eq0-2
returns-then-byte-eq0-2 c =
    low_then c.args.byte c.if-byte-eq0.high c.if-byte-eq0-2.true
    (elim c.if-byte-eq0.branch [
      | then-byte-eq0 w ↦ high_then c.args.byte c.if-byte-eq0.high w.if-byte-eq0.true w.high-is
      | else-byte-eq0 w ↦ high_else c.args.byte c.if-byte-eq0.high w.if-byte-eq0.false w.high-is
    ])

pub returns-else-byte-eq0-2 : goal.returns-else-byte-eq0-2
returns-else-byte-eq0-2 c =
    low_else c.args.byte c.if-byte-eq0.high c.if-byte-eq0-2.false
    (elim c.if-byte-eq0.branch [
      | then-byte-eq0 w ↦ high_then c.args.byte c.if-byte-eq0.high w.if-byte-eq0.true w.high-is
      | else-byte-eq0 w ↦ high_else c.args.byte c.if-byte-eq0.high w.if-byte-eq0.false w.high-is
    ])
