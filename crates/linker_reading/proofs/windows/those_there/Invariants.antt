use Rattle.linker_reading.proofs.Imports.{Choice, IsRecognisable, choices_at, ◌≤◌}
use Rattle.linker_reading.proofs.Kept.{AreKept}
use Rattle.linker_reading.proofs.windows.those_there.Given as goal

abbrev pub invariant-loop-index : goal.invariant-loop-index
invariant-loop-index g l =
    (l.kept ≤ l.index)
    × AreKept (λ (c : Choice g.row.N-Kind.Denot g.row.N.Denot). IsRecognisable g.N.RecognisedName.how l.fn.name l.bytes l.offset c)
    (choices_at g.N.RecognisedName.how l.fn.name l.bytes l.offset) l.choices l.index l.kept
