use Rattle.linker_reading.proofs.Imports.{AreFoundOfFirst, IsMeant, Recognised, choices_at}
use Rattle.linker_reading.proofs.recognise.engine.recognise.Given as goal

abbrev pub invariant-loop-index : goal.invariant-loop-index
invariant-loop-index g l =
    AreFoundOfFirst (λ (m : Recognised g.row.N-Kind.Denot g.row.N.Denot). m.choice) (IsMeant g.N.RecognisedName.how l.original l.offset l.others l.linked)
    (choices_at g.N.RecognisedName.how l.fn.name l.original l.offset) l.found l.index
