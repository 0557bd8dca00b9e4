use Rattle.linker_reading.proofs.Imports.{Choice, IsOneOf, IsRecognisable, Some, choices_at, slice_get, take, ℕ, ◌<◌, ◌≡◌}
use Rattle.linker_reading.proofs.windows.has_each.Given as goal

-- those before the index are there, if they are listed
abbrev pub invariant-loop-index : goal.invariant-loop-index
invariant-loop-index g l =
    (i : ℕ) (c : Choice g.row.N-Kind.Denot g.row.N.Denot) → i < l.index → slice_get l.there.0 i ≡ Some c
    → IsOneOf c (choices_at g.N.RecognisedName.how l.fn.name l.part l.at) → IsRecognisable g.N.RecognisedName.how l.fn.name l.part l.at c

-- those are listed
abbrev pub invariant-loop-index-2 : goal.invariant-loop-index-2
invariant-loop-index-2 g l =
    (i : ℕ) (c : Choice g.row.N-Kind.Denot g.row.N.Denot) → i < l.index → slice_get l.there.0 i ≡ Some c
    → IsOneOf c (take l.listed.1 l.listed.0)
