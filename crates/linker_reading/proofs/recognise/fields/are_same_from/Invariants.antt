use Rattle.linker_reading.proofs.Imports.{AreSameFrom, ◌*◌}
use Rattle.linker_reading.proofs.recognise.fields.are_same_from.Given as goal

-- the words so far are the same but for these bits
abbrev pub invariant-loop-word : goal.invariant-loop-word
invariant-loop-word l = AreSameFrom l.field l.others l.from l.a l.b (4 * l.word)

-- and then the bytes
abbrev pub invariant-loop-at : goal.invariant-loop-at
invariant-loop-at l = AreSameFrom l.field l.others l.from l.a l.b l.at
