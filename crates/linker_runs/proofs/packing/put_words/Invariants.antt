use Rattle.linker_runs.proofs.Imports.{drop, repeated, take, ◌*◌, ◌++◌, ◌+◌, ◌≡◌}
use Rattle.linker_runs.proofs.packing.put_words.Given as goal

abbrev pub invariant-loop-index : goal.invariant-loop-index
invariant-loop-index l = l.packed ≡ take l.at l.initial.packed ++ repeated l.word l.index ++ drop (l.at + 4 * l.index) l.initial.packed
