use Rattle.linker_reading.proofs.Imports.{None, by_type, map, of_some, replicate, take, ◌++◌, ◌-◌, ◌≡◌}
use Rattle.linker_reading.proofs.recognise.architecture.all_by_type.Given as goal

-- those so far
abbrev pub invariant-loop-index : goal.invariant-loop-index
invariant-loop-index g l = l.by_type ≡ map (of_some (by_type g.N.RecognisedName.how)) (take l.index l.found) ++ replicate (6 - l.index) None
