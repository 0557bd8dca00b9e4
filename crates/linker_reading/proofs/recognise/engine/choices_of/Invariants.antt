use Rattle.linker_reading.proofs.Imports.{choice, choices_in, replicate, take, ◌++◌, ◌-◌, ◌≡◌}
use Rattle.linker_reading.proofs.recognise.engine.choices_of.Given as goal

-- those of the entries so far, and after them the other one
abbrev pub invariant-loop-index : goal.invariant-loop-index
invariant-loop-index g l =
    l.choices ≡ choices_in (take l.index l.entries) (choice l.fn.kind l.fn.relocation) ++ replicate (5 - l.index) (choice l.fn.kind l.fn.relocation)
