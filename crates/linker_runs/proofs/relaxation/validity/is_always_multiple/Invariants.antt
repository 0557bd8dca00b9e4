use Rattle.linker_runs.proofs.Imports.{IsAlwaysMultiple, ◌-◌, ◌↔◌}
use Rattle.linker_runs.proofs.relaxation.validity.is_always_multiple.Given as goal

-- what is left to be told is what all items tell
abbrev pub invariant-loop-following : goal.invariant-loop-following
invariant-loop-following l = IsAlwaysMultiple l.number l.start l.offset l.items (l.index - l.following) ↔ IsAlwaysMultiple l.number l.start l.offset l.items l.index
