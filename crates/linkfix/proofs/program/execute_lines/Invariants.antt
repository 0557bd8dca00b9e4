use Rattle.linkfix.proofs.Imports.{max_remaining, remaining_bytes}
use Rattle.linkfix.proofs.Execution.{IsRunSoFar}
use Rattle.linkfix.proofs.program.execute_lines.Given as goal

-- the lines so far are executed, and their output is printed
abbrev pub invariant-loop-state : goal.invariant-loop-state
invariant-loop-state g l =
    IsRunSoFar (remaining_bytes (g.R.Read.remaining l.initial.lines.input) l.initial.lines) (remaining_bytes (g.R.Read.remaining l.lines.input) l.lines)
    (g.W.Write.contents l.initial.output) (g.W.Write.contents l.output) l.initial.state l.state

abbrev pub decreases-loop-state : goal.decreases-loop-state
decreases-loop-state g l = max_remaining l.lines
