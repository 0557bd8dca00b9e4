-- A law of runs.
use Rattle.std.specs.Prelude.{◌≢◌, ℕ, List}
use Rattle.linkfix.specs.Execution.{EndsWith, ExecutesInput}
use Rattle.linkfix.specs.declared.program.ReportedError.{ReportedError}
use Rattle.linkfix.specs.declared.program.ReportedError.TheVariants.{OutOfMemory}

-- an input on which a run ends with an error, other than out of memory, is executed with no output
abbrev pub RejectedInputsAreNotExecuted : Type 0
RejectedInputsAreNotExecuted = (input printed output : List ℕ) (error : ReportedError)
    → EndsWith input printed error → error ≢ OutOfMemory → ¬ ExecutesInput input output
