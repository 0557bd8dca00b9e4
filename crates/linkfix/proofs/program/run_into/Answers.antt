use Rattle.linkfix.proofs.Imports.{Err, ap, ◌∙◌}
use Rattle.linkfix.proofs.Execution.{ends_with_its_line}
use Rattle.linkfix.proofs.program.run_into.Goals as goal

pub returns-in-Ok-write_all-clause-stopped : goal.returns-in-Ok-write_all-clause-stopped
returns-in-Ok-write_all-clause-stopped g c _ =
    let stopped = c.in-Err-Reported.ensures.stopped c.in-Err-Reported.error (ap Err c.in-Err-Reported.field-0-is) in
    ends_with_its_line _ _ _ _ c.in-Err-Reported.error _ (c.as_bytes.ensures.value ∙ c.line.ensures) stopped c.in-Ok-write_all.ensures.bytes
