use Rattle.linkfix.proofs.Imports.{Err, Rejects, Reported, ap, err_from_is_err_and, inl, inr, refl, ◌≡◌}
use Rattle.linkfix.proofs.Execution.{ends_at_line, ends_at_section, ends_without_memory, input_memory, is_begun, not_rejected, next_blank, next_executed, reported_cause, reported_silent, run_begins, run_ends}
use Rattle.linkfix.proofs.program.execute_lines.Goals as goal

pub returns-in_err-read_section-clause-stopped : goal.returns-in_err-read_section-clause-stopped
returns-in_err-read_section-clause-stopped g c error is =
    let stops = err_from_is_err_and c.from_residual-in_err-read_section.result c.from_residual-in_err-read_section.ensures.1 in
    ends_at_section _ _ _ _ error c.in_err-read_section.field-0.0 _ _ _ c.new-lines.ensures.known c.in_ok-next_line.ensures.next c.deref.ensures.value
    (λ bad. (cc (stops.1, is, stops.2.0 bad), c.in_err-read_section.ensures.bad (ap Err bad)))
    (λ memory. cc (stops.1, is, stops.2.1 memory))

pub loop-state-init : goal.loop-state-init
loop-state-init g c = run_begins _ _ _

pub returns-in_err-next_line-2-clause-stopped : goal.returns-in_err-next_line-2-clause-stopped
returns-in_err-next_line-2-clause-stopped g c error is =
    let stops = err_from_is_err_and c.from_residual-in_err-next_line-2.result c.from_residual-in_err-next_line-2.ensures.1 in
    let memory = input_memory c.in_err-next_line-2.field-0.0 stops.0 error stops.2.0 stops.2.1 (cc (stops.1, is)) in
    let begun = is_begun _ _ _ _ _ _ _ c.new-lines.ensures.known c.in_ok-next_line.ensures.next c.deref.ensures.value c.in_ok-read_section.ensures.ok c.in_ok-new.ensures.ok c.new-2.ensures in
    ends_without_memory _ _ _ _ _ _ _ begun c.loop-state.invariant _ error refl memory

pub returns-in_err-command-clause-stopped : goal.returns-in_err-command-clause-stopped
returns-in_err-command-clause-stopped g c error is =
    let stops = err_from_is_err_and c.from_residual-in_err-command.result c.from_residual-in_err-command.ensures.1 in
    let bad = c.in_err-command.ensures.bad in
    let begun = is_begun _ _ _ _ _ _ _ c.new-lines.ensures.known c.in_ok-next_line.ensures.next c.deref.ensures.value c.in_ok-read_section.ensures.ok c.in_ok-new.ensures.ok c.new-2.ensures in
    ends_at_line _ _ _ _ _ _ _ begun c.loop-state.invariant _ _ error _ _ _ c.in_ok-next_line-2.ensures.next c.if-branch.true c.deref-in-loop-state.ensures.value refl
    (inl (cc (stops.1, is, stops.2), bad.0, bad.1))

pub loop-state-preserved-in_ok-execute : goal.loop-state-preserved-in_ok-execute
loop-state-preserved-in_ok-execute g c =
    let written = rw c.in-Some.is at c.in_ok-command.ensures.ok in
    let executed = c.in_ok-execute.ensures.executed in
    next_executed _ _ _ _ _ _ _ _ _ c.deref-in-loop-state.ensures.value _ c.if-branch.true c.loop-state.invariant c.in_ok-next_line-2.ensures.next
    _ _ _ (inr (c.in-Some.command, written, not_rejected _ _ c.in_ok-execute.ensures.causes, executed.0, executed.1, refl)) executed.2

pub returns-in_err-execute-clause-stopped : goal.returns-in_err-execute-clause-stopped
returns-in_err-execute-clause-stopped g c error is =
    let stops = err_from_is_err_and c.from_residual-in_err-execute.result c.from_residual-in_err-execute.ensures.1 in
    let same : c.in_err-execute.field-0.0 ≡ Reported error = cc (stops.1, stops.2, is) in
    let written = rw c.in-Some.is at c.in_ok-command.ensures.ok in
    let begun = is_begun _ _ _ _ _ _ _ c.new-lines.ensures.known c.in_ok-next_line.ensures.next c.deref.ensures.value c.in_ok-read_section.ensures.ok c.in_ok-new.ensures.ok c.new-2.ensures in
    let silent = reported_silent error _ _ (rw same at c.in_err-execute.ensures.silent) in
    elim (reported_cause (Rejects c.in-Some.command c.loop-state.state) error (rw same at c.in_err-execute.ensures.rejected)) [
      | inl rejects ↦
          ends_at_line _ _ _ _ _ _ _ begun c.loop-state.invariant _ _ error _ _ _ c.in_ok-next_line-2.ensures.next c.if-branch.true c.deref-in-loop-state.ensures.value silent
          (inr (c.in-Some.command, written, rejects))
      | inr memory ↦ ends_without_memory _ _ _ _ _ _ _ begun c.loop-state.invariant _ error silent memory
    ]

pub loop-state-preserved : goal.loop-state-preserved
loop-state-preserved g c =
    let none = rw c.in_default.is at c.in_ok-command.ensures.ok in
    next_blank _ _ _ _ _ _ _ _ _ c.deref-in-loop-state.ensures.value _ c.if-branch.true c.loop-state.invariant c.in_ok-next_line-2.ensures.next (inl (none, refl, refl))

pub returns-clause-executed : goal.returns-clause-executed
returns-clause-executed g c =
    let begun = is_begun _ _ _ _ _ _ _ c.new-lines.ensures.known c.in_ok-next_line.ensures.next c.deref.ensures.value c.in_ok-read_section.ensures.ok c.in_ok-new.ensures.ok c.new-2.ensures in
    run_ends _ _ _ _ _ _ _ begun c.loop-state.invariant _ _ _ c.in_ok-next_line-2.ensures.next c.if-branch.false
