use Rattle.linker_reading.proofs.Imports.{IsOfValue, IsProper, IsReadBack, IsWithin, Some, ap, field_read, holds_field, subst, sym, true, with_reach, ◌∙◌, ◌≡◌}
use Rattle.linker_elf.specs.Reach.{reach_of}
use Rattle.linker_reading.proofs.Proper.{proper_field, proper_in_reach, proper_aligned}
use Rattle.linker_reading.proofs.Written.{field_written, some_alignment}
use Rattle.linker_reading.proofs.reading.read_as.Goals as goal

pub with_reach-requires : goal.with_reach-requires
with_reach-requires c =
    let row = c.info-info.result in
    let reached = c.reach-reach.result.bounds in
    let holds : holds_field row.kind row.size reached ≡ true =
    sym c.holds_field.ensures ∙ c.if-not-holds_field.false in
    let proper : IsProper c.field_read-field.result =
    rw c.field_read-field.ensures (proper_field row.kind row.size reached c.args.bytes.now holds) in
    proper.some

pub with_alignment-requires : goal.with_alignment-requires
with_alignment-requires c =
    let row = c.info-info.result in
    let reached = c.reach-reach.result.bounds in
    let holds : holds_field row.kind row.size reached ≡ true =
    sym c.holds_field.ensures ∙ c.if-not-holds_field.false in
    let held = proper_field row.kind row.size reached c.args.bytes.now holds in
    let proper : IsProper c.with_reach.result =
    rw (c.with_reach.ensures.value, c.field_read-field.ensures)
    (proper_in_reach reached (field_read row.kind row.size reached c.args.bytes.now) held) in
    record { some = proper.some; short = proper.inside; bits = proper.small }

pub returns-clause-proper : goal.returns-clause-proper
returns-clause-proper c =
    let row = c.info-info.result in
    let reached = c.reach-reach.result.bounds in
    let holds : holds_field row.kind row.size reached ≡ true =
    sym c.holds_field.ensures ∙ c.if-not-holds_field.false in
    let held = proper_field row.kind row.size reached c.args.bytes.now holds in
    let field = field_read row.kind row.size reached c.args.bytes.now in
    rw (c.with_alignment.ensures.value, c.with_reach.ensures.value, c.field_read-field.ensures)
    (proper_aligned row.alignment (with_reach reached field) (proper_in_reach reached field held))

pub returns-clause-written : goal.returns-clause-written
returns-clause-written c =
    let row = c.info-info.result in
    let is = c.info-info.ensures.row in
    let reached = c.reach-reach.result.bounds in
    let holds : holds_field row.kind row.size reached ≡ true =
    sym c.holds_field.ensures ∙ c.if-not-holds_field.false in
    subst (λ r. IsReadBack r c.args.bytes.now (Some c.with_alignment.result)) is (λ v before fits writes.
    let accepted = writes.accepted in
    let within : IsWithin reached v =
    subst (λ b. IsWithin b v) (sym (c.reach-reach.ensures ∙ ap reach_of (sym is))) accepted.reached.0 in
    let field : IsOfValue c.field_read-field.result v =
    rw c.field_read-field.ensures
    (field_written row.kind row.size reached v before c.args.bytes.now fits holds within
    accepted.reached.1 accepted.aligned.1 accepted.aligned.2 writes.written writes.number) in
    let upper = c.with_reach.ensures.known v fits within field in
    c.with_alignment.ensures.known (some_alignment row accepted.supported) v fits
    accepted.aligned.0 upper)
