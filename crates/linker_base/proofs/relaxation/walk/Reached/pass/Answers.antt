use Rattle.linker_base.proofs.Imports.{Reached, ap, arith, cases_eq, inl, inr, passed_in, refl, ◌%◌, ◌+◌, ◌^◌}
use Rattle.linker_base.proofs.Search.{blank}
use Rattle.linker_base.proofs.Walking.{walked_over, passed_is, walked_past}
use Rattle.linker_base.proofs.relaxation.walk.Reached.pass.Goals as goal

pub loop-self-preserved : goal.loop-self-preserved
loop-self-preserved c deltas k listed given =
    let passing = c.loop-self.invariant deltas k listed given in
    let p = passed_in deltas c.loop-self.self in
    let next : Reached = record { rest = c.next.new.self; next = c.first_offset-self.result; deleted = c.in-Some.delta.now.cumulative_deleted; end = (c.loop-self.self.next + c.from.result) % 2 ^ 64 } in
    let over = walked_over deltas listed p c.loop-self.self next c.in-Some.delta.now passing.walked c.in-Some.ensures.steps refl (ap (λ n. (c.loop-self.self.next + n) % 2 ^ 64) c.from.ensures) (rw c.as_slice.ensures.value at c.first_offset-self.ensures.first) (rw c.as_slice.ensures.value at c.first_offset-self.ensures.none) in
    let one = passed_is deltas (p + 1) next over.1 in
    record {
      walked = rw one over.1;
      after = omega (arith, one, passing.after);
      begun = λ j d low high. elim (cases_eq j p) [
        | inl here ↦ rw here (omega (arith, passing.walked.next d over.0, c.loop-self-test.true))
        | inr other ↦ passing.begun j d low (omega (arith, one, high, other))
      ];
    }

-- the next delta doesn't begin below the offset
pub returns-after-loop-self : goal.returns-after-loop-self
returns-after-loop-self c deltas k listed given =
    let passing = c.loop-self.invariant deltas k listed given in
    walked_past deltas listed k c.args.offset c.loop-self.self passing (λ inside. omega (arith, passing.walked.next blank inside, c.loop-self-test.false))

-- there is none
pub returns-in_default : goal.returns-in_default
returns-in_default c deltas k listed given =
    let passing = c.loop-self.invariant deltas k listed given in
    rw c.in_default.ensures.steps.1 (walked_past deltas listed k c.args.offset c.loop-self.self passing (λ inside. absurd (omega (arith, c.in_default.ensures.steps.0, inside))))
