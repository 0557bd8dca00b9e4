use Rattle.linker_base.proofs.Imports.{arith, cases_lt, deletion_of, inl, inr, length, length-map, length-take, map, nat_tests, passed_in, refl, ◌-◌, ◌<◌, ◌≡◌}
use Rattle.linker_base.proofs.Walking.{taken_begin_below}
use Rattle.linker_base.proofs.Search.{blank, deletion_at}
use Rattle.linker_base.proofs.relaxation.cursor.RelaxCursor.is_ahead.Goals as goal

-- the last delta that is passed decides
pub returns-in-Some : goal.returns-in-Some
returns-in-Some c =
    let deltas = c.self.inside.deltas.now in
    let ds = map deletion_of deltas in
    let passed = passed_in deltas c.self.inside.reached in
    let turns : c.turns.result ≡ passed = rw (← c.self.view_is) at c.turns.ensures.passed in
    let at : passed - 1 ≡ c.in-Some.last = omega (arith, turns, c.in-Some.ensures.1) in
    let within : c.in-Some.last < length deltas = omega (arith, turns, c.in-Some.ensures.0, c.self.invariant.walked.within) in
    let all = taken_begin_below ds c.self.invariant.listed.valid.ascending c.args.input_offset passed (omega (arith, turns, c.in-Some.ensures.0)) (omega (arith, length-map deltas deletion_of, c.self.invariant.walked.within)) in
    let here = rw (at, deletion_at deltas c.in-Some.last blank (0, 0) within) at all in
    rw (← c.self.view_is) (λ low. here.0 (grind (arith, nat_tests)), λ below. let low = here.1 below in grind (arith, nat_tests))

-- the last one's end lies below the offset, or none is passed
pub returns-then-self-input_offset : goal.returns-then-self-input_offset
returns-then-self-input_offset c =
    let deltas = c.self.inside.deltas.now in
    let ds = map deletion_of deltas in
    let passed = passed_in deltas c.self.inside.reached in
    rw (← c.self.view_is) (
      λ _. elim (cases_lt 0 passed) [
        | inl some ↦
            let end = c.self.invariant.walked.end.last (0, 0) some in
            (taken_begin_below ds c.self.invariant.listed.valid.ascending c.args.input_offset passed some (omega (arith, length-map deltas deletion_of, c.self.invariant.walked.within))).0 (omega (arith, end, c.if-self-input_offset.true))
        | inr none ↦ λ k d inside. absurd (omega (arith, none, inside, length-take passed ds))
      ],
      λ _. refl,
    )
