use Rattle.linker_reading.proofs.Imports.{Some, ap, arith, both_ways, cases_lt, get_or, length, rules, slice_get, slice_get-get_or, sym, ⊎_elim, ◌∙◌, ◌≡◌}
use Rattle.linker_reading.proofs.Tables.{same_got, equal_choices}
use Rattle.linker_reading.proofs.recognise.engine.first_at.Goals as goal

pub returns-then-eq-clause-none : goal.returns-then-eq-clause-none
returns-then-eq-clause-none g c =
    let choices = c.args.choices.now in
    let room : length choices ≡ 6 = search rules in
    let below = c.loop-earlier-test.true in (
      c.loop-earlier.earlier,
      below,
      slice_get-get_or choices c.loop-earlier.earlier c.index-choices-earlier.result (omega (arith, below, c.requires, room))
          ∙ ap Some ((equal_choices g.N.Kind.PartialEq.eq g.N.PartialEq.eq g.met.N.RecognisedName.laws.kinds g.met.N.RecognisedName.laws.names
          (get_or choices c.loop-earlier.earlier c.index-choices-earlier.result) (get_or choices c.args.index c.index-choices-index.result)).0 (sym c.eq.ensures ∙ c.if-eq.true))
          ∙ sym (slice_get-get_or choices c.args.index c.index-choices-index.result (omega (arith, c.requires, room))),
    )

pub loop-earlier-preserved : goal.loop-earlier-preserved
loop-earlier-preserved g c i h same =
    let choices = c.args.choices.now in
    let room : length choices ≡ 6 = search rules in
    let below = c.loop-earlier-test.true in
    ⊎_elim
    (λ before. c.loop-earlier.invariant i before same)
    (λ from.
    let here : i ≡ c.loop-earlier.earlier = omega (arith, h, from) in
    both_ways c.eq.result c.if-eq.false (c.eq.ensures
    ∙ (equal_choices g.N.Kind.PartialEq.eq g.N.PartialEq.eq g.met.N.RecognisedName.laws.kinds g.met.N.RecognisedName.laws.names
    (get_or choices c.loop-earlier.earlier c.index-choices-earlier.result) (get_or choices c.args.index c.index-choices-index.result)).1
    (same_got choices c.loop-earlier.earlier c.args.index c.index-choices-earlier.result c.index-choices-index.result (omega (arith, below, c.requires, room)) (omega (arith, c.requires, room))
    (ap (slice_get choices) (sym here) ∙ same))))
    (cases_lt i c.loop-earlier.earlier)
