use Rattle.linker_reading.proofs.Imports.{Some, ap, arith, both_ways, cases_lt, false≢true, get_or, length, refl, rules, same_Some, slice_get, slice_get-get_or, sym, take, ⊎_elim, ◌<◌, ◌∙◌, ◌≡◌}
use Rattle.linker_reading.proofs.Found.{one_of, place_in}
use Rattle.linker_reading.proofs.Tables.{following, taken_at, taken_few, equal_choices}
use Rattle.linker_reading.proofs.windows.is_listed.Goals as goal

pub returns-then-eq : goal.returns-then-eq
returns-then-eq g c =
    let array = c.args.choices.now.0 in
    let n = c.args.choices.now.1 in
    let i = c.loop-index.index in
    let room : length array ≡ 6 = search rules in
    let below = c.loop-index-test.true in
    let within : i < length array = omega (arith, below, c.requires, room) in
    let same = (equal_choices g.N.Kind.PartialEq.eq g.N.PartialEq.eq g.met.N.RecognisedName.laws.kinds g.met.N.RecognisedName.laws.names (get_or array i c.index-choices-index.result) c.args.choice).0
    (sym c.eq.ensures ∙ c.if-eq.true) in
    (λ _. one_of c.args.choice (take n array) i (taken_at array (take n array) n refl i below ∙ slice_get-get_or array i c.index-choices-index.result within ∙ ap Some same), λ _. refl)

pub loop-index-preserved : goal.loop-index-preserved
loop-index-preserved g c k h there =
    let array = c.args.choices.now.0 in
    let i = c.loop-index.index in
    let room : length array ≡ 6 = search rules in
    let below = c.loop-index-test.true in
    let within : i < length array = omega (arith, below, c.requires, room) in
    ⊎_elim
    (λ before. c.loop-index.invariant k before there)
    (λ from.
    let here : k ≡ i = omega (arith, h, from) in
    both_ways c.eq.result c.if-eq.false (c.eq.ensures
    ∙ (equal_choices g.N.Kind.PartialEq.eq g.N.PartialEq.eq g.met.N.RecognisedName.laws.kinds g.met.N.RecognisedName.laws.names (get_or array i c.index-choices-index.result) c.args.choice).1
    (same_Some (get_or array i c.index-choices-index.result) c.args.choice (sym (slice_get-get_or array i c.index-choices-index.result within) ∙ ap (slice_get array) (sym here) ∙ there))))
    (cases_lt k i)

pub returns : goal.returns
returns g c =
    let array = c.args.choices.now.0 in
    let n = c.args.choices.now.1 in (
      (λ is. absurd (false≢true is)),
      (λ one.
          let at = place_in c.args.choice (take n array) one in
          let few = taken_few array (take n array) n refl in
          let placed = following c.args.choice (take n array) at.0 at.1 in
          let less : at.0 < n = omega (arith, few, placed) in
          absurd (c.loop-index.invariant at.0 (omega (arith, less, c.loop-index-test.false)) (sym (taken_at array (take n array) n refl at.0 less) ∙ at.1))),
    )
