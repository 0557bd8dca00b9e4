use Rattle.linker_reading.proofs.Imports.{AreFoundOfFirst, Choice, IfNone, IfSome, IsMeant, IsRepeated, Option, Recognised, Some, arith, choices_at, length, slice_get, subst, sym, ◌+◌, ◌∙◌, ◌≡◌, ◌≤◌}
use Rattle.linker_reading.proofs.Found.{none_found, one_more, same_again, found_in_table, are_distinct, chosen_found}
use Rattle.linker_reading.proofs.Tables.{taken_at, repeated_in, repeated_of, taken_few}
use Rattle.linker_reading.proofs.recognise.engine.recognise.Goals.{in-Some, in_default}
use Rattle.linker_reading.proofs.recognise.engine.recognise.Goals as goal

pub loop-index-init : goal.loop-index-init
loop-index-init g c =
    none_found (λ (m : Recognised g.row.N-Kind.Denot g.row.N.Denot). m.choice)
    (IsMeant g.N.RecognisedName.how c.args.original.now c.args.offset c.args.others.now c.args.linked.now)
    (choices_at g.N.RecognisedName.how c.args.name c.args.original.now c.args.offset)

pub loop-index-preserved : goal.loop-index-preserved
loop-index-preserved g c =
    let of = λ (m : Recognised g.row.N-Kind.Denot g.row.N.Denot). m.choice in
    let IsSo = IsMeant g.N.RecognisedName.how c.args.original.now c.args.offset c.args.others.now c.args.linked.now in
    let choices = choices_at g.N.RecognisedName.how c.args.name c.args.original.now c.args.offset in
    let array = c.listed-choices.result.0 in
    let are = c.listed-choices.ensures.choices in
    let i = c.loop-index.index in
    let within = c.loop-index-test.true in
    elim c.match-first_at.branch [
      | in-Some w ↦
          let is = subst (λ (r : Option (Choice g.row.N-Kind.Denot g.row.N.Denot)). IfSome r (λ one. (slice_get array i ≡ Some one) × (IsRepeated array i → ⊥))) w.in-Some.is c.first_at.ensures.some in
          subst (λ f. AreFoundOfFirst of IsSo choices f (i + 1)) (sym w.found-is)
          (one_more of IsSo choices c.loop-index.found i w.in-Some.choice w.recognise_one.result c.loop-index.invariant
          (taken_at array choices c.listed-choices.result.1 are i within ∙ is.0)
          (λ again. is.1 (repeated_in array choices c.listed-choices.result.1 are i within again))
          (omega (arith, within, c.listed-choices.ensures.few)) w.recognise_one.ensures)
      | in_default w ↦
          let again = subst (λ (r : Option (Choice g.row.N-Kind.Denot g.row.N.Denot)). IfNone r (IsRepeated array i)) w.in_default.is c.first_at.ensures.none in
          subst (λ f. AreFoundOfFirst of IsSo choices f (i + 1)) (sym w.found-is)
          (same_again of IsSo choices c.loop-index.found i c.loop-index.invariant (repeated_of array choices c.listed-choices.result.1 are i within again))
    ]

pub returns-clause-found : goal.returns-clause-found
returns-clause-found g c =
    let choices = choices_at g.N.RecognisedName.how c.args.name c.args.original.now c.args.offset in
    found_in_table g.N.RecognisedName.how c.args.name c.args.original.now c.args.offset c.args.others.now c.args.linked.now c.loop-index.found c.loop-index.index c.loop-index.invariant
    (let few : length choices ≤ c.listed-choices.result.1 = taken_few c.listed-choices.result.0 choices c.listed-choices.result.1 c.listed-choices.ensures.choices in omega (arith, few, c.loop-index-test.false))

pub returns-clause-any : goal.returns-clause-any
returns-clause-any g c =
    let choices = choices_at g.N.RecognisedName.how c.args.name c.args.original.now c.args.offset in
    chosen_found g.N.RecognisedName.how c.args.name c.args.original.now c.args.offset c.args.others.now c.args.linked.now c.loop-index.found g.met.N.RecognisedName.laws.chosen_matches
    (found_in_table g.N.RecognisedName.how c.args.name c.args.original.now c.args.offset c.args.others.now c.args.linked.now c.loop-index.found c.loop-index.index c.loop-index.invariant
    (let few : length choices ≤ c.listed-choices.result.1 = taken_few c.listed-choices.result.0 choices c.listed-choices.result.1 c.listed-choices.ensures.choices in omega (arith, few, c.loop-index-test.false)))

pub returns-clause-placed : goal.returns-clause-placed
returns-clause-placed g c = c.loop-index.invariant.placed

pub returns-clause-once : goal.returns-clause-once
returns-clause-once g c =
    are_distinct (choices_at g.N.RecognisedName.how c.args.name c.args.original.now c.args.offset) c.loop-index.found c.loop-index.invariant.placed
