use Rattle.linker_reading.proofs.Imports.{IsOneOf, IsRecognisable, ap, arith, cases_lt, choices_at, drop, false≢true, length-take, refl, same_Some, slice_get, subst, sym, take, ⊎_elim, ◌-◌, ◌<◌, ◌∙◌, ◌≡◌}
use Rattle.linker_reading.proofs.Found.{one_of, place_in}
use Rattle.linker_reading.proofs.Parts.{part_by}
use Rattle.linker_reading.proofs.Tables.{following, taken_at}
use Rattle.linker_reading.proofs.windows.has_each.Goals as goal

pub returns-then-not-is_there : goal.returns-then-not-is_there
returns-then-not-is_there g c =
    let array = c.args.there.now.0 in
    let n = c.args.there.now.1 in
    let part = part_by c.args.begin c.args.end c.min-from.result c.min.result c.max.result c.args.original.now c.min-from.ensures c.min.ensures c.max.ensures in
    let one = c.choice_at.result in
    let kept = one_of one (take n array) c.loop-index.index (taken_at array (take n array) n refl c.loop-index.index c.loop-index-test.true ∙ c.choice_at.ensures) in (
      (λ is. absurd (false≢true is)),
      (λ each.
          let is = subst (λ l. IsRecognisable g.N.RecognisedName.how c.args.name l (c.args.offset - c.args.begin) one) (sym part) (each one ((c.requires.those one).0 kept)) in
          sym c.if-not-is_there.true ∙ (c.is_there.ensures c.args.name is.listed).1 is),
    )

pub loop-index-preserved : goal.loop-index-preserved
loop-index-preserved g c i d h at listed =
    let bytes = take (c.max.result - c.min-from.result) (drop c.min-from.result c.args.original.now) in
    let o = c.args.offset - c.args.begin in
    let one = c.choice_at.result in
    ⊎_elim
    (λ before. c.loop-index.invariant i d before at listed)
    (λ since.
    let place : i ≡ c.loop-index.index = omega (arith, h, since) in
    let same : d ≡ one = same_Some d one (sym at ∙ ap (slice_get c.args.there.now.0) place ∙ c.choice_at.ensures) in
    subst (λ x. IsRecognisable g.N.RecognisedName.how c.args.name bytes o x) (sym same)
    ((c.is_there.ensures c.args.name (subst (λ x. IsOneOf x (choices_at g.N.RecognisedName.how c.args.name bytes o)) same listed)).0 c.if-not-is_there.false))
    (cases_lt i c.loop-index.index)

pub loop-index-2-init : goal.loop-index-2-init
loop-index-2-init g c i d h at = absurd (omega (arith, h))

pub returns-then-not-is_listed : goal.returns-then-not-is_listed
returns-then-not-is_listed g c =
    let array = c.args.there.now.0 in
    let n = c.args.there.now.1 in
    let part = part_by c.args.begin c.args.end c.min-from.result c.min.result c.max.result c.args.original.now c.min-from.ensures c.min.ensures c.max.ensures in
    let one = c.choice_at-in-loop-index-2.result in
    let kept = one_of one (take n array) c.loop-index-2.index (taken_at array (take n array) n refl c.loop-index-2.index c.loop-index-2-test.true ∙ c.choice_at-in-loop-index-2.ensures) in (
      (λ is. absurd (false≢true is)),
      (λ each.
          let is = subst (λ l. IsRecognisable g.N.RecognisedName.how c.args.name l (c.args.offset - c.args.begin) one) (sym part) (each one ((c.requires.those one).0 kept)) in
          sym c.if-not-is_listed.true ∙ c.is_listed.ensures.1 (subst (IsOneOf one) (sym c.listed-listed.ensures.choices) is.listed)),
    )

pub loop-index-2-preserved : goal.loop-index-2-preserved
loop-index-2-preserved g c i d h at =
    let one = c.choice_at-in-loop-index-2.result in
    ⊎_elim
    (λ before. c.loop-index-2.invariant i d before at)
    (λ since.
    let place : i ≡ c.loop-index-2.index = omega (arith, h, since) in
    let same : d ≡ one = same_Some d one (sym at ∙ ap (slice_get c.args.there.now.0) place ∙ c.choice_at-in-loop-index-2.ensures) in
    subst (λ x. IsOneOf x (take c.listed-listed.result.1 c.listed-listed.result.0)) (sym same) (c.is_listed.ensures.0 c.if-not-is_listed.false))
    (cases_lt i c.loop-index-2.index)

pub returns : goal.returns
returns g c =
    let array = c.args.there.now.0 in
    let n = c.args.there.now.1 in
    let part = part_by c.args.begin c.args.end c.min-from.result c.min.result c.max.result c.args.original.now c.min-from.ensures c.min.ensures c.max.ensures in (
      (λ _ d is.
          let at = place_in d (take n array) ((c.requires.those d).1 is) in
          let less : at.0 < n = (let few = length-take n array in let inside = following d (take n array) at.0 at.1 in omega (arith, few, inside)) in
          let here = sym (taken_at array (take n array) n refl at.0 less) ∙ at.1 in
          let listed = subst (IsOneOf d) c.listed-listed.ensures.choices (c.loop-index-2.invariant at.0 d (omega (arith, less, c.loop-index-2-test.false)) here) in
          subst (λ l. IsRecognisable g.N.RecognisedName.how c.args.name l (c.args.offset - c.args.begin) d) part
          (c.loop-index.invariant at.0 d (omega (arith, less, c.loop-index-test.false)) here listed)),
      (λ _. refl),
    )
