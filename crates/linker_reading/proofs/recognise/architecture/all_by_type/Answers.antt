use Rattle.linker_reading.proofs.Imports.{None, ap, append-nil, arith, by_type, get_or, length, map, of_some, replicate, set, suc, sym, take, take_all, ◌++◌, ◌+◌, ◌-◌, ◌<◌, ◌∙◌, ◌≡◌, ◌≤◌}
use Rattle.linker_reading.proofs.Tables.{mapped_more, same_more, none_of}
use Rattle.linker_reading.proofs.recognise.architecture.all_by_type.Goals.{then-is_some, else-is_some}
use Rattle.linker_reading.proofs.recognise.architecture.all_by_type.Goals as goal

pub loop-index-preserved : goal.loop-index-preserved
loop-index-preserved g c =
    let i = c.loop-index.index in
    let found = c.args.found in
    let f = of_some (by_type g.N.RecognisedName.how) in
    let within : i < length found = omega (arith, c.requires, c.loop-index-test.true) in
    let left : 6 - i ≡ suc (6 - (i + 1)) = omega (arith, c.loop-index-test.true) in
    let next = ap (λ n. map f (take n found) ++ replicate (6 - (i + 1)) None) (let e : suc i ≡ i + 1 = omega arith in e) in
    elim c.if-is_some.branch [
      | then-is_some w ↦ w.by_type-is ∙ ap (λ l. set l i w.typed.result) c.loop-index.invariant
          ∙ ap (λ y. set (map f (take i found) ++ replicate (6 - i) None) i y) w.typed.ensures
          ∙ ap (λ n. set (map f (take i found) ++ replicate n None) i (f (get_or found i w.index-found-index-then-is_some.result))) left
          ∙ mapped_more f found i (6 - (i + 1)) w.index-found-index-then-is_some.result None within ∙ next
      | else-is_some w ↦ w.by_type-is ∙ c.loop-index.invariant
          ∙ ap (λ n. map f (take i found) ++ replicate n None) left
          ∙ same_more f found i (6 - (i + 1)) c.index-found-index.result None within
          (ap f (none_of (get_or found i c.index-found-index.result) (sym c.is_some.ensures ∙ w.if-is_some.false))) ∙ next
    ]

pub returns : goal.returns
returns g c =
    let f = of_some (by_type g.N.RecognisedName.how) in
    let found = c.args.found in
    let past : 6 ≤ c.loop-index.index = c.loop-index-test.false in
    c.loop-index.invariant
    ∙ ap (λ xs. map f xs ++ replicate (6 - c.loop-index.index) None) (take_all c.loop-index.index found (omega (arith, past, c.requires)))
    ∙ ap (λ n. map f found ++ replicate n None) (let e : 6 - c.loop-index.index ≡ 0 = omega (arith, past) in e)
    ∙ append-nil (map f found)
