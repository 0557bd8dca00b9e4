use Rattle.linker_output.proofs.Imports.{Err, Ok, [], arith, err_from_is_err_and, length, length-append, put_all, refl, set, sym, visit, ◌++◌, ◌∙◌, ◌∷◌, ◌≡◌}
use Rattle.linker_output.proofs.MergedProperties.{put_more}
use Rattle.linker_output.proofs.ReadProperties.{inside, nothing_read, with_one, with_none, with_error, all_read}
use Rattle.linker_output.proofs.properties.read_into.Goals as goal

pub loop-place-init : goal.loop-place-init
loop-place-init c = ([], nothing_read c.args.architecture c.args.section.now, refl, refl, omega arith)

pub returns-in_err-place-clause-err : goal.returns-in_err-place-clause-err
returns-in_err-place-clause-err c =
    let p = err_from_is_err_and c.from_residual.result c.from_residual.ensures.1 in
    let i = c.loop-place.invariant in
    let e : visit c.args.architecture c.args.section.now c.loop-place.place ≡ Err c.in_err-place.field-0.0 =
    sym c.visit.ensures ∙ c.in_err-place.was in
    rw (p.1, p.2) (with_error c.args.architecture c.args.section.now i.0 c.loop-place.place c.in_err-place.field-0.0
    c.loop-place-test.true e i.1)

pub loop-place-preserved-in-Some : goal.loop-place-preserved-in-Some
loop-place-preserved-in-Some c =
    let a = c.args.architecture in
    let s = c.args.section.now in
    let v = c.loop-place.place in
    let w = c.in_ok-place.place in
    let p = c.in-Some.property in
    let i = c.loop-place.invariant in
    let r = i.1 in
    let e : visit a s v ≡ Ok w = sym c.visit.ensures ∙ c.in_ok-place.was in
    let on = inside a s v w r.begun r.ended e in
    let put : c.put-count.new.properties ≡ set (put_all i.0 c.args.properties.now) (length i.0) p = cc in (
      i.0 ++ p ∷ [],
      with_one a s i.0 v w p c.loop-place-test.true e c.in-Some.is r,
      simp length-append (omega arith),
      put ∙ put_more i.0 c.args.properties.now p,
      omega arith,
    )

pub loop-place-preserved : goal.loop-place-preserved
loop-place-preserved c =
    let a = c.args.architecture in
    let s = c.args.section.now in
    let v = c.loop-place.place in
    let w = c.in_ok-place.place in
    let i = c.loop-place.invariant in
    let r = i.1 in
    let e : visit a s v ≡ Ok w = sym c.visit.ensures ∙ c.in_ok-place.was in
    (i.0, with_none a s i.0 v w c.loop-place-test.true e c.in_default.is r, i.2, i.3, omega (arith, inside a s v w r.begun r.ended e))

pub loop-place-smaller-in-Some : goal.loop-place-smaller-in-Some
loop-place-smaller-in-Some c =
    let r = c.loop-place.invariant.1 in
    omega (arith, inside c.args.architecture c.args.section.now c.loop-place.place c.in_ok-place.place r.begun r.ended (sym c.visit.ensures ∙ c.in_ok-place.was))

pub loop-place-smaller : goal.loop-place-smaller
loop-place-smaller c =
    let r = c.loop-place.invariant.1 in
    omega (arith, inside c.args.architecture c.args.section.now c.loop-place.place c.in_ok-place.place r.begun r.ended (sym c.visit.ensures ∙ c.in_ok-place.was))

pub returns-clause-ok : goal.returns-clause-ok
returns-clause-ok c =
    let i = c.loop-place.invariant in
    (i.0, all_read c.args.architecture c.args.section.now i.0 c.loop-place.place (omega arith) i.1, sym i.2, i.3)
