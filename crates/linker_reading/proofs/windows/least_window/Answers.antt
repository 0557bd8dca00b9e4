use Rattle.linker_reading.proofs.Imports.{HasEach, arith, cases_lt, false≢true, length, subst, sym, ⊎_elim, ◌∙◌, ◌≡◌}
use Rattle.linker_reading.proofs.Parts.{whole, further, least}
use Rattle.linker_reading.proofs.windows.least_window.Goals.{then-loop-begin-test+else-not-has_each, else-loop-begin-test, then-loop-end-test+else-not-has_each-2, else-loop-end-test}
use Rattle.linker_reading.proofs.windows.least_window.Goals as goal

pub loop-begin-preserved : goal.loop-begin-preserved
loop-begin-preserved g c =
    let s = c.args.original.now in
    let begin = c.loop-begin.begin in
    let low = c.loop-begin.invariant.0 in (
      omega (arith, low),
      (λ b h k each. ⊎_elim
          (λ more. c.loop-begin.invariant.1 b more k each)
          (λ upto.
          let same : b ≡ begin = omega (arith, h, upto, c.loop-begin-test.true) in
          false≢true (sym c.if-not-has_each.true ∙ c.has_each.ensures.1 (subst (λ x. HasEach g.N.RecognisedName.how c.args.name s c.args.offset x (length s)) same each)))
          (cases_lt begin b)),
    )

pub loop-end-preserved : goal.loop-end-preserved
loop-end-preserved g c =
    let s = c.args.original.now in
    let begin = c.loop-begin.begin in
    let end = c.loop-end.end in
    let high = c.loop-end.invariant.0 in (
      omega (arith, high),
      (λ e h k each. ⊎_elim
          (λ less. c.loop-end.invariant.1 e h less each)
          (λ from.
          let same : e ≡ end = omega (arith, k, from) in
          false≢true (sym c.if-not-has_each-2.true ∙ c.has_each-in-loop-end.ensures.1 (subst (λ x. HasEach g.N.RecognisedName.how c.args.name s c.args.offset begin x) same each)))
          (cases_lt e end)),
    )

pub returns : goal.returns
returns g c =
    let it = g.N.RecognisedName.how in
    let name = c.args.name in
    let s = c.args.original.now in
    let o = c.args.offset in
    let begin = c.loop-begin.begin in
    let end = c.loop-end.end in
    let all : HasEach it name s o begin (length s) = elim c.loop-begin-test.branch [
      | then-loop-begin-test+else-not-has_each w ↦ w.has_each.ensures.0 w.if-not-has_each.false
      | else-loop-begin-test w ↦
          let none : 0 ≡ begin = omega (arith, w.loop-begin-test.false) in
          subst (λ x. HasEach it name s o x (length s)) none (whole it name s o)
    ] in
    let each : HasEach it name s o begin end = elim c.loop-end-test.branch [
      | then-loop-end-test+else-not-has_each-2 w ↦ w.has_each-in-loop-end.ensures.0 w.if-not-has_each-2.false
      | else-loop-end-test w ↦ further it name s o begin end all w.loop-end-test.false
    ] in
    least it name s o begin end c.loop-begin.invariant.0 c.loop-end.invariant.0 each c.loop-begin.invariant.1 c.loop-end.invariant.1
