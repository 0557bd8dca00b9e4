use Rattle.linker_base.proofs.Imports.{EndFits, arith, false≢true, get_or, length, length-map, map, sym, take_all, ◌+◌, ◌-◌, ◌<◌, ◌∙◌, ◌≡◌, ◌≤◌}
use Rattle.linker_base.proofs.Listed.{valid_from_rising, first_invalid_at}
use Rattle.linker_base.proofs.relaxation.overlap.first_invalid.Goals as goal
use Rattle.linker_base.proofs.relaxation.overlap.first_invalid.Goals.{else-rising-gt0-via-then-rising-gt0+else-not-end_fits, else-rising-gt0-via-else-rising-gt0}

-- the last that lies past the one before doesn't fit
pub returns-then-not-end_fits : goal.returns-then-not-end_fits
returns-then-not-end_fits g c =
    let ds = map g.D.AsDeletion.deletion c.args.deletions.now in
    let count = c.count_rising-rising.result in
    let rising = c.count_rising-rising.ensures.rising in
    let inside : count - 1 < length ds = omega (arith, length-map c.args.deletions.now g.D.AsDeletion.deletion, c.count_rising-rising.ensures.within, c.if-rising-gt0.true) in
    first_invalid_at ds (count - 1) inside
    (valid_from_rising ds (count - 1) (omega arith) (λ k below. rising k (omega arith)) (λ some.
    let one : count - 1 - 1 + 1 ≡ count - 1 = omega arith in
    let before = rw (one, ← c.pair_at.ensures) at (rising (count - 1 - 1) (omega arith)) in
    omega (arith, before.1)))
    (λ fits before. false≢true (sym c.if-not-end_fits.true ∙ c.end_fits.ensures.1 (rw c.pair_at.ensures fits)))

-- the last of the rising ones fits
pub returns-then-rising-deletions : goal.returns-then-rising-deletions
returns-then-rising-deletions g c =
    let ds = map g.D.AsDeletion.deletion c.args.deletions.now in
    let count = c.count_rising-rising.result in
    let next = c.count_rising-rising.ensures.whole c.if-rising-deletions.true in
    let last : 0 < count → EndFits (get_or ds (count - 1) (0, 0)) = λ some. elim c.else-rising-gt0.branch [
      | else-rising-gt0-via-then-rising-gt0+else-not-end_fits w ↦ rw (← w.pair_at.ensures) (w.end_fits.ensures.0 w.if-not-end_fits.false)
      | else-rising-gt0-via-else-rising-gt0 w ↦ absurd (omega (arith, some, w.if-rising-gt0.false))
    ] in
    first_invalid_at ds count (omega (arith, length-map c.args.deletions.now g.D.AsDeletion.deletion, c.if-rising-deletions.true)) (valid_from_rising ds count (omega (arith, length-map c.args.deletions.now g.D.AsDeletion.deletion, c.if-rising-deletions.true)) c.count_rising-rising.ensures.rising last) (λ fits before. next.1 (before next.0))

pub returns : goal.returns
returns g c =
    let ds = map g.D.AsDeletion.deletion c.args.deletions.now in
    let count = c.count_rising-rising.result in
    let last : 0 < count → EndFits (get_or ds (count - 1) (0, 0)) = λ some. elim c.else-rising-gt0.branch [
      | else-rising-gt0-via-then-rising-gt0+else-not-end_fits w ↦ rw (← w.pair_at.ensures) (w.end_fits.ensures.0 w.if-not-end_fits.false)
      | else-rising-gt0-via-else-rising-gt0 w ↦ absurd (omega (arith, some, w.if-rising-gt0.false))
    ] in
    let whole : length ds ≤ count = omega (arith, length-map c.args.deletions.now g.D.AsDeletion.deletion, c.if-rising-deletions.false) in
    rw (take_all count ds whole) at (valid_from_rising ds count (omega (arith, length-map c.args.deletions.now g.D.AsDeletion.deletion, c.count_rising-rising.ensures.within)) c.count_rising-rising.ensures.rising last)
