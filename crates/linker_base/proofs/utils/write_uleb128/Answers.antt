use Rattle.linker_base.proofs.Imports.{arith, drop, drop-set-lt, get_or-set_other, get_or-set_same, length-set, refl, slice_set, uleb_number, ◌*◌, ◌+◌, ◌/◌, ◌<◌, ◌^◌, ◌∙◌, ◌≡◌}
use Rattle.linker_base.proofs.UlebLemmas.{above_shift, is_written, pow_128}
use Rattle.linker_base.proofs.utils.write_uleb128.Goals as goal
use Rattle.linker_base.proofs.utils.write_uleb128.Goals.{else-last-lt9-via-else-last-lt9, else-last-lt9-via-then-last-lt9+else-value-last-ne0}

pub returns-then-value-last-ne0-clause-err : goal.returns-then-value-last-ne0-clause-err
returns-then-value-last-ne0-clause-err c =
    let f = c.in_ok-last.ensures in
    let last = c.in_ok-last.last in
    let more : 7 * (last + 1) ≡ 7 * last + 7 = omega arith in (
      record {
        old = uleb_number c.args.dest.now last;
        rest = drop (last + 1) c.args.dest.now;
        there = record {
          last = last;
          there = f.there;
          within_ten = f.within_ten;
          continue = f.before;
          ends = f.ends;
          tenth = f.tenth;
          number = refl;
          rest_is = refl;
        };
        above = rw (pow_128 (last + 1), more)
            (above_shift c.args.value (7 * last + 7) c.if-value-last-ne0.true);
      },
      refl,
    )

pub returns-clause-ok : goal.returns-clause-ok
returns-clause-ok c =
    let f = c.in_ok-last.ensures in
    let last = c.in_ok-last.last in
    let end = c.args.value / 2 ^ (7 * last) in
    let fits : last < 9 → c.args.value / 2 ^ (7 * last + 7) ≡ 0
    = λ early. elim c.else-last-lt9.branch [
      | else-last-lt9-via-then-last-lt9+else-value-last-ne0 w ↦ w.if-value-last-ne0.false
      | else-last-lt9-via-else-last-lt9 w ↦ absurd (omega (arith, w.if-last-lt9.false, early))
    ] in
    is_written c.args.dest.now (slice_set c.loop-i.dest last end) last c.args.value
    f.there f.within_ten f.before f.ends f.tenth c.ranges.value.fits fits
    (λ k below. get_or-set_other c.loop-i.dest last k end 0 (λ at. omega (arith, below, at))
    ∙ c.loop-i.invariant.written k (omega (arith, below, c.loop-i-test.false)))
    (get_or-set_same c.loop-i.dest last end 0 (rw c.loop-i.auto.dest f.there))
    (drop-set-lt (last + 1) c.loop-i.dest last end (omega arith) ∙ c.loop-i.invariant.rest)
    (length-set c.loop-i.dest last end ∙ c.loop-i.auto.dest)
