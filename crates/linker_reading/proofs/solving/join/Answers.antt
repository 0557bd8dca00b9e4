use Rattle.linker_reading.proofs.Imports.{ap, arith, eq-eqb, mod_below, pow_pos, rules, subst, subst_below, true, ℕ, ◌%◌, ◌&&◌, ◌*◌, ◌+◌, ◌-◌, ◌<◌, ◌==◌, ◌^◌, ◌∙◌, ◌≡◌}
use Rattle.linker_reading.proofs.Ranges.{moved_fits}
use Rattle.linker_reading.proofs.Shifts.{bits_below, joined_halves, above}
use Rattle.linker_reading.proofs.solving.join.Goals as goal

pub overflow_mul-high : goal.overflow_mul-high
overflow_mul-high c =
    let high = c.args.high.now in
    let low = c.args.low.now in
    let order = c.requires.high.some in
    rw c.power_of_two-unit.ensures (record {
      fits = moved_fits high.bits low.known.end high.known.end
          (above high low c.requires.high c.requires.low c.if-low-ne0.false c.if-low-high.false)
          (let end : low.known.end ≡ high.known.start = c.if-low-high.false in omega arith)
          c.requires.high.inside;
    })

pub overflow_add-high : goal.overflow_add-high
overflow_add-high c =
    let high = c.args.high.now in
    let low = c.args.low.now in
    let w = (low.bits + high.rounding) % 2 ^ 64 % 2 ^ low.known.end in
    let small = mod_below ((low.bits + high.rounding) % 2 ^ 64) (2 ^ low.known.end) (pow_pos low.known.end) in
    rw c.power_of_two-unit.ensures (record {
      fits = subst_below (high.bits * 2 ^ low.known.end + w) high.known.end 64
          (bits_below high low c.requires.high c.requires.low c.if-low-ne0.false c.if-low-high.false w small)
          c.requires.high.inside;
    })

pub without_rounding-requires : goal.without_rounding-requires
without_rounding-requires c =
    let high = c.args.high.now in
    let low = c.args.low.now in
    let order = c.requires.high.some in
    let w = (low.bits + high.rounding) % 2 ^ 64 % 2 ^ low.known.end in
    let small = mod_below ((low.bits + high.rounding) % 2 ^ 64) (2 ^ low.known.end) (pow_pos low.known.end) in
    rw c.power_of_two-unit.ensures (record {
      some = omega arith;
      inside = c.requires.high.inside;
      small = subst (λ k. high.bits * 2 ^ low.known.end + w < 2 ^ k)
          (let same : high.known.end ≡ high.known.end - 0 = omega arith in same)
          (bits_below high low c.requires.high c.requires.low c.if-low-ne0.false c.if-low-high.false w small);
    })

-- where the tests find no fault
halves : (start rounding end above : ℕ) → start ≡ 0 → rounding ≡ 0 → end ≡ above
    → (start == 0 && (rounding == 0 && end == above)) ≡ true
halves start rounding end above a b c =
    ap (λ x. x && (rounding == 0 && end == above)) (eq-eqb start 0 a)
    ∙ ap (λ x. x && end == above) (eq-eqb rounding 0 b) ∙ eq-eqb end above c

pub returns-clause-joined : goal.returns-clause-joined
returns-clause-joined c =
    let high = c.args.high.now in
    let low = c.args.low.now in
    let unit : c.power_of_two-unit.result ≡ 2 ^ low.known.end = c.power_of_two-unit.ensures in
    let rounding : high.rounding < 2 ^ 64 = search rules in
    record {
      halves = halves low.known.start low.rounding low.known.end high.known.start
          c.if-low-ne0.false c.if-low-ne0-2.false c.if-low-high.false;
      start = ap (λ k. k.start) c.without_rounding.ensures.known;
      end = ap (λ k. k.end) c.without_rounding.ensures.known;
      rounding = c.without_rounding.ensures.rounding;
      both = λ n.
          let p = joined_halves high low c.requires.high c.requires.low c.if-low-ne0.false
          c.if-low-high.false (omega arith) c.if-low-ne0-2.false n in
          let q = rw unit at (c.without_rounding.ensures.same n) in
          ((λ h. p.0 (q.0 h)), (λ h. q.1 (p.1 h)));
    }
