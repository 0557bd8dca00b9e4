use Rattle.linker_reading.proofs.Imports.{arith, mod_below, pow_pos, rules, subst, ◌-◌, ◌<◌, ◌^◌, ◌≡◌}
use Rattle.linker_reading.proofs.Shifts.{taken_off}
use Rattle.linker_reading.proofs.solving.without_rounding.Goals as goal

pub returns-clause-same : goal.returns-clause-same
returns-clause-same c = λ n.
    let f = c.args.field in
    let start : f.known.start ≡ 0 = c.if-field-ne0.false in
    let small : f.rounding < 2 ^ 64 = search rules in
    let size : f.known.end - f.known.start ≡ f.known.end = omega arith in
    let few : f.bits < 2 ^ f.known.end = subst (λ k. f.bits < 2 ^ k) size c.requires.small in
    rw (start, c.bits_of.ensures)
    (taken_off n f.bits f.rounding f.known.end (omega arith) c.requires.inside few)

pub returns-clause-proper : goal.returns-clause-proper
returns-clause-proper c =
    let f = c.args.field in
    let start : f.known.start ≡ 0 = c.if-field-ne0.false in
    record {
      some = c.requires.some;
      inside = c.requires.inside;
      small = rw (start, c.bits_of.ensures) (mod_below _ (2 ^ (f.known.end - 0)) (pow_pos (f.known.end - 0)));
    }
