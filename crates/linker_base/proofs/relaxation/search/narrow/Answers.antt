use Rattle.linker_base.proofs.Imports.{arith, pow_mono, refl, ℕ, ◌*◌, ◌^◌, ◌≤◌}
use Rattle.std.proofs.Math.Nat.{mul-le-mul_right}
use Rattle.linker_base.proofs.relaxation.search.narrow.Goals as goal

pub returns-clause-narrowed : goal.returns-clause-narrowed
returns-clause-narrowed g c many few are left given =
    let fourth = c.halve-fourth.ensures.narrowed _ _ (omega arith) refl (c.halve-half.ensures.narrowed many _ (omega arith) refl given) in
    let sixteenth = c.halve-sixteenth.ensures.narrowed _ _ (omega arith) refl (c.halve-eighth.ensures.narrowed _ _ (omega arith) refl fourth) in
    c.halve.ensures.narrowed _ few (omega arith) left (c.halve-some.ensures.narrowed _ _ (omega arith) refl sixteenth)

pub returns-clause-spent : goal.returns-clause-spent
returns-clause-spent g c digits few =
    let most : (k : ℕ) → digits ≤ k → 2 ^ digits * c.args.width ≤ 2 ^ k * c.args.width = λ k le. mul-le-mul_right c.args.width (pow_mono le) in
    grind (arith, few, most 0, most 1, most 2, most 3, most 4, most 5, c.halve-half.ensures.probes.counted, c.halve-half.ensures.none, c.halve-fourth.ensures.probes.counted, c.halve-fourth.ensures.none, c.halve-eighth.ensures.probes.counted, c.halve-eighth.ensures.none, c.halve-sixteenth.ensures.probes.counted, c.halve-sixteenth.ensures.none, c.halve-some.ensures.probes.counted, c.halve-some.ensures.none, c.halve.ensures.probes.counted, c.halve.ensures.none)
