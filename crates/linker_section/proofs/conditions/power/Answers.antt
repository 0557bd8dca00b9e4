use Rattle.linker_section.proofs.Imports.{ap, arith, mod-eq_of_lt, subst, sym, ℕ, ◌%◌, ◌*◌, ◌<◌, ◌^◌, ◌∙◌, ◌≡◌, ◌≤◌}
use Rattle.std.proofs.Math.Pow.{pow_mono}
use Rattle.linker_section.proofs.conditions.power.Goals as goal

-- what the shift makes
shifted : (exponent : ℕ) → exponent < 33 → 1 * 2 ^ exponent % 2 ^ 64 ≡ 2 ^ exponent
shifted exponent low =
    let high : exponent ≤ 32 = omega (arith, low) in
    let one : 1 * 2 ^ exponent ≡ 2 ^ exponent = omega arith in
    ap (λ n. n % 2 ^ 64) one ∙ mod-eq_of_lt (omega (arith, pow_mono high))

pub returns-clause-power : goal.returns-clause-power
returns-clause-power c = shifted c.args.exponent c.requires

pub returns-clause-some : goal.returns-clause-some
returns-clause-some c =
    let zero : 0 ≤ c.args.exponent = omega arith in
    subst (λ n. 0 < n) (sym (shifted c.args.exponent c.requires)) (omega (arith, (pow_mono zero)))
