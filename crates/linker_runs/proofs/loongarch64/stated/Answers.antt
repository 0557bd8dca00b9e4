use Rattle.linker_runs.proofs.Imports.{AreStated, Bool, ap, arith, mod-eq_of_lt, pow_mono, rules, subst, sym, true, ℕ, ◌%◌, ◌*◌, ◌-◌, ◌/◌, ◌<◌, ◌^◌, ◌∙◌, ◌≡◌, ◌≤◌}
use Rattle.linker_runs.proofs.loongarch64.stated.Goals as goal
use Rattle.linker_runs.proofs.loongarch64.stated.Goals.{then-exponent-lt2-via-then-exponent-lt2, then-exponent-lt2-via-else-exponent-lt2+then-exponent-gt32}

-- 2 to an exponent below 2 is less than an instruction, and above 32 there are too many nops
too_small : (b : Bool) (addend nops power : ℕ) → b ≡ true → addend % 256 < 2 → ¬ AreStated b addend nops power
too_small b addend nops power e few stated =
    let is = subst (λ x. AreStated x addend nops power) e stated in
    let same : addend % 256 ≡ addend / 1 % 256 = ap (λ n. n % 256) (omega arith) in
    let low : addend / 1 % 256 ≤ 1 = omega arith in
    omega (arith, pow_mono low, is.0, is.1)

too_many : (b : Bool) (addend nops power : ℕ) → b ≡ true → 32 < addend % 256 → nops < 2 ^ 32 → ¬ AreStated b addend nops power
too_many b addend nops power e many small stated =
    let is = subst (λ x. AreStated x addend nops power) e stated in
    let same : addend % 256 ≡ addend / 1 % 256 = ap (λ n. n % 256) (omega arith) in
    let high : 33 ≤ addend / 1 % 256 = omega arith in
    omega (arith, pow_mono high, is.0, is.1)

-- what the shift makes
shifted : (exponent : ℕ) → 2 ≤ exponent → exponent ≤ 32 → (1 * 2 ^ exponent % 2 ^ 64 ≡ 2 ^ exponent) × (4 ≤ 2 ^ exponent)
shifted exponent low high =
    let least : 2 ^ 2 ≤ 2 ^ exponent = pow_mono low in
    let most : 2 ^ exponent ≤ 2 ^ 32 = pow_mono high in
    let one : 1 * 2 ^ exponent ≡ 2 ^ exponent = omega arith in
    (ap (λ n. n % 2 ^ 64) one ∙ mod-eq_of_lt (omega arith), omega arith)

pub returns-then-exponent-lt2-clause-none : goal.returns-then-exponent-lt2-clause-none
returns-then-exponent-lt2-clause-none c nops power small stated =
    let has : c.args.has_symbol ≡ true = search rules in
    elim c.then-exponent-lt2.branch [
      | then-exponent-lt2-via-then-exponent-lt2 w ↦ too_small c.args.has_symbol c.args.addend nops power has w.if-exponent-lt2.true stated
      | then-exponent-lt2-via-else-exponent-lt2+then-exponent-gt32 w ↦ too_many c.args.has_symbol c.args.addend nops power has w.if-exponent-gt32.true small stated
    ]

pub overflow_sub-result : goal.overflow_sub-result
overflow_sub-result c = let s = shifted (c.args.addend % 256) c.if-exponent-lt2.false c.if-exponent-gt32.false in let a = s.0 in let b = s.1 in omega arith

made : (b : Bool) (addend x : ℕ) → b ≡ true → x ≡ 2 ^ (addend % 256) → 4 ≤ 2 ^ (addend % 256) → AreStated b addend (x - 4) x
made b addend x e is least =
    let same : addend % 256 ≡ addend / 1 % 256 = ap (λ n. n % 256) (omega arith) in
    subst (λ y. AreStated y addend (x - 4) x) (sym e) (is ∙ ap (λ k. 2 ^ k) same, omega arith)

pub returns-clause-some : goal.returns-clause-some
returns-clause-some c =
    let s = shifted (c.args.addend % 256) c.if-exponent-lt2.false c.if-exponent-gt32.false in
    made c.args.has_symbol c.args.addend (1 * 2 ^ (c.args.addend % 256) % 2 ^ 64) (search rules) s.0 s.1
