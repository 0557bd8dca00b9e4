use Rattle.linker_runs.proofs.Imports.{IsPowerOfTwo, IsTrue, ap, arith, cases_lt, is_power_of_two, mod-lt, nat_tests, ones_cat, pow_pos, refl, shr_split, subst, suc, sym, two-pow-succ, zero, zero_from_ones, ℕ, ⊎_elim, ◌%◌, ◌*◌, ◌+◌, ◌/◌, ◌<◌, ◌^◌, ◌↔◌, ◌∙◌, ◌≡◌, ◌≤◌}
use Rattle.linker_runs.proofs.relaxation.validity.is_power_of_two.Goals as goal
use Rattle.std.specs.Int.RustNames.{count_ones}

one_bit : (most n : ℕ) → n ≤ most → count_ones n ≡ 1 → IsPowerOfTwo n
unfolding count_ones
one_bit zero n within one =
    let none : n ≡ 0 = omega arith in
    let e : count_ones n ≡ 0 = ap count_ones none in
    absurd (omega arith)
one_bit (suc most) n within one =
    let half = n / 2 ^ 1 in
    let rest = n % 2 ^ 1 in
    let parts : half * 2 ^ 1 + rest ≡ n = shr_split n 1 in
    let below : rest < 2 ^ 1 = mod-lt n (pow_pos 1) in
    let bits : count_ones n ≡ count_ones half + count_ones rest = ap count_ones (sym parts) ∙ ones_cat 1 half rest below in
    let two : 2 ^ 1 ≡ 2 = refl in
    ⊎_elim
    (λ (even : rest < 1).
    let none : rest ≡ 0 = omega arith in
    let e : count_ones rest ≡ 0 = ap count_ones none in
    let h = one_bit most half (omega arith) (omega arith) in
    let is : half ≡ 2 ^ h.0 = h.1 in
    let next : 2 ^ suc h.0 ≡ 2 ^ h.0 + 2 ^ h.0 = two-pow-succ h.0 in
    (suc h.0, omega arith))
    (λ (odd : 1 ≤ rest).
    let one_more : rest ≡ 1 = omega arith in
    let e : count_ones rest ≡ 1 = ap count_ones one_more in
    (0, (let h : n ≡ 1 = omega (arith, zero_from_ones half (omega arith)) in h)))
    (cases_lt rest 1)

bits_of_power : (k : ℕ) → count_ones (2 ^ k) ≡ 1
unfolding count_ones
bits_of_power k =
    let z : 1 * 2 ^ k + 0 ≡ 2 ^ k = omega arith in
    ap count_ones (sym z) ∙ ones_cat k 1 0 (pow_pos k)

power_test : (n : ℕ) → IsTrue (is_power_of_two n) ↔ IsPowerOfTwo n
power_test n = (
  λ test. (let one : count_ones n ≡ 1 = grind (arith, nat_tests) in one_bit n n (omega arith) one),
  λ power. (let one : count_ones n ≡ 1 = ap count_ones power.1 ∙ bits_of_power power.0 in grind (arith, nat_tests)),
)

pub returns : goal.returns
returns c = subst (λ test. IsTrue test ↔ IsPowerOfTwo c.args.number) (sym c.is_power_of_two.ensures) (power_test c.args.number)
