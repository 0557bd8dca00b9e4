use Rattle.linker_runs.proofs.Imports.{IsAlwaysMultiple, IsNextPowerOfTwo, IsPowerOfTwo, arith, cases_lt, inr, pow_mono, subst, sym, ℕ, ⊎_elim, ◌+◌, ◌-◌, ◌<◌, ◌^◌, ◌≡◌, ◌≤◌}
use Rattle.linker_runs.proofs.Addresses.{next_unique}
use Rattle.linker_runs.proofs.relaxation.validity.are_always_enough.Goals as goal

-- a power of two of 64 bits
at_most : (n : ℕ) → IsPowerOfTwo n → n < 2 ^ 64 → n ≤ 2 ^ 63
at_most n power fits = ⊎_elim
    (λ (above : 63 < power.0). let up : 2 ^ 64 ≤ 2 ^ power.0 = pow_mono above in let e = power.1 in absurd (omega arith))
    (λ (within : power.0 ≤ 63). let up : 2 ^ power.0 ≤ 2 ^ 63 = pow_mono within in let e = power.1 in omega arith)
    (cases_lt 63 power.0)

pub next_power_of_two-requires : goal.next_power_of_two-requires
next_power_of_two-requires c =
    omega (arith, at_most c.args.alignment.now.alignment c.requires.power (omega arith), c.saturating_sub-unfilled.ensures)

pub returns-else-unfilled-granularity : goal.returns-else-unfilled-granularity
returns-else-unfilled-granularity c =
    let alignment = c.args.alignment.now in
    let start = c.args.start in
    let items = c.args.items.now in
    let i = c.args.index in
    let w = c.next_power_of_two.result in
    let unfilled : c.saturating_sub-unfilled.result ≡ alignment.alignment - alignment.nops = omega (arith, c.saturating_sub-unfilled.ensures) in
    let next : IsNextPowerOfTwo (alignment.alignment - alignment.nops) w = subst (λ n. IsNextPowerOfTwo n w) unfilled (c.next_power_of_two.ensures.power, c.next_power_of_two.ensures.lower_bound, c.next_power_of_two.ensures.upper_bound) in
    let there = c.requires.is_there in (
      λ test. inr (w, next, subst (λ o. IsAlwaysMultiple w start o items i) there (c.is_always_multiple.ensures.0 test)),
      λ enough. ⊎_elim
          (λ (many : alignment.alignment ≤ alignment.nops + c.args.granularity). absurd (omega arith))
          (λ (other : (v : ℕ) × IsNextPowerOfTwo (alignment.alignment - alignment.nops) v × IsAlwaysMultiple v start alignment.offset items i).
          let same = next_unique (alignment.alignment - alignment.nops) other.0 w other.1 next in
          c.is_always_multiple.ensures.1 (subst (λ o. IsAlwaysMultiple w start o items i) (sym there) (subst (λ v. IsAlwaysMultiple v start alignment.offset items i) same other.2)))
          enough,
    )
