-- Multiples of a granularity, and what alignments need.
use Rattle.linker_runs.proofs.Imports.{ap, arith, div-add-mod', inl, inr, mod-eq_of_lt, mod-lt, mod_self, mul-mod_left, needed, refl, suc, zero, ℕ, ⊎_elim, ◌%◌, ◌*◌, ◌+◌, ◌-◌, ◌/◌, ◌<◌, ◌∙◌, ◌≡◌, ◌⊎◌}

-- a number that is a multiple of another
abbrev pub Multiple : ℕ → ℕ → Type 0
Multiple u x = (m : ℕ) × (x ≡ m * u)

pub multiple_of : (u x : ℕ) → x % u ≡ 0 → Multiple u x
multiple_of u x none = (x / u, (let h = div-add-mod' x u in omega arith))

pub no_rest : (u x : ℕ) → Multiple u x → x % u ≡ 0
no_rest u x m = ap (λ n. n % u) m.1 ∙ mul-mod_left m.0 u

-- what is needed makes an address a multiple of the power
pub needed_fills : (power address : ℕ) → 0 < power → Multiple power (needed power address + address)
needed_fills power address some =
    ⊎_elim
    (λ (none : address % power ≡ 0).
    let z : power - 0 ≡ power = omega arith in
    let e : needed power address ≡ 0 = ap (λ r. (power - r) % power) none ∙ ap (λ n. n % power) z ∙ mod_self power in
    (address / power, (let h = div-add-mod' address power in omega arith)))
    (λ (rest : 0 < address % power).
    let e : needed power address ≡ power - address % power = mod-eq_of_lt (omega arith) in
    (address / power + 1, (let h = div-add-mod' address power in omega (arith, mod-lt address some))))
    (zero_or (address % power))
  where
    zero_or : (n : ℕ) → (n ≡ 0) ⊎ (0 < n)
    zero_or zero = inl refl
    zero_or (suc n) = inr (omega arith)

pub needed_below : (power address : ℕ) → 0 < power → needed power address < power
needed_below power address some = mod-lt (power - address % power) some
