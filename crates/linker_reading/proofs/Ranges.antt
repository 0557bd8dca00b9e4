-- Ranges of bits, and numbers in units of a power of two.
use Rattle.linker_reading.proofs.Imports.{ap, arith, div-eq_of_lt, field, mod-eq_of_lt, pow-add, pow_pos, shr_below, subst, subst_below, sym, ℕ, ◌%◌, ◌*◌, ◌+◌, ◌-◌, ◌/◌, ◌<◌, ◌^◌, ◌∙◌, ◌≡◌, ◌≤◌}

-- a number below bit m has none of the bits above
above_none : (n m s : ℕ) → n < 2 ^ m → m ≤ s → n / 2 ^ s ≡ 0
above_none n m s small most =
    let below : n < 2 ^ s = subst_below n m s small most in
    div-eq_of_lt below

pub no_bits : (n s e : ℕ) → e ≤ s → 0 ≡ field n s e
no_bits n s e none = subst (λ k. 0 ≡ n / 2 ^ s % 2 ^ k) (let zero : 0 ≡ e - s = omega arith in zero) (omega arith)

pub none_above : (n s e : ℕ) → n < 2 ^ 64 → 63 < s → 0 ≡ field n s e
none_above n s e small high =
    sym (ap (λ y. y % 2 ^ (e - s)) (above_none n 64 s small (omega arith))
    ∙ mod-eq_of_lt (pow_pos (e - s)))

-- a number of e - s bits, moved up by s
pub moved_below : (b s e : ℕ) → b < 2 ^ (e - s) → s ≤ e → b * 2 ^ s < 2 ^ e
moved_below b s e small order =
    let some = pow_pos s in
    let whole : 2 ^ e ≡ 2 ^ (e - s) * 2 ^ s =
    ap (λ k. 2 ^ k) (let same : e ≡ (e - s) + s = omega arith in same) ∙ pow-add 2 (e - s) s in
    subst (λ y. b * 2 ^ s < y) (sym whole) (product b (2 ^ (e - s)) (2 ^ s) small some)
  where
    product : (x y d : ℕ) → x < y → 0 < d → x * d < y * d
    product x y d small some = grind arith

pub moved_fits : (b s e : ℕ) → b < 2 ^ (e - s) → s ≤ e → e ≤ 64 → b * 2 ^ s < 2 ^ 64
moved_fits b s e small order most =
    subst_below (b * 2 ^ s) e 64 (moved_below b s e small order) most

-- bits s and up of 64
pub upper_below : (n s : ℕ) → n < 2 ^ 64 → s ≤ 64 → n / 2 ^ s < 2 ^ (64 - s)
upper_below n s small low =
    shr_below n (64 - s) s
    (subst (λ k. n < 2 ^ k) (let same : 64 ≡ (64 - s) + s = omega arith in same) small)

pub all_above : (n s e : ℕ) → n < 2 ^ 64 → s < 64 → 63 < e → n / 2 ^ s ≡ field n s e
all_above n s e small low high =
    sym (mod-eq_of_lt (subst_below (n / 2 ^ s) (64 - s) (e - s) (upper_below n s small (omega arith)) (omega arith)))
