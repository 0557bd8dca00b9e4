-- The bits of a number's two's complement are those of the number.
use Rattle.linker_base.proofs.Imports.{TwosComplementKeepsFields, add-mul, ap, arith, div-add-mod', div-lt_iff_lt-mul, div-mul-add, int_rem_euclid, int_rem_euclid_is, ints, mod_below, negsuc, pos, pow-add, pow_pos, refl, subst, suc, suc-mul, sym, ℕ, ◌%◌, ◌*◌, ◌+ℤ◌, ◌+◌, ◌-◌, ◌/◌, ◌<◌, ◌^◌, ◌∙◌, ◌≡◌}

-- the quotient of a complement is the complement of the quotient
pub complement : (n m d q r : ℕ) → n ≡ q * d + r → r < d → q < m → m * d - suc n ≡ (m - suc q) * d + (d - suc r)
complement n m d q r e small below =
    let parts : m ≡ (m - suc q) + suc q = omega arith in
    let split : m * d ≡ (m - suc q) * d + suc q * d = ap (λ x. x * d) parts ∙ add-mul (m - suc q) (suc q) d in
    omega (arith, split, suc-mul q d)

pub complement_quotient : (n m s : ℕ) → n < 2 ^ (m + s) → (2 ^ (m + s) - suc n) / 2 ^ s ≡ 2 ^ m - suc (n / 2 ^ s)
complement_quotient n m s h =
    let d = 2 ^ s in
    let some = pow_pos s in
    let below : n / d < 2 ^ m = (div-lt_iff_lt-mul {k = d} {x = n} {y = 2 ^ m} some).1 (subst (λ y. n < y) (pow-add 2 m s) h) in
    let rest = mod_below n d some in
    let is = complement n (2 ^ m) d (n / d) (n % d) (sym (div-add-mod' n d)) rest below in
    let left : d - suc (n % d) < d = omega arith in
    ap (λ y. (y - suc n) / d) (pow-add 2 m s) ∙ ap (λ y. y / d) is ∙ div-mul-add (2 ^ m - suc (n / d)) d (d - suc (n % d)) left

pub negative : (n s k m : ℕ) → m + k + s ≡ 64 → n < 2 ^ 64 → pos ((2 ^ 64 - suc n) / 2 ^ s % 2 ^ k) ≡ int_rem_euclid (negsuc (n / 2 ^ s)) (pos (2 ^ k))
negative n s k m e small =
    let wide : n < 2 ^ (m + k + s) = subst (λ y. n < 2 ^ y) (sym e) small in
    let quotient : (2 ^ 64 - suc n) / 2 ^ s ≡ 2 ^ (m + k) - suc (n / 2 ^ s) = ap (λ y. (2 ^ y - suc n) / 2 ^ s) (sym e) ∙ complement_quotient n (m + k) s wide in
    let below : n / 2 ^ s < 2 ^ (m + k) = (div-lt_iff_lt-mul {k = 2 ^ s} {x = n} {y = 2 ^ (m + k)} (pow_pos s)).1 (subst (λ y. n < y) (pow-add 2 (m + k) s) wide) in
    let whole : negsuc (n / 2 ^ s) +ℤ pos (2 ^ m * 2 ^ k) ≡ pos (2 ^ (m + k) - suc (n / 2 ^ s)) =
    subst (λ y. negsuc (n / 2 ^ s) +ℤ pos y ≡ pos (2 ^ (m + k) - suc (n / 2 ^ s))) (pow-add 2 m k) (omega (arith, ints)) in
    ap (λ y. pos (y % 2 ^ k)) quotient ∙ sym (int_rem_euclid_is (negsuc (n / 2 ^ s)) (pos (2 ^ k)) (2 ^ k) (2 ^ m) (2 ^ (m + k) - suc (n / 2 ^ s)) (pow_pos k) refl whole)

pub fields_kept : TwosComplementKeepsFields
fields_kept (pos n) s e fits some inside = refl
fields_kept (negsuc n) s e fits some inside =
    let small : n < 2 ^ 63 = fits.sfits in
    negative n s (e - s) (64 - e) (omega arith) (omega arith)
