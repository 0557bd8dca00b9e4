-- The bits above the known ones, of values within bounds.
use Rattle.linker_reading.proofs.Imports.{FieldValue, FitsSigned, IsOfValue, IsWithin, Some, and_parts, ap, arith, cast_unsigned, difference_64, div-add-mod', div-le_self, div-mul-add, eqb, eqb-true, field, ints, least_sum, leaves_one, ltb, ltb-false, ltb-true, mod-add-mod, mod-pow-add, mod_below, mod_low, mod_mod, negsuc, not, not-true, pos, pow-add, pow_pos, shr_below, subst, suc, sum_64, sym, true, up_to_sign, w64, ℕ, ℤ, ◌%◌, ◌&&◌, ◌*◌, ◌+◌, ◌-◌, ◌/◌, ◌<ℤ◌, ◌<◌, ◌^◌, ◌∙◌, ◌≡◌, ◌≤ℤ◌, ◌≤◌}

-- ---- how far a value is from the least

record IsApart (least v d t : ℕ) : Type 0 where
  pub below : t < d
  pub sum : v ≡ (least + t) % 2 ^ 64

record Distance (min max v : ℤ) : Type 0 where
  pub far : ℕ
  pub apart : IsApart (cast_unsigned w64 min) (cast_unsigned w64 v)
      (difference_64 (cast_unsigned w64 max) (cast_unsigned w64 min)) far

distance : (min max v : ℤ) → FitsSigned w64 min → FitsSigned w64 max → FitsSigned w64 v
    → min ≤ℤ v → v <ℤ max → Distance min max v
distance (pos a) (pos m) (pos n) f g h low high =
    let x : a < 2 ^ 63 = f.sfits in
    let y : m < 2 ^ 63 = g.sfits in
    let z : n < 2 ^ 63 = h.sfits in
    let from : a ≤ n = omega (arith, ints, low) in
    let to : n < m = omega (arith, ints, high) in
    record { far = n - a; apart = record { below = omega arith; sum = omega arith } }
distance (negsuc a) (pos m) (pos n) f g h low high =
    let x : a < 2 ^ 63 = f.sfits in
    let y : m < 2 ^ 63 = g.sfits in
    let z : n < 2 ^ 63 = h.sfits in
    let to : n < m = omega (arith, ints, high) in
    record { far = n + suc a; apart = record { below = omega arith; sum = omega arith } }
distance (negsuc a) (pos m) (negsuc n) f g h low high =
    let x : a < 2 ^ 63 = f.sfits in
    let y : m < 2 ^ 63 = g.sfits in
    let z : n < 2 ^ 63 = h.sfits in
    let from : n ≤ a = omega (arith, ints, low) in
    record { far = a - n; apart = record { below = omega arith; sum = omega arith } }
distance (negsuc a) (negsuc m) (negsuc n) f g h low high =
    let x : a < 2 ^ 63 = f.sfits in
    let y : m < 2 ^ 63 = g.sfits in
    let z : n < 2 ^ 63 = h.sfits in
    let from : n ≤ a = omega (arith, ints, low) in
    let to : m < n = omega (arith, ints, high) in
    record { far = a - n; apart = record { below = omega arith; sum = omega arith } }
distance (pos a) max (negsuc n) f g h low high = absurd (omega (arith, ints, low))
distance min (negsuc m) (pos n) f g h low high = absurd (omega (arith, ints, high))

-- ---- numbers in units of 2 ^ s

in_units : (x b s : ℕ) → b < 2 ^ s → s ≤ 64 → (x * 2 ^ s + b) % 2 ^ 64 / 2 ^ s ≡ x % 2 ^ (64 - s)
in_units x b s small order =
    let n = x * 2 ^ s + b in
    let apart : 64 ≡ (64 - s) + s = omega arith in
    let quotient : n / 2 ^ s ≡ x = div-mul-add x (2 ^ s) b small in
    ap (λ k. n % 2 ^ k / 2 ^ s) apart
    ∙ ap (λ y. y / 2 ^ s) (mod-pow-add n (64 - s) s)
    ∙ div-mul-add (n / 2 ^ s % 2 ^ (64 - s)) (2 ^ s) (n % 2 ^ s) (mod_below n (2 ^ s) (pow_pos s))
    ∙ ap (λ y. y % 2 ^ (64 - s)) quotient

-- how far above l a number is, by its bits below bit k
above : (l a k : ℕ) → l ≤ 2 ^ 64 → a < 2 ^ k → k ≤ 64
    → ((l + a) % 2 ^ k + (2 ^ 64 - l)) % 2 ^ k ≡ a
above l a k most small order =
    let whole : 2 ^ 64 ≡ 2 ^ (64 - k) * 2 ^ k =
    ap (λ j. 2 ^ j) (let same : 64 ≡ (64 - k) + k = omega arith in same) ∙ pow-add 2 (64 - k) k in
    mod-add-mod (l + a) (2 ^ k) (2 ^ 64 - l)
    ∙ ap (λ y. y % 2 ^ k) (let sum : l + a + (2 ^ 64 - l) ≡ 2 ^ (64 - k) * 2 ^ k + a = omega arith in sum)
    ∙ mod_low (2 ^ (64 - k)) k a small

-- ---- the bits of one number from s up

one_left : (l least u t s e bits : ℕ) → s < e → e < 64 → t < 2 ^ e → least ≡ l * 2 ^ s
    → l ≤ 2 ^ 64 → u ≡ (least + t) % 2 ^ 64 → field u s e ≡ bits
    → field u s 64 ≡ (least + (bits + (2 ^ 64 - l)) % 2 ^ (e - s) * 2 ^ s) % 2 ^ 64 / 2 ^ s
one_left l least u t s e bits order short below is most sum known =
    let some = pow_pos s in
    let a = t / 2 ^ s in
    let b = t % 2 ^ s in
    let k = e - s in
    let rest = mod_below t (2 ^ s) some in
    let parts : t ≡ a * 2 ^ s + b = sym (div-add-mod' t (2 ^ s)) in
    let few : a < 2 ^ k =
    shr_below t k s (subst (λ j. t < 2 ^ j) (let same : e ≡ (e - s) + s = omega arith in same) below) in
    let moved : least + t ≡ (l + a) * 2 ^ s + b = joined l a b (2 ^ s) least t is parts in
    let upper : u / 2 ^ s ≡ (l + a) % 2 ^ (64 - s) =
    ap (λ y. y / 2 ^ s) (sum ∙ ap (λ y. y % 2 ^ 64) moved) ∙ in_units (l + a) b s rest (omega arith) in
    let low : (l + a) % 2 ^ k ≡ bits =
    sym (ap (λ y. y % 2 ^ k) upper ∙ mod_mod (l + a) (64 - s) k (omega arith)) ∙ known in
    let steps : (bits + (2 ^ 64 - l)) % 2 ^ k ≡ a =
    ap (λ y. (y + (2 ^ 64 - l)) % 2 ^ k) (sym low) ∙ above l a k most few (omega arith) in
    ap (λ y. y % 2 ^ (64 - s)) upper ∙ mod_mod (l + a) (64 - s) (64 - s) (omega arith)
    ∙ sym (ap (λ y. (least + y * 2 ^ s) % 2 ^ 64 / 2 ^ s) steps
    ∙ ap (λ y. y % 2 ^ 64 / 2 ^ s) (joined l a 0 (2 ^ s) least (a * 2 ^ s) is (omega arith))
    ∙ in_units (l + a) 0 s some (omega arith))
  where
    joined : (l a b d least t : ℕ) → least ≡ l * d → t ≡ a * d + b → least + t ≡ (l + a) * d + b
    joined l a b d least t e f = grind arith

-- the sum with what was added first
with_rounding : (least v r t : ℕ) → v ≡ (least + t) % 2 ^ 64
    → (v + r) % 2 ^ 64 ≡ ((least + r) % 2 ^ 64 + t) % 2 ^ 64
with_rounding least v r t e = omega arith

pub reach_leaves : (min max : ℤ) (f : FieldValue) → FitsSigned w64 min → FitsSigned w64 max
    → f.known.start < f.known.end → leaves_one (min, max) f ≡ true
    → (v : ℤ) → FitsSigned w64 v → IsWithin (Some (min, max)) v → IsOfValue f v
    → IsOfValue (up_to_sign (min, max) f) v
reach_leaves min max f a b order leaves v fits within known =
    let s = f.known.start in
    let e = f.known.end in
    let least = least_sum (min, max) f in
    let d = difference_64 (cast_unsigned w64 max) (cast_unsigned w64 min) in
    let x = and_parts (ltb e 64) (not (ltb (2 ^ e) d) && eqb (least % 2 ^ s) 0) leaves in
    let y = and_parts (not (ltb (2 ^ e) d)) (eqb (least % 2 ^ s) 0) x.1 in
    let short = ltb-true e 64 x.0 in
    let most : d ≤ 2 ^ e = ltb-false (2 ^ e) d (not-true (ltb (2 ^ e) d) y.0) in
    let none = eqb-true (least % 2 ^ s) 0 y.1 in
    let far = distance min max v a b fits within.0 within.1 in
    let t = far.far in
    let near = far.apart.below in
    let small : least < 2 ^ 64 = mod_below (cast_unsigned w64 min + f.rounding) (2 ^ 64) (omega arith) in
    let parts = div-add-mod' least (2 ^ s) in
    one_left (least / 2 ^ s) least (sum_64 (cast_unsigned w64 v) f.rounding) t s e f.bits order short
    (omega arith) (omega arith) (quotient_most least s small)
    (with_rounding (cast_unsigned w64 min) (cast_unsigned w64 v) f.rounding t far.apart.sum) known
  where
    quotient_most : (n s : ℕ) → n < 2 ^ 64 → n / 2 ^ s ≤ 2 ^ 64
    quotient_most n s small = let h = div-le_self n (2 ^ s) in omega arith
