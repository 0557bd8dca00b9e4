-- A field within its range is read as the value: from comparisons of a row's bits, range and
-- alignment.
use Rattle.linker_elf.proofs.Imports.{Bool, IsClear, IsFieldOf, IsSameIn, IsSameModulo, IsWithin, Layout, None, Option, Sign, Some, Written, and_parts, ap, arith, bits_from, cond, div-add-mod', eqb, eqb-true, false, form_of, inl, inr, int_lt, int_rem_euclid, int_rem_euclid_is, ints, is_sound_layout, laid_field, le-ltb, le_z, le_z_yes, leb, leb-true, lt-ltb, ltb, mod-eq_of_lt, mod_below, mod_mod, neg_ℤ, negsuc, number_of, number_rem, one_field, or_cases, own_form, place_sum, pos, pow-add, pow_pos, refl, shr_below, signed, signed_cases, sound_field, subst, subst_below, sym, true, twos_complement, unsigned, unsigned_abs, ℕ, ℤ, ◌%◌, ◌&&◌, ◌*◌, ◌+◌, ◌-ℤ◌, ◌-◌, ◌/◌, ◌<ℤ◌, ◌<◌, ◌^◌, ◌||◌, ◌∙◌, ◌≡◌, ◌≤ℤ◌, ◌≤◌}
use Rattle.std.proofs.lemmas.Float.{T_from_true}

turns : (x c d p : ℕ) → p ≡ c * d → (x + 1) * c * d ≡ x * p + p
turns x c d p e = subst (λ q. (x + 1) * c * d ≡ x * q + q) (sym e) (omega arith)

-- the remainder by a smaller power
pub rem_rem : (z : ℤ) (f k n : ℕ) → n ≤ k → pos f ≡ int_rem_euclid z (pos (2 ^ k)) → pos (f % 2 ^ n) ≡ int_rem_euclid z (pos (2 ^ n))
rem_rem (pos b) f k n l e =
    let same : f ≡ b % 2 ^ k = ap unsigned_abs e in
    ap (λ y. pos (y % 2 ^ n)) same ∙ ap pos (mod_mod b k n l)
rem_rem (negsuc b) f k n l e =
    let same : f ≡ 2 ^ k - 1 - b % 2 ^ k = ap unsigned_abs e in
    let small : b % 2 ^ k < 2 ^ k = mod_below b (2 ^ k) (pow_pos k) in
    let parts : b / 2 ^ k * 2 ^ k + b % 2 ^ k ≡ b = div-add-mod' b (2 ^ k) in
    let apart : k ≡ (k - n) + n = omega arith in
    let split : 2 ^ k ≡ 2 ^ (k - n) * 2 ^ n = ap (λ j. 2 ^ j) apart ∙ pow-add 2 (k - n) n in
    let whole = turns (b / 2 ^ k) (2 ^ (k - n)) (2 ^ n) (2 ^ k) split in
    sym (int_rem_euclid_is (negsuc b) (pos (2 ^ n)) (2 ^ n) ((b / 2 ^ k + 1) * 2 ^ (k - n)) f (pow_pos n) refl (omega (arith, ints)))

-- what a remainder lies below
pub rem_below : (z : ℤ) (f k : ℕ) → pos f ≡ int_rem_euclid z (pos (2 ^ k)) → f < 2 ^ k
rem_below (pos b) f k e = let same : f ≡ b % 2 ^ k = ap unsigned_abs e in let small = mod_below b (2 ^ k) (pow_pos k) in omega arith
rem_below (negsuc b) f k e =
    let same : f ≡ 2 ^ k - 1 - b % 2 ^ k = ap unsigned_abs e in let some = pow_pos k in omega arith

-- ---- by sign

-- a number from -2 ^ (n - 1) up, below 2 ^ (n - 1), in two's complement of its n lowest bits
signed_of_rem : (q : ℤ) (f n : ℕ) → 1 ≤ n → neg_ℤ (pos (2 ^ (n - 1))) ≤ℤ q → q <ℤ pos (2 ^ (n - 1)) → pos f ≡ int_rem_euclid q (pos (2 ^ n)) → signed n f ≡ q
signed_of_rem (pos b) f n o low high e =
    let same : f ≡ b % 2 ^ n = ap unsigned_abs e in
    let twice : 2 ^ n ≡ 2 * 2 ^ (n - 1) = ap (λ j. 2 ^ j) (let t : n ≡ 1 + (n - 1) = omega arith in t) ∙ pow-add 2 1 (n - 1) in
    let below : b < 2 ^ (n - 1) = omega (arith, ints) in
    let whole : f ≡ b = same ∙ mod-eq_of_lt (omega arith) in
    ap (λ y. cond (ltb y (2 ^ (n - 1))) (pos y) (pos y -ℤ pos (2 ^ n))) whole ∙ rw (lt-ltb b (2 ^ (n - 1)) below) refl
signed_of_rem (negsuc b) f n o low high e =
    let same : f ≡ 2 ^ n - 1 - b % 2 ^ n = ap unsigned_abs e in
    let twice : 2 ^ n ≡ 2 * 2 ^ (n - 1) = ap (λ j. 2 ^ j) (let t : n ≡ 1 + (n - 1) = omega arith in t) ∙ pow-add 2 1 (n - 1) in
    let below : b < 2 ^ (n - 1) = omega (arith, ints) in
    let rest : b % 2 ^ n ≡ b = mod-eq_of_lt (omega arith) in
    let far : 2 ^ (n - 1) ≤ f = omega arith in
    rw (le-ltb f (2 ^ (n - 1)) far) (omega (arith, ints))

-- ---- from the value to its bits from s up

pub quotient_low : (v : ℤ) (m s : ℕ) → neg_ℤ (pos (2 ^ (m + s))) ≤ℤ v → neg_ℤ (pos (2 ^ m)) ≤ℤ bits_from s v
quotient_low (pos b) m s h = omega (arith, ints)
quotient_low (negsuc b) m s h =
    let wide : b < 2 ^ (m + s) = omega (arith, ints) in
    let small = shr_below b m s wide in
    omega (arith, ints)

pub quotient_high : (v : ℤ) (m s : ℕ) → v <ℤ pos (2 ^ (m + s)) → bits_from s v <ℤ pos (2 ^ m)
quotient_high (pos b) m s h =
    let wide : b < 2 ^ (m + s) = omega (arith, ints) in
    let small = shr_below b m s wide in
    omega (arith, ints)
quotient_high (negsuc b) m s h = omega (arith, ints)

-- a number from 0 up, below 2 ^ k, is its k lowest bits
unsigned_of_rem : (q : ℤ) (f k : ℕ) → pos 0 ≤ℤ q → q <ℤ pos (2 ^ k) → pos f ≡ int_rem_euclid q (pos (2 ^ k)) → pos f ≡ q
unsigned_of_rem (pos b) f k low high e = let below : b < 2 ^ k = omega (arith, ints) in e ∙ ap pos (mod-eq_of_lt below)
unsigned_of_rem (negsuc b) f k low high e = absurd (omega (arith, ints))

quotient_from : (v : ℤ) (s : ℕ) → pos 0 ≤ℤ v → pos 0 ≤ℤ bits_from s v
quotient_from (pos b) s h = omega (arith, ints)
quotient_from (negsuc b) s h = absurd (omega (arith, ints))

-- ---- rows

-- bits s and up, k of them, of a value within bounds are read whole in n bits by a sign
abbrev pub reaches : Sign → ℕ → ℕ → ℕ → Option (ℤ × ℤ) → Bool
reaches sign n s k None = leb k n
reaches unsigned n s k (Some b) = leb k n && (le_z (pos 0) b.0 && le_z b.1 (pos (2 ^ (k + s))))
reaches twos_complement n s k (Some b) = leb 1 n && (leb n k && (le_z (neg_ℤ (pos (2 ^ (n - 1 + s)))) b.0 && le_z b.1 (pos (2 ^ (n - 1 + s)))))

-- the bits below `low`, which the instruction doesn't hold, are 0 in aligned values
abbrev pub is_aligned : ℕ → ℕ → ℕ → ℕ → Bool
is_aligned low s k a = eqb low 0 || (eqb s 0 && (eqb a (2 ^ low) && leb low k))

pub le_yes : (a b : ℤ) → le_z a b ≡ true → a ≤ℤ b
le_yes a b h = le_z_yes {a = a} {b = b} (T_from_true (le_z a b) h)

congruent : (sign : Sign) (n k : ℕ) (q : ℤ) (f : ℕ) → k ≤ n → pos f ≡ int_rem_euclid q (pos (2 ^ k)) → IsSameModulo k (number_of sign n (f % 2 ^ n)) q
congruent sign n k q f l e =
    let small = mod_below f (2 ^ n) (pow_pos n) in
    sym (rem_rem (number_of sign n (f % 2 ^ n)) (f % 2 ^ n) n k l (sym (number_rem sign n (f % 2 ^ n) small)))
    ∙ ap pos (mod_mod f n k l ∙ mod-eq_of_lt (rem_below q f k e))
    ∙ e

-- no bit of a number of k bits, read in n, is above them
part_below : (sign : Sign) (n k f : ℕ) → k ≤ n → f < 2 ^ k → number_of sign n (f % 2 ^ n) <ℤ pos (2 ^ k)
part_below unsigned n k f l small =
    subst (λ y. pos y <ℤ pos (2 ^ k)) (sym (mod-eq_of_lt (subst_below f k n small l))) (omega (arith, ints))
part_below twos_complement n k f l small =
    subst (λ y. signed n y <ℤ pos (2 ^ k)) (sym (mod-eq_of_lt (subst_below f k n small l)))
    (elim (signed_cases n f) [
      | inl a ↦ subst (λ z. z <ℤ pos (2 ^ k)) (sym a.1) (omega (arith, ints))
      | inr a ↦ let wide = subst_below f k n small l in
          subst (λ z. z <ℤ pos (2 ^ k)) (sym a.1) (let some = pow_pos k in omega (arith, ints))
    ])

pub number_agrees : (sign : Sign) (n s k : ℕ) (bounds : Option (ℤ × ℤ)) → reaches sign n s k bounds ≡ true
    → (v : ℤ) (f : ℕ) → IsWithin bounds v → pos f ≡ int_rem_euclid (bits_from s v) (pos (2 ^ k))
    → IsSameIn bounds k (number_of sign n (f % 2 ^ n)) (bits_from s v)
number_agrees unsigned n s k None h v f within e =
    let l = leb-true k n h in
    (congruent unsigned n k (bits_from s v) f l e, part_below unsigned n k f l (rem_below (bits_from s v) f k e))
number_agrees twos_complement n s k None h v f within e =
    let l = leb-true k n h in
    (congruent twos_complement n k (bits_from s v) f l e, part_below twos_complement n k f l (rem_below (bits_from s v) f k e))
number_agrees unsigned n s k (Some b) h v f within e =
    let all = and_parts (leb k n) (le_z (pos 0) b.0 && le_z b.1 (pos (2 ^ (k + s)))) h in
    let ends = and_parts (le_z (pos 0) b.0) (le_z b.1 (pos (2 ^ (k + s)))) all.1 in
    let short = leb-true k n all.0 in
    let low = le_yes (pos 0) b.0 ends.0 in
    let high = le_yes b.1 (pos (2 ^ (k + s))) ends.1 in
    let from : pos 0 ≤ℤ v = omega (arith, ints, within.0) in
    let below : v <ℤ pos (2 ^ (k + s)) = omega (arith, ints, within.1) in
    let small = rem_below (bits_from s v) f k e in
    ap pos (mod-eq_of_lt (subst_below f k n small short)) ∙ unsigned_of_rem (bits_from s v) f k (quotient_from v s from) (quotient_high v k s below) e
number_agrees twos_complement n s k (Some b) h v f within e =
    let all = and_parts (leb 1 n) (leb n k && (le_z (neg_ℤ (pos (2 ^ (n - 1 + s)))) b.0 && le_z b.1 (pos (2 ^ (n - 1 + s))))) h in
    let rest = and_parts (leb n k) (le_z (neg_ℤ (pos (2 ^ (n - 1 + s)))) b.0 && le_z b.1 (pos (2 ^ (n - 1 + s)))) all.1 in
    let ends = and_parts (le_z (neg_ℤ (pos (2 ^ (n - 1 + s)))) b.0) (le_z b.1 (pos (2 ^ (n - 1 + s)))) rest.1 in
    let low = le_yes (neg_ℤ (pos (2 ^ (n - 1 + s)))) b.0 ends.0 in
    let high = le_yes b.1 (pos (2 ^ (n - 1 + s))) ends.1 in
    let from : neg_ℤ (pos (2 ^ (n - 1 + s))) ≤ℤ v = omega (arith, ints, within.0) in
    let below : v <ℤ pos (2 ^ (n - 1 + s)) = omega (arith, ints, within.1) in
    signed_of_rem (bits_from s v) (f % 2 ^ n) n (leb-true 1 n all.0) (quotient_low v (n - 1) s from) (quotient_high v (n - 1) s below)
    (rem_rem (bits_from s v) f k n (leb-true n k rest.0) e)

pub from_zero : (v : ℤ) → bits_from 0 v ≡ v
from_zero (pos b) = ap pos (omega arith)
from_zero (negsuc b) = ap negsuc (omega arith)

-- an aligned value has no bits that the instruction doesn't hold
whole_field : (low s k a : ℕ) → is_aligned low s k a ≡ true → (v : ℤ) (f : ℕ) → int_rem_euclid v (pos a) ≡ pos 0 → pos f ≡ int_rem_euclid (bits_from s v) (pos (2 ^ k))
    → f - f % 2 ^ low ≡ f
whole_field low s k a h v f z e =
    elim (or_cases (eqb low 0) (eqb s 0 && (eqb a (2 ^ low) && leb low k)) h) [
      | inl none ↦ ap (λ l. f - f % 2 ^ l) (eqb-true low 0 none) ∙ omega arith
      | inr some ↦
          let start = and_parts (eqb s 0) (eqb a (2 ^ low) && leb low k) some in
          let rest = and_parts (eqb a (2 ^ low)) (leb low k) start.1 in
          let is_value : bits_from s v ≡ v = ap (λ t. bits_from t v) (eqb-true s 0 start.0) ∙ from_zero v in
          let of_value : pos f ≡ int_rem_euclid v (pos (2 ^ k)) = e ∙ ap (λ q. int_rem_euclid q (pos (2 ^ k))) is_value in
          let clear : f % 2 ^ low ≡ 0 =
          ap unsigned_abs (rem_rem v f k low (leb-true low k rest.1) of_value ∙ ap (λ m. int_rem_euclid v (pos m)) (sym (eqb-true a (2 ^ low) rest.0)) ∙ z) in
          omega arith
    ]

-- ---- the law of a form of one field

-- what the law requires of the bits from s up, below e, of the bounds and the alignment
abbrev pub is_agreeing : Sign → ℕ → ℕ → ℕ → ℕ → Option (ℤ × ℤ) → ℕ → Bool
is_agreeing sign n low s e bounds a = leb (e - s) 64 && (is_aligned low s (e - s) a && reaches sign n s (e - s) bounds)

-- a number of n bits whose bits below `low` are dropped
pub sum_agrees : (sign : Sign) (n low s e : ℕ) (bounds : Option (ℤ × ℤ)) (a : ℕ) → is_agreeing sign n low s e bounds a ≡ true
    → (v : ℤ) (f sum : ℕ) → IsWithin bounds v → int_rem_euclid v (pos a) ≡ pos 0 → IsFieldOf v s e f → (f < 2 ^ 64 → sum ≡ (f - f % 2 ^ low) % 2 ^ n)
    → IsSameIn bounds (e - s) (number_of sign n sum) (bits_from s v)
sum_agrees sign n low s e bounds a h v f sum within z is_field is =
    let all = and_parts (leb (e - s) 64) (is_aligned low s (e - s) a && reaches sign n s (e - s) bounds) h in
    let rest = and_parts (is_aligned low s (e - s) a) (reaches sign n s (e - s) bounds) all.1 in
    let small = subst_below f (e - s) 64 (rem_below (bits_from s v) f (e - s) is_field) (leb-true (e - s) 64 all.0) in
    let same : sum ≡ f % 2 ^ n = is small ∙ ap (λ y. y % 2 ^ n) (whole_field low s (e - s) a rest.0 v f z is_field) in
    subst (λ y. IsSameIn bounds (e - s) (number_of sign n y) (bits_from s v)) (sym same) (number_agrees sign n s (e - s) bounds rest.1 v f within is_field)

-- a row of a form of one field
abbrev pub layout_check : Layout → ℕ → ℕ → Option (ℤ × ℤ) → ℕ → Bool
layout_check (one_field d) s e bounds a = is_agreeing d.machine d.bits d.low s e bounds a
layout_check (own_form form) s e bounds a = false

pub layout_agrees : (l : Layout) → is_sound_layout l ≡ true → (s e : ℕ) (bounds : Option (ℤ × ℤ)) (a : ℕ) → layout_check l s e bounds a ≡ true
    → (v : ℤ) (f before after : ℕ) → IsWithin bounds v → int_rem_euclid v (pos a) ≡ pos 0 → IsFieldOf v s e f
    → IsClear ((form_of l).places before) before → Written (form_of l) f (int_lt v (pos 0)) before after
    → IsSameIn bounds (e - s) ((form_of l).machine after) (bits_from s v)
layout_agrees (one_field d) sound s e bounds a h v f before after within z is_field clear laid =
    sum_agrees d.machine d.bits d.low s e bounds a h v f (place_sum d.places after) within z is_field (λ small. laid_field d (sound_field d sound) f before after small laid clear)
layout_agrees (own_form form) sound s e bounds a h v f before after within z is_field clear laid = cc
