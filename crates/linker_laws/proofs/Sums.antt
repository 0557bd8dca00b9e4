-- Sums of addresses modulo 2 ^ 64, of numbers in parts.
use Rattle.linker_laws.proofs.Imports.{FitsSigned, IsAddress, ap, arith, bits_from, cases_lt, cast_negative, cast_signed, difference_64, div-add-mod', inl, inr, int_rem_euclid, int_rem_euclid_is, ints, mod_below, negsuc, page, pos, pow_pos, refl, rem_rem, signed, signed_cases, subst, suc, sum_64, sym, to_z_pos, unsigned_abs, w64, wrapped, ℕ, ℤ, ◌%◌, ◌*ℤ◌, ◌*◌, ◌+ℤ◌, ◌+◌, ◌-◌, ◌/◌, ◌<◌, ◌^◌, ◌∙◌, ◌≡◌}
use Rattle.std.proofs.Math.Facts.{sfits_to_z}

-- ---- addresses of sums

-- A sum is a number modulo 2 ^ 64: it is that number less some times 2 ^ 64.
pub record Lifted (z : ℤ) : Type 0 where
  pub times : ℕ
  pub number : ℕ
  pub is : z +ℤ pos (times * 2 ^ 64) ≡ pos number

pub lift : (z : ℤ) → Lifted z
lift (pos n) = record { times = 0; number = n; is = omega (arith, ints) }
lift (negsuc n) =
    record {
      times = n / 2 ^ 64 + 1;
      number = (n / 2 ^ 64 + 1) * 2 ^ 64 - suc n;
      is = omega (arith, ints);
    }

pub lifted_is : (z : ℤ) (times number : ℕ) → z +ℤ pos (times * 2 ^ 64) ≡ pos number
    → IsAddress z (number % 2 ^ 64)
lifted_is z times number e =
    int_rem_euclid_is z (pos (2 ^ 64)) (2 ^ 64) times number (omega arith) refl e

pub wrapped_is : (z : ℤ) (t n : ℕ) → z +ℤ pos (t * 2 ^ 64) ≡ pos n → wrapped z ≡ n % 2 ^ 64
wrapped_is z t n e = ap unsigned_abs (lifted_is z t n e)

pub plus : (z : ℤ) (t m : ℕ) → IsAddress z t → IsAddress (z +ℤ pos m) ((t + m) % 2 ^ 64)
plus z t m h =
    let l = lift z in
    let there : l.number % 2 ^ 64 ≡ t =
    ap unsigned_abs (sym (lifted_is z l.times l.number l.is) ∙ h) in
    let is = l.is in
    lifted_is (z +ℤ pos m) l.times (l.number + m) (omega (arith, ints))
    ∙ ap pos (let same : (l.number + m) % 2 ^ 64 ≡ (t + m) % 2 ^ 64 = omega arith in same)

pub taken_off : (z : ℤ) (m t s : ℕ) → IsAddress (z +ℤ pos m) t → s < 2 ^ 64
    → (s + m) % 2 ^ 64 ≡ t → IsAddress z s
taken_off z m t s h small e =
    let l = lift z in
    let is = l.is in
    let there : (l.number + m) % 2 ^ 64 ≡ t =
    ap unsigned_abs (sym (lifted_is (z +ℤ pos m) l.times (l.number + m) (omega (arith, ints)))
    ∙ h) in
    lifted_is z l.times l.number l.is
    ∙ ap pos (let same : l.number % 2 ^ 64 ≡ s = omega arith in same)

-- ---- values

-- n leads from p to s
abbrev pub Leads : ℕ → ℕ → ℕ → Type 0
Leads p n s = (p + n) % 2 ^ 64 ≡ s

pub difference_leads : (s p : ℕ) → s < 2 ^ 64 → p < 2 ^ 64 → Leads p (difference_64 s p) s
difference_leads s p small place = omega arith

pub itself_leads : (n : ℕ) → n < 2 ^ 64 → Leads 0 n n
itself_leads n small = omega arith

pub sum_below : (a b : ℕ) → sum_64 a b < 2 ^ 64
sum_below a b = mod_below (a + b) (2 ^ 64) (omega arith)

pub difference_below : (a b : ℕ) → difference_64 a b < 2 ^ 64
difference_below a b = mod_below (a + (2 ^ 64 - b)) (2 ^ 64) (omega arith)

pub cast_is : (n : ℕ) → n < 2 ^ 64 → IsAddress (cast_signed w64 n) n
cast_is n below =
    elim (cases_lt n (2 ^ 63)) [
      | inl low ↦ ap (λ z. int_rem_euclid z (pos (2 ^ 64))) (to_z_pos w64 n low)
          ∙ ap pos (let e : n % 2 ^ 64 ≡ n = omega arith in e)
      | inr high ↦
          ap (λ z. int_rem_euclid z (pos (2 ^ 64))) (cast_negative n below high)
          ∙ int_rem_euclid_is (negsuc (2 ^ 64 - suc n)) (pos (2 ^ 64)) (2 ^ 64) 1 n
          (omega arith) refl (omega (arith, ints))
          ∙ ap pos (let e : n % 2 ^ 64 ≡ n = omega arith in e)
    ]

pub small_cast : (n : ℕ) → n < 2 ^ 64 → FitsSigned w64 (cast_signed w64 n)
small_cast n h = sfits_to_z (record { fits = h })

-- a number's low bits are those of its value
pub cast_low : (n k : ℕ) → n < 2 ^ 64 → k < 65
    → int_rem_euclid (cast_signed w64 n) (pos (2 ^ k)) ≡ pos (n % 2 ^ k)
cast_low n k below short =
    sym (rem_rem (cast_signed w64 n) n 64 k (omega arith) (sym (cast_is n below)))

swapped : (p : ℕ) (v : ℤ) → pos p +ℤ v ≡ v +ℤ pos p
swapped p v = omega (arith, ints)

pub goes : (p n s : ℕ) → n < 2 ^ 64 → Leads p n s → IsAddress (pos p +ℤ cast_signed w64 n) s
goes p n s below leads =
    ap (λ z. int_rem_euclid z (pos (2 ^ 64))) (swapped p (cast_signed w64 n))
    ∙ plus (cast_signed w64 n) n p (cast_is n below)
    ∙ ap pos (let same : (n + p) % 2 ^ 64 ≡ s = omega arith in same)

pub once : (z : ℤ) → z *ℤ pos 1 ≡ z
once z = omega (arith, ints)

-- ---- parts

-- the bits from k up, and those below
pub euclid : (v : ℤ) (k : ℕ)
    → (bits_from k v *ℤ pos (2 ^ k)) +ℤ int_rem_euclid v (pos (2 ^ k)) ≡ v
euclid (pos b) k = ap pos (div-add-mod' b (2 ^ k))
euclid (negsuc b) k =
    let some = pow_pos k in
    let rest = mod_below b (2 ^ k) some in
    let parts = div-add-mod' b (2 ^ k) in
    let turn : suc (b / 2 ^ k) * 2 ^ k ≡ b / 2 ^ k * 2 ^ k + 2 ^ k = turned (b / 2 ^ k) (2 ^ k) in
    omega (arith, ints)
  where
    turned : (q d : ℕ) → suc q * d ≡ q * d + d
    turned q d = grind arith

onto : (p : ℕ) (h v : ℤ) (m : ℕ) → h +ℤ pos m ≡ v → (pos p +ℤ h) +ℤ pos m ≡ pos p +ℤ v
onto p h v m e = omega (arith, ints)

-- the bits from k up of a value go as far as the value without its low bits
pub high_part : (k p n t s : ℕ) (h : ℤ) → k < 65 → n < 2 ^ 64 → Leads p n t
    → h ≡ bits_from k (cast_signed w64 n) → s < 2 ^ 64 → (s + n % 2 ^ k) % 2 ^ 64 ≡ t
    → IsAddress (pos p +ℤ (h *ℤ pos (2 ^ k))) s
high_part k p n t s h short below leads e small there =
    let v = cast_signed w64 n in
    let whole : (h *ℤ pos (2 ^ k)) +ℤ pos (n % 2 ^ k) ≡ v =
    ap (λ x. (x *ℤ pos (2 ^ k)) +ℤ pos (n % 2 ^ k)) e
    ∙ ap (λ x. (bits_from k v *ℤ pos (2 ^ k)) +ℤ x) (sym (cast_low n k below short))
    ∙ euclid v k in
    taken_off (pos p +ℤ (h *ℤ pos (2 ^ k))) (n % 2 ^ k) t s
    (ap (λ z. int_rem_euclid z (pos (2 ^ 64))) (onto p (h *ℤ pos (2 ^ k)) v (n % 2 ^ k) whole)
    ∙ goes p n t below leads) small there

-- of a multiple, as far as the value
pub multiple_part : (k p n t : ℕ) (h : ℤ) → k < 65 → n < 2 ^ 64 → Leads p n t
    → h ≡ bits_from k (cast_signed w64 n) → n % 2 ^ k ≡ 0 → t < 2 ^ 64
    → IsAddress (pos p +ℤ (h *ℤ pos (2 ^ k))) t
multiple_part k p n t h short below leads e none small =
    high_part k p n t t h short below leads e small
    (ap (λ r. (t + r) % 2 ^ 64) none ∙ (let same : (t + 0) % 2 ^ 64 ≡ t = omega arith in same))

-- a low part with the rounding taken off
pub low_part : (z low : ℤ) (u r m s : ℕ) → IsAddress z u → low +ℤ pos r ≡ pos m → s < 2 ^ 64
    → (s + r) % 2 ^ 64 ≡ (u + m) % 2 ^ 64 → IsAddress (z +ℤ low) s
low_part z low u r m s high e small same =
    taken_off (z +ℤ low) r ((u + m) % 2 ^ 64) s
    (ap (λ y. int_rem_euclid y (pos (2 ^ 64))) (regrouped z low r m e) ∙ plus z u m high) small same
  where
    regrouped : (z low : ℤ) (r m : ℕ) → low +ℤ pos r ≡ pos m → (z +ℤ low) +ℤ pos r ≡ z +ℤ pos m
    regrouped z low r m e = omega (arith, ints)

-- low parts in two's complement, with the rounding added
pub signed_12 : (l : ℕ) → l < 2 ^ 12 → signed 12 l +ℤ pos 0x800 ≡ pos ((l + 0x800) % 2 ^ 12)
signed_12 l small =
    elim (signed_cases 12 l) [
      | inl a ↦ let low = a.0 in ap (λ z. z +ℤ pos 0x800) a.1 ∙ omega (arith, ints)
      | inr a ↦ let high = a.0 in ap (λ z. z +ℤ pos 0x800) a.1 ∙ omega (arith, ints)
    ]

pub signed_16 : (l : ℕ) → l < 2 ^ 16 → signed 16 l +ℤ pos 0x8000 ≡ pos ((l + 0x8000) % 2 ^ 16)
signed_16 l small =
    elim (signed_cases 16 l) [
      | inl a ↦ let low = a.0 in ap (λ z. z +ℤ pos 0x8000) a.1 ∙ omega (arith, ints)
      | inr a ↦ let high = a.0 in ap (λ z. z +ℤ pos 0x8000) a.1 ∙ omega (arith, ints)
    ]

-- ---- a high and a low part

rest_below : (n d : ℕ) → n < 2 ^ 64 → n % d < 2 ^ 64
rest_below n d below = let parts = div-add-mod' n d in omega arith

-- The high part of a number with rounding, and a low part from which the rounding is taken off.
pub halves_sum : (k r p s n m : ℕ) (h low : ℤ) → k < 65 → r < 2 ^ 64 → s < 2 ^ 64 → n < 2 ^ 64
    → Leads p n s → m ≡ sum_64 n r → h ≡ bits_from k (cast_signed w64 m)
    → low +ℤ pos r ≡ pos (m % 2 ^ k)
    → IsAddress ((pos p +ℤ (h *ℤ pos (2 ^ k))) +ℤ low) s
halves_sum k r p s n m h low short rounding small below leads is e f =
    let l = m % 2 ^ k in
    let m_below : m < 2 ^ 64 = subst (λ x. x < 2 ^ 64) (sym is) (sum_below n r) in
    let l_below : l < 2 ^ 64 = rest_below m (2 ^ k) m_below in
    let t = sum_64 s r in
    let u = difference_64 t l in
    let there : Leads p m t = rounded_leads p n s r m leads is in
    low_part (pos p +ℤ (h *ℤ pos (2 ^ k))) low u r l s
    (high_part k p m t u h short m_below there e (difference_below t l)
    (back t l (sum_below s r) l_below)) f small (sym (back t l (sum_below s r) l_below))
  where
    rounded_leads : (p n s r m : ℕ) → Leads p n s → m ≡ sum_64 n r → Leads p m (sum_64 s r)
    rounded_leads p n s r m leads is = omega arith

    back : (t l : ℕ) → t < 2 ^ 64 → l < 2 ^ 64 → (difference_64 t l + l) % 2 ^ 64 ≡ t
    back t l small below = omega arith

pub page_below : (t : ℕ) → t < 2 ^ 64 → page t < 2 ^ 64
page_below t small = omega arith

pub page_parts : (t : ℕ) → t < 2 ^ 64 → (page t + t % 2 ^ 12) % 2 ^ 64 ≡ t
page_parts t small = omega arith

-- The page of a place, the distance to the page of a rounded target, and a low part from which the
-- rounding is taken off.
pub page_halves_sum : (r p s m : ℕ) (h low : ℤ) → r < 2 ^ 64 → s < 2 ^ 64 → p < 2 ^ 64
    → m ≡ difference_64 (page (sum_64 s r)) (page p) → h ≡ bits_from 12 (cast_signed w64 m)
    → low +ℤ pos r ≡ pos (sum_64 s r % 2 ^ 12)
    → IsAddress ((pos (page p) +ℤ (h *ℤ pos 4096)) +ℤ low) s
page_halves_sum r p s m h low rounding small place is e f =
    let x = sum_64 s r in
    let x_below : x < 2 ^ 64 = sum_below s r in
    let m_below : m < 2 ^ 64 =
    subst (λ y. y < 2 ^ 64) (sym is) (difference_below (page x) (page p)) in
    low_part (pos (page p) +ℤ (h *ℤ pos 4096)) low (page x) r (x % 2 ^ 12) s
    (multiple_part 12 (page p) m (page x) h (omega arith) m_below (leads x p m x_below place is) e
    (pages x p m x_below place is) (page_below x x_below)) f small (sym (page_parts x x_below))
  where
    leads : (x p m : ℕ) → x < 2 ^ 64 → p < 2 ^ 64 → m ≡ difference_64 (page x) (page p)
        → Leads (page p) m (page x)
    leads x p m small place is = omega arith

    pages : (x p m : ℕ) → x < 2 ^ 64 → p < 2 ^ 64 → m ≡ difference_64 (page x) (page p)
        → m % 2 ^ 12 ≡ 0
    pages x p m small place is = omega arith

-- ---- a high part alone

-- what the high part of the distance to a target with rounding comes to
pub high_sum : (k r p s n : ℕ) (h : ℤ) → k < 65 → p < 2 ^ 64
    → n ≡ difference_64 (sum_64 s r) p → h ≡ bits_from k (cast_signed w64 n)
    → IsAddress (pos p +ℤ (h *ℤ pos (2 ^ k)))
    (difference_64 (sum_64 s r) (difference_64 (sum_64 s r) p % 2 ^ k))
high_sum k r p s n h short place is e =
    let t = sum_64 s r in
    let small : t < 2 ^ 64 = sum_below s r in
    let below : n < 2 ^ 64 = subst (λ x. x < 2 ^ 64) (sym is) (difference_below t p) in
    let leads : Leads p n t =
    subst (λ x. Leads p x t) (sym is) (difference_leads t p small place) in
    let low = n % 2 ^ k in
    let back : (difference_64 t low + low) % 2 ^ 64 ≡ t =
    there t low small (rest_below n (2 ^ k) below) in
    high_part k p n t (difference_64 t low) h short below leads e (difference_below t low) back
    ∙ ap (λ x. pos (difference_64 t (x % 2 ^ k))) is
  where
    there : (t l : ℕ) → t < 2 ^ 64 → l < 2 ^ 64 → (difference_64 t l + l) % 2 ^ 64 ≡ t
    there t l small below = omega arith

-- ---- words that follow one another

pub sum_on : (a m n : ℕ) → sum_64 (sum_64 a m) n ≡ sum_64 a (m + n)
sum_on a m n = omega arith

pub eight : (a : ℕ) → sum_64 (sum_64 a 4) 4 ≡ sum_64 a 8
eight a = omega arith

pub three_words : (a : ℕ) → sum_64 (sum_64 (sum_64 a 4) 4) 4 ≡ sum_64 a 12
three_words a = omega arith

pub sum_zero : (a : ℕ) → a < 2 ^ 64 → sum_64 a 0 ≡ a
sum_zero a small = omega arith
