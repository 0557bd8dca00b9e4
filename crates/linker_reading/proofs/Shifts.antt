-- Known bits of a number, and of one that is moved by a rounding.
use Rattle.linker_reading.proofs.Imports.{FieldHolds, FieldValue, IsProper, ap, arith, bit_at, bit_at_shr, div-mul-add, field, mod-add-mod, mod-eq_of_lt, mod-pow-add, mod_below, mod_low, mod_mod, mul-add-mod_self_right, pow-add, pow_pos, same_fields, subst, sum_64, sym, ℕ, ◌%◌, ◌*◌, ◌+◌, ◌-◌, ◌/◌, ◌<◌, ◌^◌, ◌∙◌, ◌≡◌, ◌≤◌}

whole : (k : ℕ) → k ≤ 64 → 2 ^ 64 ≡ 2 ^ (64 - k) * 2 ^ k
whole k most =
    ap (λ j. 2 ^ j) (let same : 64 ≡ (64 - k) + k = omega arith in same) ∙ pow-add 2 (64 - k) k

-- 2 ^ 64 more
turned : (x k : ℕ) → k ≤ 64 → (2 ^ 64 + x) % 2 ^ k ≡ x % 2 ^ k
turned x k most =
    ap (λ y. (y + x) % 2 ^ k) (whole k most) ∙ mul-add-mod_self_right (2 ^ (64 - k)) (2 ^ k) x

back : (x r k : ℕ) → r ≤ 2 ^ 64 → k ≤ 64 → ((x + r) % 2 ^ k + (2 ^ 64 - r)) % 2 ^ k ≡ x % 2 ^ k
back x r k small most =
    mod-add-mod (x + r) (2 ^ k) (2 ^ 64 - r)
    ∙ ap (λ y. y % 2 ^ k) (let sum : x + r + (2 ^ 64 - r) ≡ 2 ^ 64 + x = omega arith in sum)
    ∙ turned x k most

cancel : (x y r k : ℕ) → r ≤ 2 ^ 64 → k ≤ 64 → (x + r) % 2 ^ k ≡ (y + r) % 2 ^ k
    → x % 2 ^ k ≡ y % 2 ^ k
cancel x y r k small most e =
    sym (back x r k small most) ∙ ap (λ z. (z + (2 ^ 64 - r)) % 2 ^ k) e ∙ back y r k small most

pub from_zero : (n e : ℕ) → field n 0 e ≡ n % 2 ^ e
from_zero n e =
    let one : n / 2 ^ 0 ≡ n = omega arith in
    ap (λ y. y % 2 ^ (e - 0)) one
    ∙ ap (λ k. n % 2 ^ k) (let same : e - 0 ≡ e = omega arith in same)

low_sum : (n r e : ℕ) → e ≤ 64 → field (sum_64 n r) 0 e ≡ (n + r) % 2 ^ e
low_sum n r e most = from_zero ((n + r) % 2 ^ 64) e ∙ mod_mod (n + r) 64 e most

plain : (n e : ℕ) → e ≤ 64 → field (sum_64 n 0) 0 e ≡ n % 2 ^ e
plain n e most =
    low_sum n 0 e most ∙ ap (λ y. y % 2 ^ e) (let same : n + 0 ≡ n = omega arith in same)

-- the bits with the rounding taken off, and added again
added : (b r e : ℕ) → r ≤ 2 ^ 64 → e ≤ 64 → b < 2 ^ e → (b + (2 ^ 64 - r) + r) % 2 ^ e ≡ b
added b r e small most few =
    ap (λ y. y % 2 ^ e) (let sum : b + (2 ^ 64 - r) + r ≡ 2 ^ 64 + b = omega arith in sum)
    ∙ turned b e most ∙ mod-eq_of_lt few

pub taken_off : (n b r e : ℕ) → r ≤ 2 ^ 64 → e ≤ 64 → b < 2 ^ e
    → (field (sum_64 n 0) 0 e ≡ field ((b + (2 ^ 64 - r)) % 2 ^ 64) 0 e
    → field (sum_64 n r) 0 e ≡ b)
    × (field (sum_64 n r) 0 e ≡ b
    → field (sum_64 n 0) 0 e ≡ field ((b + (2 ^ 64 - r)) % 2 ^ 64) 0 e)
taken_off n b r e small most few =
    let y = b + (2 ^ 64 - r) in
    let low : field (y % 2 ^ 64) 0 e ≡ y % 2 ^ e = from_zero (y % 2 ^ 64) e ∙ mod_mod y 64 e most in (
      (λ h. let same : n % 2 ^ e ≡ y % 2 ^ e = sym (plain n e most) ∙ h ∙ low in
          low_sum n r e most ∙ sym (mod-add-mod n (2 ^ e) r) ∙ ap (λ z. (z + r) % 2 ^ e) same
          ∙ mod-add-mod y (2 ^ e) r ∙ added b r e small most few),
      (λ h. plain n e most
          ∙ cancel n y r e small most (sym (low_sum n r e most) ∙ h ∙ sym (added b r e small most few))
          ∙ sym low),
    )

-- bits from k up and those below
pub joined : (n r h l k e : ℕ) → k ≤ e → e ≤ 64 → r ≤ 2 ^ 64 → l < 2 ^ k
    → (field (sum_64 n r) 0 e ≡ h * 2 ^ k + (l + r) % 2 ^ 64 % 2 ^ k
    → (field (sum_64 n r) k e ≡ h) × (field (sum_64 n 0) 0 k ≡ l))
    × ((field (sum_64 n r) k e ≡ h) × (field (sum_64 n 0) 0 k ≡ l)
    → field (sum_64 n r) 0 e ≡ h * 2 ^ k + (l + r) % 2 ^ 64 % 2 ^ k)
joined n r h l k e order most small few =
    let u = sum_64 n r in
    let w = (l + r) % 2 ^ 64 % 2 ^ k in
    let below = mod_below ((l + r) % 2 ^ 64) (2 ^ k) (pow_pos k) in
    let rest = mod_below u (2 ^ k) (pow_pos k) in
    let parts : u % 2 ^ e ≡ u / 2 ^ k % 2 ^ (e - k) * 2 ^ k + u % 2 ^ k =
    ap (λ j. u % 2 ^ j) (let same : e ≡ (e - k) + k = omega arith in same) ∙ mod-pow-add u (e - k) k in
    let is : w ≡ (l + r) % 2 ^ k = mod_mod (l + r) 64 k (omega arith) in
    let of_u : u % 2 ^ k ≡ (n + r) % 2 ^ k = mod_mod (n + r) 64 k (omega arith) in (
      (λ e_is. let both : u / 2 ^ k % 2 ^ (e - k) * 2 ^ k + u % 2 ^ k ≡ h * 2 ^ k + w =
          sym parts ∙ sym (from_zero u e) ∙ e_is in
          let high : u / 2 ^ k % 2 ^ (e - k) ≡ h =
          sym (div-mul-add (u / 2 ^ k % 2 ^ (e - k)) (2 ^ k) (u % 2 ^ k) rest)
          ∙ ap (λ y. y / 2 ^ k) both ∙ div-mul-add h (2 ^ k) w below in
          let low : u % 2 ^ k ≡ w =
          sym (mod_low (u / 2 ^ k % 2 ^ (e - k)) k (u % 2 ^ k) rest) ∙ ap (λ y. y % 2 ^ k) both
          ∙ mod_low h k w below in (
            high,
            plain n k (omega arith)
                ∙ cancel n l r k small (omega arith) (sym of_u ∙ low ∙ is) ∙ mod-eq_of_lt few,
          )),
      (λ p. let same : n % 2 ^ k ≡ l = sym (plain n k (omega arith)) ∙ p.1 in
          let low : u % 2 ^ k ≡ w =
          of_u ∙ sym (mod-add-mod n (2 ^ k) r) ∙ ap (λ y. (y + r) % 2 ^ k) same ∙ sym is in
          from_zero u e ∙ parts ∙ ap (λ y. y * 2 ^ k + u % 2 ^ k) p.0 ∙ ap (λ y. h * 2 ^ k + y) low),
    )

pub total_below : (h w k e : ℕ) → h < 2 ^ (e - k) → w < 2 ^ k → k ≤ e → h * 2 ^ k + w < 2 ^ e
total_below h w k e few small order =
    let all : 2 ^ e ≡ 2 ^ (e - k) * 2 ^ k =
    ap (λ j. 2 ^ j) (let same : e ≡ (e - k) + k = omega arith in same) ∙ pow-add 2 (e - k) k in
    subst (λ y. h * 2 ^ k + w < y) (sym all) (product h w (2 ^ (e - k)) (2 ^ k) few small)
  where
    product : (h w m d : ℕ) → h < m → w < d → h * d + w < m * d
    product h w m d few small = grind arith

module _ (high low : FieldValue) (a : IsProper high) (b : IsProper low)
    (start : low.known.start ≡ 0) (end : low.known.end ≡ high.known.start) where
  -- a low half has n bits
  pub few : low.bits < 2 ^ low.known.end
  few =
      let size : low.known.end - low.known.start ≡ low.known.end = omega arith in
      subst (λ k. low.bits < 2 ^ k) size b.small

  pub above : high.bits < 2 ^ (high.known.end - low.known.end)
  above = subst (λ k. high.bits < 2 ^ (high.known.end - k)) (sym end) a.small

  pub bits_below : (w : ℕ) → w < 2 ^ low.known.end
      → high.bits * 2 ^ low.known.end + w < 2 ^ high.known.end
  bits_below w small =
      let order = a.some in
      total_below high.bits w low.known.end high.known.end above small (omega arith)

  pub joined_halves : high.rounding ≤ 2 ^ 64 → low.rounding ≡ 0 → (n : ℕ)
      → (field (sum_64 n high.rounding) 0 high.known.end
      ≡ high.bits * 2 ^ low.known.end + (low.bits + high.rounding) % 2 ^ 64 % 2 ^ low.known.end
      → FieldHolds high n × FieldHolds low n)
      × (FieldHolds high n × FieldHolds low n → field (sum_64 n high.rounding) 0 high.known.end
      ≡ high.bits * 2 ^ low.known.end + (low.bits + high.rounding) % 2 ^ 64 % 2 ^ low.known.end)
  joined_halves small zero n =
      let order = a.some in
      let p = joined n high.rounding high.bits low.bits low.known.end high.known.end (omega arith)
      a.inside small few in
      let of_high : field (sum_64 n high.rounding) low.known.end high.known.end
      ≡ field (sum_64 n high.rounding) high.known.start high.known.end =
      ap (λ s. field (sum_64 n high.rounding) s high.known.end) end in
      let of_low : field (sum_64 n 0) 0 low.known.end
      ≡ field (sum_64 n low.rounding) low.known.start low.known.end =
      ap (λ r. field (sum_64 n r) 0 low.known.end) (sym zero)
      ∙ ap (λ s. field (sum_64 n low.rounding) s low.known.end) (sym start) in (
        (λ h. let q = p.0 h in (sym of_high ∙ q.0, sym of_low ∙ q.1)),
        (λ q. p.1 (of_high ∙ q.0, of_low ∙ q.1)),
      )

-- ---- pages

-- a page and a number are from bit 12 up the address and the number's page
pub page_bits : (x c s e : ℕ) → 12 ≤ s
    → field (sum_64 (x - x % 4096) c) s e ≡ field (sum_64 x (c - c % 4096)) s e
page_bits x c s e above =
    let same : sum_64 (x - x % 4096) c / 2 ^ 12 ≡ sum_64 x (c - c % 4096) / 2 ^ 12 = omega arith in
    same_fields (sum_64 (x - x % 4096) c) (sum_64 x (c - c % 4096)) s e (λ w from below.
    let place : 12 + (w - 12) ≡ w = omega arith in
    sym (ap (bit_at (sum_64 (x - x % 4096) c)) place) ∙ sym (bit_at_shr (sum_64 (x - x % 4096) c) 12 (w - 12))
    ∙ ap (λ y. bit_at y (w - 12)) same ∙ bit_at_shr (sum_64 x (c - c % 4096)) 12 (w - 12)
    ∙ ap (bit_at (sum_64 x (c - c % 4096))) place)
