-- Where `adr` reaches an address, its page is near.
use Rattle.linker_laws.proofs.Imports.{AreAddresses, IsWithin, Operands, Signed, Some, ap, arith, bit_bounds, cases_lt, cast_negative, cast_signed, difference_64, following, inl, inr, ints, page, pos, subst, sum_64, sym, symbol_address, to_z_pos, w64, ℕ, ℤ, ◌+ℤ◌, ◌-◌, ◌<◌, ◌^◌, ◌∙◌, ◌≡◌, ◌≤◌, ◌⊎◌}
use Rattle.linker_laws.proofs.Relocated.{addresses as are_addresses}
use Rattle.linker_laws.proofs.Sums.{difference_below, sum_below}

-- a number of 64 bits in two's complement
in_two_ways : (n : ℕ) → n < 2 ^ 64
    → ((n < 2 ^ 63) × (cast_signed w64 n ≡ pos n)) ⊎ ((2 ^ 63 ≤ n) × (cast_signed w64 n +ℤ pos (2 ^ 64) ≡ pos n))
in_two_ways n small =
    elim (cases_lt n (2 ^ 63)) [
      | inl below ↦ inl (below, to_z_pos w64 n below)
      | inr above ↦ inr (above, ap (λ z. z +ℤ pos (2 ^ 64)) (cast_negative n small above) ∙ omega (arith, ints, small))
    ]

-- what is less than 2 ^ 20 away
close : (n : ℕ) (z : ℤ) → n < 2 ^ 64 → cast_signed w64 n ≡ z → IsWithin (Some (bit_bounds 21 Signed)) z
    → (n < 2 ^ 20) ⊎ (2 ^ 64 - 2 ^ 20 ≤ n)
close n z small is within =
    elim (in_two_ways n small) [
      | inl a ↦ inl (let e = sym a.1 ∙ is in let upper = within.1 in omega (arith, ints))
      | inr a ↦ inr (let e = a.1 in let lower = within.0 in omega (arith, ints))
    ]

-- then the pages are, also from a place a few bytes before
pages : (t p q : ℕ) → t < 2 ^ 64 → p < 2 ^ 64 → q < 2 ^ 64 → difference_64 q p < 5
    → (difference_64 t q < 2 ^ 20) ⊎ (2 ^ 64 - 2 ^ 20 ≤ difference_64 t q)
    → (difference_64 (page t) (page p) < 2 ^ 32) ⊎ (2 ^ 64 - 2 ^ 32 ≤ difference_64 (page t) (page p))
pages t p q small small' small'' following near =
    elim (cases_lt (difference_64 (page t) (page p)) (2 ^ 32)) [
      | inl below ↦ inl below
      | inr above ↦ inr (elim near [
        | inl a ↦ omega arith
        | inr a ↦ omega arith
      ])
    ]

wide : (n : ℕ) → n < 2 ^ 64 → (n < 2 ^ 32) ⊎ (2 ^ 64 - 2 ^ 32 ≤ n)
    → IsWithin (Some (bit_bounds 33 Signed)) (cast_signed w64 n)
wide n small far =
    elim (in_two_ways n small) [
      | inl a ↦
          let e = a.1 in
          elim far [
            | inl below ↦ (omega (arith, ints), omega (arith, ints))
            | inr above ↦ (let b = a.0 in (omega (arith, ints), omega (arith, ints)))
          ]
      | inr a ↦
          let e = a.1 in
          elim far [
            | inl below ↦ (let b = a.0 in (omega (arith, ints), omega (arith, ints)))
            | inr above ↦ (omega (arith, ints), omega (arith, ints))
          ]
    ]

pub near : (t p q : ℕ) → t < 2 ^ 64 → p < 2 ^ 64 → q < 2 ^ 64 → difference_64 q p < 5 → (v w : ℤ)
    → Some (cast_signed w64 (difference_64 (page t) (page p))) ≡ Some v
    → Some (cast_signed w64 (difference_64 t q)) ≡ Some w
    → IsWithin (Some (bit_bounds 21 Signed)) w → IsWithin (Some (bit_bounds 33 Signed)) v
near t p q small small' small'' following v w is is' within =
    let same : cast_signed w64 (difference_64 (page t) (page p)) ≡ v = cc in
    let same' : cast_signed w64 (difference_64 t q) ≡ w = cc in
    subst (λ z. IsWithin (Some (bit_bounds 33 Signed)) z) same
    (wide (difference_64 (page t) (page p)) (difference_below (page t) (page p))
    (pages t p q small small' small'' following
    (close (difference_64 t q) w (difference_below t q) same' within)))

-- ---- of operands

pub small_after : (n : ℕ) (o : Operands) → AreAddresses o → AreAddresses (following n o)
small_after n o small =
    are_addresses _ small.symbol (sum_below o.place n) small.got_entry small.got_base small.plt_entry small.tls_base

-- The page is near, where `adr` at the place, or after it, reaches the address.
abbrev pub AreNear : Operands → ℕ → Type 0
AreNear o q =
    (v w : ℤ)
    → Some (cast_signed w64 (difference_64 (page (sum_64 (symbol_address o) 0)) (page o.place))) ≡ Some v
    → Some (cast_signed w64 (difference_64 (sum_64 (symbol_address o) 0) q)) ≡ Some w
    → IsWithin (Some (bit_bounds 21 Signed)) w → IsWithin (Some (bit_bounds 33 Signed)) v

pub near_here : (o : Operands) → AreAddresses o → AreNear o o.place
near_here o small =
    let place = small.place in
    near (sum_64 (symbol_address o) 0) o.place o.place (sum_below (symbol_address o) 0) place place
    (omega arith)

pub near_after : (o : Operands) → AreAddresses o → AreNear o (sum_64 o.place 4)
near_after o small =
    let place = small.place in
    near (sum_64 (symbol_address o) 0) o.place (sum_64 o.place 4) (sum_below (symbol_address o) 0) place
    (sum_below o.place 4) (omega arith)
