-- Shapes reach what the rows of jumps reach.
use Rattle.linker_runs.proofs.Imports.{AreOfRows, IsAligned, IsEncoded, IsOfRow, IsSomeAnd, IsWithin, None, Option, RowInfo, Shape, Shapes, Some, [], ap, arith, cases_lt, inl, inr, ints, is_reached, is_supported, neg_ℤ, negsuc, pos, reach_of, short_shape, slice_index_or, subst, suc, sym, true, zero, ℕ, ℤ, ◌%◌, ◌*◌, ◌+◌, ◌-ℤ◌, ◌-◌, ◌<◌, ◌↔◌, ◌∷◌, ◌≡◌, ◌≤◌}
use Rattle.linker_elf.specs.Relocate.{IsInReach}
use Rattle.linker_runs.proofs.Nearer.{above_is, is_above, below_is, is_below}

-- distances up and down are multiples of a unit by their sizes
abbrev IsUnit : ℕ → Type 0
IsUnit unit = ((n : ℕ) → IsAligned unit (pos n) ↔ (n % unit ≡ 0))
    × ((n : ℕ) → IsAligned unit (negsuc n) ↔ ((n + 1) % unit ≡ 0))

pub twos : IsUnit 2
twos = (
  λ n. (λ h. cc, ap pos),
  λ n. (λ h. (let o : 1 - n % 2 ≡ 0 = cc in omega arith), λ h. (let o : n % 2 ≡ 1 = omega arith in ap (λ m. pos (1 - m)) o)),
)

pub fours : IsUnit 4
fours = (
  λ n. (λ h. cc, ap pos),
  λ n. (λ h. (let o : 3 - n % 4 ≡ 0 = cc in omega arith), λ h. (let o : n % 4 ≡ 3 = omega arith in ap (λ m. pos (3 - m)) o)),
)

pub up : (from to : ℕ) → from ≤ to → pos to -ℤ pos from ≡ pos (to - from)
up from to h = omega (arith, ints)

pub down : (from to : ℕ) → to < from → pos to -ℤ pos from ≡ negsuc (from - to - 1)
down from to h = omega (arith, ints)

before : (from to : ℕ) → to < from → from - to - 1 + 1 ≡ from - to
before from to h = omega arith

-- a shape that reaches as far in both directions
module _ (kept size unit : ℕ) (is : IsUnit unit) where
  abbrev pub shape : Shape
  shape = record { kept = kept; max_backward = size; max_forward = size; granularity = unit }

  pub reached_is : (from to : ℕ) → is_reached shape from to ≡ true → IsAligned unit (pos to -ℤ pos from) × (to < from + size) × (from ≤ to + size)
  reached_is from to h = elim (cases_lt to from) [
    | inl low ↦
        let r = below_is shape from to low h in
        (rw (down from to low) ((is.1 (from - to - 1)).1 (rw (before from to low) r.1)), omega arith, omega (arith, r.0))
    | inr high ↦
        let r = above_is shape from to high h in
        (rw (up from to high) ((is.0 (to - from)).1 r.1), omega (arith, r.0), omega arith)
  ]

  pub is_within : (from to : ℕ) → IsAligned unit (pos to -ℤ pos from) → to < from + size → from ≤ to + size → is_reached shape from to ≡ true
  is_within from to aligned above below = elim (cases_lt to from) [
    | inl low ↦ is_below shape from to low (omega arith) (rw (before from to low) at ((is.1 (from - to - 1)).0 (rw (down from to low) at aligned)))
    | inr high ↦ is_above shape from to high (omega arith) ((is.0 (to - from)).0 (rw (up from to high) at aligned))
  ]

  -- and the row of an instruction that does
  module _ (row : RowInfo) (supported : is_supported row ≡ true) (alignment : row.alignment ≡ unit) (encoded : (v : ℤ) → IsEncoded row.size v)
      (within : (from to : ℕ) → IsAligned unit (pos to -ℤ pos from) → ((to < from + size) × (from ≤ to + size)) ↔ IsWithin (reach_of row) (pos to -ℤ pos from)) where
    pub is_of_row : (from to : ℕ) → (is_reached shape from to ≡ true) ↔ IsInReach row (pos to -ℤ pos from)
    is_of_row from to =
        let d = pos to -ℤ pos from in (
          λ h. (let r = reached_is from to h in record {
            supported = supported;
            within = (within from to r.0).0 (r.1, r.2);
            encoded = encoded d;
            aligned = subst (λ n. IsAligned n d) (sym alignment) r.0;
          }),
          λ h. (let aligned = subst (λ n. IsAligned n d) alignment h.aligned in let w = (within from to aligned).1 h.within in is_within from to aligned w.0 w.1),
        )

-- what is below an even bound is below the number before it
pub even_within : (half from to : ℕ) → 0 < half → IsAligned 2 (pos to -ℤ pos from)
    → ((to < from + 2 * half) × (from ≤ to + 2 * half)) ↔ IsWithin (Some (neg_ℤ (pos (2 * half)), pos (2 * half - 1))) (pos to -ℤ pos from)
even_within half from to some aligned = (
  λ h. (let above = h.0 in let below = h.1 in elim (cases_lt to from) [
    | inl low ↦ (omega (arith, ints), omega (arith, ints))
    | inr high ↦ let even = (twos.0 (to - from)).0 (rw (up from to high) at aligned) in (omega (arith, ints), omega (arith, ints))
  ]),
  λ h. (let least = h.0 in let most = h.1 in (omega (arith, ints), omega (arith, ints))),
)

pub size_within : (size from to : ℕ)
    → ((to < from + size) × (from ≤ to + size)) ↔ IsWithin (Some (neg_ℤ (pos size), pos size)) (pos to -ℤ pos from)
size_within size from to = (
  λ h. (let above = h.0 in let below = h.1 in (omega (arith, ints), omega (arith, ints))),
  λ h. (let least = h.0 in let most = h.1 in (omega (arith, ints), omega (arith, ints))),
)

-- shapes of one short one
pub one : (shapes : Shapes) (row : Option RowInfo) → shapes.count ≡ 1 → shapes.longest ≡ 8 → IsSomeAnd row (IsOfRow (short_shape shapes 0)) → AreOfRows shapes (row ∷ [])
one shapes row count longest is = record { count = count; each = each; longest = longest }
  where
    each : (k : ℕ) → k < 1 → IsSomeAnd (slice_index_or (row ∷ []) k None) (IsOfRow (short_shape shapes k))
    each zero below = is
    each (suc k) below = absurd (omega arith)

pub two : (shapes : Shapes) (short long : Option RowInfo) → shapes.count ≡ 2 → shapes.longest ≡ 8 → IsSomeAnd short (IsOfRow (short_shape shapes 0)) → IsSomeAnd long (IsOfRow (short_shape shapes 1)) → AreOfRows shapes (short ∷ long ∷ [])
two shapes short long count longest is is' = record { count = count; each = each; longest = longest }
  where
    each : (k : ℕ) → k < 2 → IsSomeAnd (slice_index_or (short ∷ long ∷ []) k None) (IsOfRow (short_shape shapes k))
    each zero below = is
    each (suc zero) below = is'
    each (suc (suc k)) below = absurd (omega arith)
