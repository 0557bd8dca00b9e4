-- Words of packed relative relocations.
use Rattle.linker_output.proofs.Imports.{Leaves, List, arith, bit_or, capped, false, is_past, nat_tests, refl, set, subst, words_from, ℕ, ◌%◌, ◌*◌, ◌+◌, ◌-◌, ◌/◌, ◌<◌, ◌^◌, ◌∷◌, ◌≡◌, ◌≢◌, ◌≤◌}

-- one number is written
pub leaves_more : (index n : ℕ) (left numbers : List ℕ) (len : ℕ) (whole : List ℕ) → Leaves index (n ∷ left) numbers len whole → Leaves (capped (index + 1)) left (set numbers index n) len whole
leaves_more index n left numbers len whole h = record { counted = omega (arith, h.counted); written = h.written }

-- a full bitmap is written before the address
pub past_words : (base bitmap a : ℕ) (xs : List ℕ) → bitmap ≢ 1 → 512 ≤ a - base → words_from base bitmap (a ∷ xs) ≡ bitmap ∷ words_from (base + 504) 1 (a ∷ xs)
past_words base bitmap a xs some far = grind (arith, nat_tests)

-- an address is marked in the bitmap
pub near_words : (base bitmap a : ℕ) (xs : List ℕ) → is_past base bitmap a ≡ false → (a - base) / 8 < 64 → words_from base bitmap (a ∷ xs) ≡ words_from base (bit_or bitmap (1 * 2 ^ ((a - base) / 8) % 2 ^ 64)) xs
near_words base bitmap a xs within near = grind (arith, nat_tests)

-- an address is a word
pub far_words : (base a : ℕ) (xs : List ℕ) → 64 ≤ (a - base) / 8 → words_from base 1 (a ∷ xs) ≡ a ∷ words_from a 1 xs
far_words base a xs far = grind (arith, nat_tests)

-- what is known before an address is placed
pub record Ready (index base bitmap a : ℕ) (xs numbers : List ℕ) (len : ℕ) (whole : List ℕ) : Type 0 where
  pub leaves : Leaves index (words_from base bitmap (a ∷ xs)) numbers len whole
  pub within : is_past base bitmap a ≡ false
  pub below : base ≤ a
  pub fits : index < 2 ^ 64

pub past_ready : (index base bitmap a : ℕ) (xs numbers : List ℕ) (len : ℕ) (whole : List ℕ) → bitmap ≢ 1 → 512 ≤ a - base → Leaves index (words_from base bitmap (a ∷ xs)) numbers len whole → Ready (capped (index + 1)) (base + 504) 1 a xs (set numbers index bitmap) len whole
past_ready index base bitmap a xs numbers len whole some far h = record {
  leaves = leaves_more index bitmap _ numbers len whole (subst (λ ws. Leaves index ws numbers len whole) (past_words base bitmap a xs some far) h);
  within = refl;
  below = omega arith;
  fits = omega arith;
}

-- what is known after that
pub record Placed (index base bitmap a : ℕ) (xs numbers : List ℕ) (len : ℕ) (whole : List ℕ) : Type 0 where
  pub leaves : Leaves index (words_from base bitmap xs) numbers len whole
  pub below : base ≤ a
  pub fits : index < 2 ^ 64

pub near_placed : (index base bitmap a : ℕ) (xs numbers : List ℕ) (len : ℕ) (whole : List ℕ) → Ready index base bitmap a xs numbers len whole → (a - base) / 8 < 64 → Placed index base (bit_or bitmap (1 * 2 ^ ((a - base) / 8) % 2 ^ 64)) a xs numbers len whole
near_placed index base bitmap a xs numbers len whole h near = record {
  leaves = subst (λ ws. Leaves index ws numbers len whole) (near_words base bitmap a xs h.within near) h.leaves;
  below = h.below;
  fits = h.fits;
}

-- far from the base no bitmap is begun
pub clean : (base bitmap a : ℕ) → is_past base bitmap a ≡ false → 64 ≤ (a - base) / 8 → bitmap ≡ 1
clean base bitmap a within far = grind (arith, nat_tests)

pub far_placed : (index base bitmap a : ℕ) (xs numbers : List ℕ) (len : ℕ) (whole : List ℕ) → Ready index base bitmap a xs numbers len whole → 64 ≤ (a - base) / 8 → Placed (capped (index + 1)) a bitmap a xs (set numbers index a) len whole
far_placed index base bitmap a xs numbers len whole h far =
    let f : words_from base bitmap (a ∷ xs) ≡ a ∷ words_from a bitmap xs = rw (clean base bitmap a h.within far) (far_words base a xs far) in record {
      leaves = leaves_more index a _ numbers len whole (subst (λ ws. Leaves index ws numbers len whole) f h.leaves);
      below = omega arith;
      fits = omega arith;
    }
